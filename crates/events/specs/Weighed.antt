-- How many tokens are said, and how many bytes of text they have: the same of an event of the code and of the definition's events.
use Rattle.std.specs.Prelude.{◌+◌, suc, zero, ℕ, ◌≡◌, refl, length}
use mathlib.Core.List.{List, [], ◌++◌, ◌∷◌}
use Rattle.std.proofs.Common.{◌∙◌, ap, sym, arith, length-append}
use Rattle.yaml_text.specs.declared.Mark.{Mark}
use Rattle.yaml_text.specs.Utf8.{encode}
use Rattle.yaml_lexeme.specs.declared.Token as held
use Rattle.yaml_lexeme.specs.Token.{Alias, Anchor, BlockEnd, BlockEntry, BlockMappingStart, BlockSequenceStart, ByteOrderMark, DocumentEnd, DocumentStart, FlowEntry, FlowMappingEnd, FlowMappingStart, FlowSequenceEnd, FlowSequenceStart, Key, Kind, ReservedDirective, Scalar, StreamEnd, StreamStart, Tag, TagDirective, Value, VersionDirective, kind_bytes, token_bytes}
use Rattle.yaml_lexeme.specs.Record.{laid}
use Rattle.yaml_scan.specs.State.{Event, put, put_before, puts}
use Rattle.events.specs.declared.Event as code
use Rattle.events.specs.declared.Note.{Note}
use Rattle.events.specs.declared.Note.TheVariants as note
use Rattle.events.specs.declared.Opening.{Opening}
use Rattle.events.specs.declared.Opening.TheVariants as opening
use Rattle.reading.specs.Reading.{text_size}
use Rattle.events.specs.Event.{LaidEvent, ends_of, event_size, event_texts, laid_events, noted_of, opened_of, opening_size, laid_of}
use Rattle.events.specs.Event as event

-- a held kind has the size of its texts
pub laid_size : (used : ℕ) (k : Kind) → text_size (laid used k) ≡ length (kind_bytes k)
unfolding laid text_size kind_bytes
laid_size used StreamStart = refl
laid_size used StreamEnd = refl
laid_size used (VersionDirective a b) = refl
laid_size used (TagDirective t u) = sym (length-append (encode t) (encode u))
laid_size used DocumentStart = refl
laid_size used DocumentEnd = refl
laid_size used ByteOrderMark = refl
laid_size used BlockSequenceStart = refl
laid_size used BlockMappingStart = refl
laid_size used BlockEnd = refl
laid_size used FlowSequenceStart = refl
laid_size used FlowSequenceEnd = refl
laid_size used FlowMappingStart = refl
laid_size used FlowMappingEnd = refl
laid_size used BlockEntry = refl
laid_size used FlowEntry = refl
laid_size used Key = refl
laid_size used Value = refl
laid_size used (Alias t) = refl
laid_size used (Anchor t) = refl
laid_size used (Tag t u) = sym (length-append (encode t) (encode u))
laid_size used (Scalar s t) = refl
laid_size used (ReservedDirective t u) = sym (length-append (encode t) (encode u))

-- the sum of a weight over the tokens that come next
unfoldable pub laid_sum : (held.Token → ℕ) → List LaidEvent → ℕ
laid_sum w [] = 0
laid_sum w (event.put t ∷ hs) = w t + laid_sum w hs
laid_sum w (event.put_before n ts ∷ hs) = laid_sum w hs

abbrev pub one : held.Token → ℕ
one t = 1

abbrev pub bytes : held.Token → ℕ
bytes t = text_size t.kind

sum_append : (w : held.Token → ℕ) (hs is : List LaidEvent) → laid_sum w (hs ++ is) ≡ laid_sum w hs + laid_sum w is
unfolding laid_sum
sum_append w [] is = omega arith
sum_append w (event.put t ∷ hs) is = let e = sum_append w hs is in omega arith
sum_append w (event.put_before n ts ∷ hs) is = sum_append w hs is

-- of the definition's events

pub laid_puts : (used : ℕ) (es : List Event) → laid_sum one (laid_events used es) ≡ puts es
unfolding laid_sum laid_events puts
laid_puts used [] = refl
laid_puts used (put t ∷ es) = let e = laid_puts (used + length (token_bytes t)) es in omega arith
laid_puts used (put_before n ts ∷ es) = laid_puts used es

pub laid_bytes : (used : ℕ) (es : List Event) → laid_sum bytes (laid_events used es) ≡ length (event_texts es)
unfolding laid_sum laid_events event_texts
laid_bytes used [] = refl
laid_bytes used (put t ∷ es) =
    rw (laid_size used t.kind, laid_bytes (used + length (token_bytes t)) es)
    (sym (length-append (token_bytes t) (event_texts es)))
laid_bytes used (put_before n ts ∷ es) = laid_bytes used es

-- of an event of the code

noted_sum : (w : held.Token → ℕ) (m : Mark) (n : Note) → laid_sum w (noted_of m n) ≡ 0
unfolding laid_sum noted_of
noted_sum w m note.Nothing = refl
noted_sum w m (note.Key n) = refl
noted_sum w m (note.Pair n) = refl
noted_sum w m (note.Block n) = refl

ends_puts : (n : ℕ) (m : Mark) → laid_sum one (ends_of n m) ≡ n
unfolding laid_sum
ends_puts zero m = refl
ends_puts (suc n) m = let e = ends_puts n m in omega arith

ends_bytes : (n : ℕ) (m : Mark) → laid_sum bytes (ends_of n m) ≡ 0
unfolding laid_sum text_size
ends_bytes zero m = refl
ends_bytes (suc n) m = let e = ends_bytes n m in omega arith

opened_puts : (m : Mark) (o : Opening) → laid_sum one (opened_of m o) ≡ opening_size o
unfolding laid_sum opened_of
opened_puts m opening.Nothing = refl
opened_puts m opening.BlockSequenceStart = refl
opened_puts m opening.BlockMappingStart = refl
opened_puts m opening.FlowMappingStart = refl
opened_puts m opening.FlowMappingEnd = refl

opened_bytes : (m : Mark) (o : Opening) → laid_sum bytes (opened_of m o) ≡ 0
unfolding laid_sum opened_of text_size
opened_bytes m opening.Nothing = refl
opened_bytes m opening.BlockSequenceStart = refl
opened_bytes m opening.BlockMappingStart = refl
opened_bytes m opening.FlowMappingStart = refl
opened_bytes m opening.FlowMappingEnd = refl

module _ (m : Mark) (e : code.Event) where
  start : Mark
  start = e.token.start

  by_parts : (w : held.Token → ℕ)
      → laid_sum w (laid_of m e) ≡ laid_sum w (ends_of e.closed start) + laid_sum w (opened_of start e.opening) + w e.token
  unfolding start laid_of laid_sum
  by_parts w =
      let last = event.put e.token ∷ [] in
      let opened = opened_of e.token.start e.opening in
      let ends = ends_of e.closed e.token.start in
      let p = sum_append w (noted_of m e.note) (ends ++ (opened ++ last)) in
      let q = sum_append w ends (opened ++ last) in
      let r = sum_append w opened last in
      omega (arith, noted_sum w m e.note)

  pub event_puts : laid_sum one (laid_of m e) ≡ event_size e
  unfolding start
  event_puts = by_parts one ∙ rw (ends_puts e.closed e.token.start, opened_puts e.token.start e.opening)

  pub event_bytes : laid_sum bytes (laid_of m e) ≡ text_size e.token.kind
  unfolding start
  event_bytes = by_parts bytes ∙ rw (ends_bytes e.closed e.token.start, opened_bytes e.token.start e.opening) (omega arith)

-- where the code says the definition's events

none : (l : List ℕ) → length l ≡ 0 → l ≡ []
none [] q = refl
none (a ∷ l) q = absurd (omega arith)

module _ (m : Mark) (e : code.Event) (used : ℕ) (es : List Event) (h : laid_of m e ≡ laid_events used es) where
  pub same_puts : puts es ≡ event_size e
  same_puts = sym (laid_puts used es) ∙ ap (laid_sum one) (sym h) ∙ event_puts m e

  pub same_bytes : length (event_texts es) ≡ text_size e.token.kind
  same_bytes = sym (laid_bytes used es) ∙ ap (laid_sum bytes) (sym h) ∙ event_bytes m e

  pub no_bytes : text_size e.token.kind ≡ 0 → event_texts es ≡ []
  no_bytes z = none (event_texts es) (same_bytes ∙ z)
