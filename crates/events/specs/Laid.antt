-- Events in a row: their texts are laid one behind the other, and a kind without text is laid the same everywhere.
use Prim.Native.Nat.{◌+◌, suc, zero, ℕ}
use Rattle.std.specs.Prelude.{Bool, false, true, List, [], ◌++◌, ◌∷◌, ◌≡◌, length}
use Rattle.std.proofs.Common.{append_assoc, ◌∙◌, sym, length-append}
use Rattle.std.proofs.Math.Path.{refl}
use native.Mathlib.Omega.{arith}
use Rattle.yaml_text.specs.declared.Mark.{Mark}
use Rattle.yaml_lexeme.specs.declared.Kind as held
use Rattle.yaml_lexeme.specs.declared.Kind.TheVariants as held_as
use Rattle.yaml_lexeme.specs.declared.Token as held_token
use Rattle.yaml_lexeme.specs.Token.{BlockEnd, BlockMappingStart, BlockSequenceStart, FlowMappingEnd, FlowMappingStart, Kind, Token, kind_bytes, token_bytes}
use Rattle.yaml_lexeme.specs.Record.{laid}
use Rattle.yaml_scan.specs.State.{Event, block_ends, empty_if, put, put_before, puts}
use Rattle.events.specs.declared.Note.{Note}
use Rattle.events.specs.declared.Opening.{Opening}
use Rattle.events.specs.declared.Opening.TheVariants as opening
use Rattle.reading.specs.Reading.{text_size}
use Rattle.events.specs.Event.{closing_of, empty_of, ends_of, event_texts, laid_events, laid_of, noted_of, noting_of, opened_of, opening_if, opening_of}
use Rattle.events.specs.Event as event
use Rattle.events.specs.Weighed.{laid_size}

-- events in a row

pub texts_append : (es fs : List Event) → event_texts (es ++ fs) ≡ event_texts es ++ event_texts fs
unfolding event_texts
texts_append [] fs = refl
texts_append (put t ∷ es) fs = rw (texts_append es fs) (sym (append_assoc (token_bytes t) (event_texts es) (event_texts fs)))
texts_append (put_before n ts ∷ es) fs = texts_append es fs

pub laid_append : (used : ℕ) (es fs : List Event)
    → laid_events used (es ++ fs) ≡ laid_events used es ++ laid_events (used + length (event_texts es)) fs
unfolding laid_events event_texts
laid_append used [] fs = let e : used + 0 ≡ used = omega arith in rw e
laid_append used (put t ∷ es) fs =
    let n = length (token_bytes t) in
    let e : used + n + length (event_texts es) ≡ used + length (token_bytes t ++ event_texts es) = omega (arith, length-append (token_bytes t) (event_texts es)) in
    rw (laid_append (used + n) es fs, e)
laid_append used (put_before n ts ∷ es) fs = rw (laid_append used es fs)

pub puts_append : (es fs : List Event) → puts (es ++ fs) ≡ puts es + puts fs
unfolding puts
puts_append [] fs = omega arith
puts_append (put t ∷ es) fs = let e = puts_append es fs in omega arith
puts_append (put_before n ts ∷ es) fs = puts_append es fs

-- the held kind h is the kind k, which has no text; to show it: record { same = λ used. refl; bytes = refl }
pub record Textless (k : Kind) (h : held.Kind) : Type 0 where
  pub same : (used : ℕ) → laid used k ≡ h
  pub bytes : kind_bytes k ≡ []

-- a kind without text has size 0
pub textless_size : {k : Kind} {h : held.Kind} → Textless k h → text_size h ≡ 0
textless_size {k} t = rw (← t.same 0, laid_size 0 k, t.bytes)

-- a token without text
module _ {k : Kind} {h : held.Kind} (t : Textless k h) (used : ℕ) (start end : Mark) (es : List Event) where
  abbrev token : Token
  token = record { kind = k; start = start; end = end }

  pub laid_textless : laid_events used (put token ∷ es) ≡ event.put (record { kind = h; start = start; end = end }) ∷ laid_events used es
  unfolding laid_events
  laid_textless = let e : used + 0 ≡ used = omega arith in rw (t.same used, t.bytes, e)

  pub texts_textless : event_texts (put token ∷ es) ≡ event_texts es
  unfolding event_texts
  texts_textless = rw t.bytes

-- ends of blocks

pub block_end : Textless BlockEnd held_as.BlockEnd
unfolding laid kind_bytes
block_end = record { same = λ used. refl; bytes = refl }

module _ (m : Mark) (es : List Event) where
  pub laid_ends : (used n : ℕ) → laid_events used (block_ends n m ++ es) ≡ ends_of n m ++ laid_events used es
  laid_ends used zero = refl
  laid_ends used (suc n) = rw (laid_textless block_end used m m (block_ends n m ++ es), laid_ends used n)

  pub texts_ends : (n : ℕ) → event_texts (block_ends n m ++ es) ≡ event_texts es
  texts_ends zero = refl
  texts_ends (suc n) = texts_textless block_end 0 m m (block_ends n m ++ es) ∙ texts_ends n

  pub puts_ends : (n : ℕ) → puts (block_ends n m ++ es) ≡ n + puts es
  unfolding puts
  puts_ends zero = omega arith
  puts_ends (suc n) = let e = puts_ends n in omega arith

-- an empty token that comes first: the opening o is the kind k
pub record OpeningIs (k : Kind) (o : Opening) : Type 0 where
  pub same : (used : ℕ) (m : Mark) → opened_of m o ≡ event.put (empty_of (laid used k) m) ∷ []
  pub bytes : kind_bytes k ≡ []

pub opens_sequence : OpeningIs BlockSequenceStart opening.BlockSequenceStart
unfolding opened_of laid kind_bytes
opens_sequence = record { same = λ used m. refl; bytes = refl }

pub opens_mapping : OpeningIs BlockMappingStart opening.BlockMappingStart
unfolding opened_of laid kind_bytes
opens_mapping = record { same = λ used m. refl; bytes = refl }

pub opens_flow_mapping : OpeningIs FlowMappingStart opening.FlowMappingStart
unfolding opened_of laid kind_bytes
opens_flow_mapping = record { same = λ used m. refl; bytes = refl }

pub opens_flow_end : OpeningIs FlowMappingEnd opening.FlowMappingEnd
unfolding opened_of laid kind_bytes
opens_flow_end = record { same = λ used m. refl; bytes = refl }

-- where a test holds
pub laid_opening : {k : Kind} {o : Opening} → OpeningIs k o → (used : ℕ) (m : Mark) (es : List Event) (b : Bool)
    → laid_events used (empty_if b k m ++ es) ≡ opened_of m (opening_if b o) ++ laid_events used es
unfolding opened_of laid_events
laid_opening w used m es true = let e : used + 0 ≡ used = omega arith in rw (w.same used m, w.bytes, e)
laid_opening w used m es false = refl

-- what an event of the code says, by its parts

module _ (m : Mark) (t : held_token.Token) where
  pub laid_of_opening : (o : Opening) → laid_of m (opening_of o t) ≡ opened_of t.start o ++ (event.put t ∷ [])
  unfolding laid_of noted_of
  laid_of_opening o = refl

  pub laid_of_noting : (n : Note) → laid_of m (noting_of n t) ≡ noted_of m n ++ (event.put t ∷ [])
  unfolding laid_of opened_of
  laid_of_noting n = refl

  pub laid_of_closing : (n : ℕ) → laid_of m (closing_of n t) ≡ ends_of n t.start ++ (event.put t ∷ [])
  unfolding laid_of noted_of opened_of
  laid_of_closing n = refl
