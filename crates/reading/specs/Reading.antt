-- What a reader answers, held against the definition: the token with its texts laid behind the bytes used so far, the place behind
-- it, and what the lent bytes hold at exit.
use Rattle.std.specs.Prelude.{◌*◌, ◌+◌, ◌^◌, ◌<◌, ◌≤◌, ℕ, List, Result, Ok, Err, ◌≡◌, get_or, length, replicate}
use Rattle.std.proofs.lemmas.List.Edits.{sets}
use Rattle.yaml_text.specs.declared.Mark.{Mark}
use Rattle.yaml_text.specs.declared.Refusal.{Refusal}
use Rattle.yaml_text.specs.Mark as definition
use Rattle.yaml_text.specs.Refusal.{Read, got, refused}
use Rattle.yaml_lexeme.specs.declared.Token.{Token}
use Rattle.yaml_lexeme.specs.declared.Kind.{Kind}
use Rattle.yaml_lexeme.specs.declared.Kind.TheVariants as kind
use Rattle.yaml_lexeme.specs.Token as tokens
use Rattle.yaml_lexeme.specs.Record.{laid_token}
use Rattle.chars.specs.declared.mark.Place.{Place}
use Rattle.chars.specs.View.{Stands, view}
use Rattle.reading.specs.declared.Lexeme.{Lexeme}

-- a reader's own first byte, at the mark m
abbrev pub first_at : Mark → Place
first_at m = record { at = 0; mark = m }

-- what a reader is given: the text from its own first byte at the mark `start`, behind so many bytes of decoded text
pub record ReaderGiven (text : List ℕ) (start : Mark) (used : ℕ) : Type 0 where
  pub stands : Stands text (first_at start)
  pub room : used < 2 ^ 31

-- the same, an indicator of one byte being its first character
pub record Indicated (text : List ℕ) (start : Mark) (used : ℕ) : Type 0 where
  pub given : ReaderGiven text start used
  pub some : 1 ≤ length text
  pub ascii : get_or text 0 0 < 128

-- a token as code holds it, with the definition's place behind it
pub record Seen : Type 0 where
  pub token : Token
  pub place : definition.Place

-- what code answers
unfoldable pub seen : List ℕ → Result Lexeme Refusal → Read Seen
seen text (Ok l) = got (record { token = l.token; place = view text l.next })
seen text (Err f) = refused f.number f.mark

-- what the definition answers, its texts behind the bytes used so far
unfoldable pub laid_read : ℕ → Read tokens.Lexeme → Read Seen
laid_read used (got l) = got (record { token = laid_token used l.token; place = l.place })
laid_read used (refused n m) = refused n m

-- the text clipped to the room; a refusal leaves the lent bytes all zero
unfoldable pub bytes_after : List ℕ → Read tokens.Lexeme → List ℕ
bytes_after before (got l) = sets before 0 (tokens.token_bytes l.token)
bytes_after before (refused n m) = replicate (length before) 0

-- how many bytes the texts of a kind take
unfoldable pub text_size : Kind → ℕ
text_size kind.StreamStart = 0
text_size kind.StreamEnd = 0
text_size (kind.VersionDirective a b) = 0
text_size (kind.TagDirective t u) = t.len + u.len
text_size kind.DocumentStart = 0
text_size kind.DocumentEnd = 0
text_size kind.ByteOrderMark = 0
text_size kind.BlockSequenceStart = 0
text_size kind.BlockMappingStart = 0
text_size kind.BlockEnd = 0
text_size kind.FlowSequenceStart = 0
text_size kind.FlowSequenceEnd = 0
text_size kind.FlowMappingStart = 0
text_size kind.FlowMappingEnd = 0
text_size kind.BlockEntry = 0
text_size kind.FlowEntry = 0
text_size kind.Key = 0
text_size kind.Value = 0
text_size (kind.Alias t) = t.len
text_size (kind.Anchor t) = t.len
text_size (kind.Tag t u) = t.len + u.len
text_size (kind.Scalar s t) = t.len
text_size (kind.ReservedDirective t u) = t.len + u.len

-- the place behind a token stands in the text, past its first byte; its texts take at most three bytes for each that was read
pub record Behind (text : List ℕ) (l : Lexeme) : Type 0 where
  pub stands : Stands text l.next
  pub some : 1 ≤ l.next.at
  pub size : text_size l.token.kind ≤ 3 * l.next.at

abbrev pub ReadsAhead : List ℕ → Result Lexeme Refusal → Type 0
ReadsAhead text (Ok l) = Behind text l
ReadsAhead text (Err f) = Unit {0}

-- the contract of a reader
pub record Lexes (text before after : List ℕ) (used : ℕ) (r : Result Lexeme Refusal) (d : Read tokens.Lexeme) : Type 0 where
  pub same : seen text r ≡ laid_read used d
  pub bytes : after ≡ bytes_after before d
  pub ahead : ReadsAhead text r

-- a refusal leaves the lent bytes all zero, and anything else leaves them as they are
unfoldable pub cleared : List ℕ → Result Lexeme Refusal → List ℕ
cleared before (Ok l) = before
cleared before (Err f) = replicate (length before) 0

pub record Clears (before after : List ℕ) (r e : Result Lexeme Refusal) : Type 0 where
  pub same : e ≡ r
  pub bytes : after ≡ cleared before r

-- the same of a place that is reached, or not
unfoldable pub seen_place : List ℕ → Result Place Refusal → Read definition.Place
seen_place text (Ok p) = got (view text p)
seen_place text (Err f) = refused f.number f.mark

abbrev pub Onward : List ℕ → Place → Result Place Refusal → Type 0
Onward text p (Ok q) = Stands text q × (p.at ≤ q.at)
Onward text p (Err f) = Unit {0}

pub record ReachesAs (text : List ℕ) (p : Place) (r : Result Place Refusal) (d : Read definition.Place) : Type 0 where
  pub same : seen_place text r ≡ d
  pub onward : Onward text p r
