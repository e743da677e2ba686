-- What a reader asks for and answers of the rest of a text, held against the definition's reader at the same place.
use Rattle.std.proofs.Common.{◌+◌, ◌<◌, ◌^◌, ◌≤◌, ◌≡◌, ℕ, List, Ok, Result, arith, false, drop, get_or, get_or-drop, length, refl}
use Rattle.yaml_text.specs.declared.Refusal.{Refusal}
use Rattle.yaml_text.specs.Class.{is_z, peek}
use Rattle.yaml_text.specs.Mark as mark
use Rattle.yaml_text.specs.Refusal.{Read, ◌>>=◌, got, refused}
use Rattle.yaml_text.specs.Utf8.{chars}
use Rattle.yaml_lexeme.specs.Token as tokens
use Rattle.yaml_scan.specs.declared.Limits.{Limits}
use Rattle.yaml_scan.specs.State.{News}
use Rattle.chars.specs.declared.mark.Place.{Place}
use Rattle.chars.specs.View.{Stands, view}
use Rattle.reading.specs.declared.Lexeme.{Lexeme}
use Rattle.reading.specs.Reading.{Behind, Indicated, Lexes, ReaderGiven, first_at}
use Rattle.stacks.specs.declared.indent.Indents.{Indents}
use Rattle.stacks.specs.Indent.{Low}
use Rattle.states.specs.declared.State.{State}
use Rattle.states.specs.Fetch.{OneByte, Ready}
use Rattle.states.specs.Rest.{behind_fits, is_rest, rest_at, rest_given, rest_indicated}
use Rattle.text_tokens.specs.Lexeme.{Reader, ReadsLent, unused}

-- what a reader asks for

module _ {text : List ℕ} {p : Place} (h : Stands text p) where
  -- where a character of one byte stands
  pub lit : {used : ℕ} → used < 2 ^ 31 → OneByte text p → Indicated (rest_at text p) p.mark used
  lit u o = rest_indicated text p (is_rest text p) h u o.some o.ascii

  -- where the text does not end
  pub lit_plain : {used : ℕ} → used < 2 ^ 31 → is_z (peek (chars (drop p.at text)) 0) ≡ false
      → ReaderGiven (rest_at text p) p.mark used × (is_z (peek (chars (rest_at text p)) 0) ≡ false)
  lit_plain u z = (rest_given text p (is_rest text p) h u, rw (is_rest text p) z)

-- the first byte of the rest
pub first_byte : (text : List ℕ) (p : Place) → get_or (rest_at text p) 0 0 ≡ get_or text p.at 0
first_byte text p = let z : p.at + 0 ≡ p.at = omega arith in rw (is_rest text p, get_or-drop p.at text 0 0, z)

-- a ready state's indents are low, with entries that went too
pub low_indent : {limits : Limits} {text a : List ℕ} {s : State} {i : Indents} → Ready limits text a s → Low limits.entries i → i.indent < 2 ^ 21
low_indent y h = omega (arith, y.lent)

-- the place behind what was read wraps nowhere
module _ {limits : Limits} {text a : List ℕ} {s : State} {l : Lexeme} (y : Ready limits text a s) (h : Behind (rest_at text s.place) l) where
  pub read_fits : length text < 2 ^ 63 → s.place.at + l.next.at < 2 ^ 63
  read_fits n = behind_fits text s.place (is_rest text s.place) y.stands h.stands n

  pub read_index : length text < 2 ^ 63 → l.next.mark.index < 2 ^ 31
  read_index n = omega (arith, h.stands)

-- the definition's reader, at the same place, and what it does with what it read

abbrev pub from_here : List ℕ → State → mark.Place
from_here text s = view (rest_at text s.place) (first_at s.place.mark)

pub same_for_all : (x : Read tokens.Lexeme) {f g : tokens.Lexeme → Read News} → ((l : tokens.Lexeme) → f l ≡ g l) → (x >>= f) ≡ (x >>= g)
unfolding ◌>>=◌
same_for_all (got l) h = h l
same_for_all (refused n m) h = refl

-- what the reader f answered, where it was lent the rest of the text and the unused end of the bytes
module _ {F R : Type 0} {g : Reader F R} {f : F} (text : List ℕ) {before after : List ℕ} (s : State) {used : ℕ} {r : R} (k : ReadsLent g f (rest_at text s.place) before after used r) where
  pub read_here : (o : Result Lexeme Refusal) (d : mark.Place → Read tokens.Lexeme)
      → Lexes k.shown.now k.lent.now k.left.now used o (d (view k.shown.now (first_at s.place.mark)))
      → Lexes (rest_at text s.place) (unused used before) k.left.now used o (d (from_here text s))
  read_here o d h = rw (k.shows, k.lends) at h
