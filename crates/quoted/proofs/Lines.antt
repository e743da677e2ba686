-- Whether text is held against a document marker and the indent, told by the byte there.
use Prim.Native.Nat.{◌<◌, ◌≤◌, ℕ}
use mathlib.Core.Bool.{Bool, false, true}
use mathlib.Core.List.{List}
use mathlib.Core.Path.{◌∙◌, ◌≡◌, sym}
use Rattle.std.specs.Prelude.{⊤}
use Rattle.std.proofs.Common.{Err, Ok, Result}
use Rattle.yaml_text.specs.declared.Refusal.{Refusal}
use lib.Dec.{eqb}
use lib.ListN.{drop, get_or}
use borrow.Author.Tests.{le-ltb, lt-ltb}
use Rattle.yaml_text.specs.Class.{peek}
use Rattle.yaml_text.specs.Mark.{edge_of, is_marker}
use Rattle.yaml_text.specs.Utf8.{chars}
use Rattle.chars.specs.declared.mark.Place.{Place}
use Rattle.chars.specs.Bytes.{eq_at}
use Rattle.quoted.specs.declared.fold.Mode.{Mode}
use Rattle.quoted.specs.declared.turns.Quote.{Quote}
use Rattle.quoted.specs.Modes.{held_against, line_held}
use Rattle.quoted.specs.Texts.{quote_by}
use Rattle.quoted.specs.Advance.{quote_of}

-- whether the quote stands at an offset
pub quote_at : (s : List ℕ) (at b : ℕ) → b ≡ get_or s at 0 → (single : Bool) → eqb (peek (chars (drop at s)) 0) (quote_by single) ≡ eqb b (quote_by single)
quote_at s at b e true = eq_at s at b e 39 tt
quote_at s at b e false = eq_at s at b e 34 tt

module _ (text : List ℕ) (q : Quote) (p : Place) (mode : Mode) {b k : ℕ} {h : Bool} (e : b ≡ get_or text p.at 0) (f : k ≡ quote_by q.single)
    (g : h ≡ held_against mode (eqb b k)) where
  held : held_against mode (eqb (peek (chars (drop p.at text)) 0) (quote_by q.single)) ≡ h
  held = rw (quote_at text p.at b e q.single, ← f) (sym g)

  abbrev told : Result ⊤ Refusal
  told = line_held (quote_of q) mode p.mark (chars (drop p.at text))

  pub held_free : h ≡ false → Ok tt ≡ told
  unfolding line_held
  held_free t = rw (held, t)

  module _ (t : h ≡ true) where
    pub held_marker : {r : Result ⊤ Refusal} → is_marker p.mark (chars (drop p.at text)) ≡ true → r ≡ Err (record { number = 33; mark = q.start }) → r ≡ told
    unfolding line_held
    held_marker u i = i ∙ rw (held, t, u)

    module _ (u : is_marker p.mark (chars (drop p.at text)) ≡ false) where
      pub held_short : {r : Result ⊤ Refusal} → edge_of p.mark < q.indent → r ≡ Err (record { number = 35; mark = q.start }) → r ≡ told
      unfolding line_held
      held_short v i = i ∙ rw (held, t, u, lt-ltb (edge_of p.mark) q.indent v)

      pub held_none : q.indent ≤ edge_of p.mark → Ok tt ≡ told
      unfolding line_held
      held_none v = rw (held, t, u, le-ltb (edge_of p.mark) q.indent v)

-- the cases of `check_line`
pub ruleset by_line = (held_free, held_marker, held_none, held_short)
