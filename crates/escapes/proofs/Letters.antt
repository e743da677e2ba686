-- The escapes of double quotes, by the letter behind the backslash.
use Rattle.std.specs.Prelude.{Some, None}
use Prim.Native.Nat.{◌+◌, ◌-◌, ◌<◌, ◌≤◌, ℕ}
use mathlib.Core.Bool.{false, true}
use mathlib.Core.List.{List, [], ◌∷◌}
use mathlib.Core.Path.{◌∙◌, ◌≡◌, ap, refl, subst, sym}
use native.Mathlib.Omega.{arith}
use lib.Dec.{T, eqb}
use lib.ListN.{drop}
use borrow.Author.Tests.{eqb-true, ne_eqb}
use mir.Facts.{and_yes}
use Rattle.yaml_text.specs.declared.Mark.{Mark}
use Rattle.yaml_text.specs.Class.{among, peek}
use Rattle.yaml_text.specs.Refusal.{◌>>=◌, got, need, refused}
use Rattle.yaml_text.specs.Test.{by_test}
use Rattle.yaml_text.specs.Utf8.{chars, is_scalar}
use Rattle.yaml_text.specs.Utf8Laws.{bytes1}
use Rattle.yaml_lexeme.specs.declared.Named.{Named}
use Rattle.yaml_lexeme.specs.declared.Named.TheVariants.{Digits, Stands, Unknown}
use Rattle.yaml_lexeme.specs.Table.{looked_up}
use Rattle.yaml_lexeme.specs.Escape.{Row, escape, escape_of, escapes, named}
use Rattle.yaml_lexeme.specs.EscapeTable.{each_row}
use Rattle.chars.specs.Bytes.{CharAt, peek_char}
use Rattle.chars.specs.Reach.{reach_one, reach_rest}
use Rattle.escapes.specs.Parts.{Letter, NumberAt}

-- the numbers that a `match` has passed by, the last one first
abbrev Passed : List ℕ → ℕ → Type 0
Passed [] c = Unit {0}
Passed (k ∷ ks) c = Passed ks c × (c ≡ k → ⊥)

passed : (ks : List ℕ) (c : ℕ) → Passed ks c → among c ks ≡ false
unfolding among
passed [] c h = refl
passed (k ∷ ks) c h = rw (ne_eqb c k h.1) (passed ks c h.0)

-- a letter that is in no row
not_in : (ks : List ℕ) (rows : List Row) (c : ℕ) → T (each_row (λ l _. among l ks) rows) → among c ks ≡ false → looked_up Unknown c rows ≡ Unknown
unfolding looked_up
not_in ks [] c t h = refl
not_in ks (r ∷ rs) c t h =
    let b = and_yes (among r.0 ks) (each_row (λ l _. among l ks) rs) t in
    by_test (eqb c r.0)
    (λ e. absurd (rw (← (eqb-true c r.0 e), h) at b.0))
    (λ e. rw (e, looked_up) (not_in ks rs c b.1 h))

pub unlettered : (ks : List ℕ) (c : ℕ) → T (each_row (λ l _. among l ks) escapes) → Passed ks c → Unknown ≡ named c
unfolding named
unlettered ks c t h = sym (not_in ks escapes c t (passed ks c h))

-- an ASCII character is a byte
pub low_char : (text : List ℕ) (at c : ℕ) → c ≡ peek (chars (drop at text)) 0 → 0 < c → c < 128 → CharAt text at c 1
low_char text at c e h l = rw (bytes1 c l) at (peek_char text at c e h)

-- the letter c behind the backslash, at a place of the text, is named l
pub record Lettered (text : List ℕ) (at c : ℕ) (l : Named) : Type 0 where
  pub seen : c ≡ peek (chars (drop at text)) 0
  pub name : (l ≡ named c) × Letter c l

module _ {text : List ℕ} {at c : ℕ} {l : Named} (h : Lettered text at c l) where
  pub named_as : {k : Named} → l ≡ k → named (peek (chars (drop at text)) 0) ≡ k
  named_as i = ap named (sym h.seen) ∙ sym h.name.0 ∙ i

  pub standing : {k : ℕ} → l ≡ Stands k → CharAt text at c 1 × (k < 0x110000)
  standing i = let s = subst (Letter c) i h.name.1 in (low_char text at c h.seen s.0 s.1, s.2)

  pub counting : {n : ℕ} → l ≡ Digits n → CharAt text at c 1 × (n ≤ 8)
  counting i = let s = subst (Letter c) i h.name.1 in (low_char text at c h.seen s.0 s.1, s.2)

module _ (start : Mark) (cs : List ℕ) where
  pub escape_stands : (k : ℕ) → named (peek cs 0) ≡ Stands k → escape start cs ≡ got (record { char = k; took = 1 })
  unfolding escape escape_of
  escape_stands k e = rw e

  pub escape_unknown : named (peek cs 0) ≡ Unknown → escape start cs ≡ refused 37 start
  unfolding escape escape_of
  escape_unknown e = rw e

module _ (start : Mark) {text : List ℕ} {at c : ℕ} (d : CharAt text at c 1) (n : ℕ) (e : named (peek (chars (drop at text)) 0) ≡ Digits n) where
  pub escape_missing : NumberAt text (at + 1) n None → escape start (chars (drop at text)) ≡ refused 38 start
  unfolding escape escape_of ◌>>=◌
  escape_missing w = rw (e, ← reach_rest (reach_one d), w.same start)

  pub escape_no_scalar : (v : ℕ) → NumberAt text (at + 1) n (Some v) → is_scalar 0 v ≡ false → escape start (chars (drop at text)) ≡ refused 39 start
  unfolding escape escape_of ◌>>=◌ need
  escape_no_scalar v w s = rw (e, ← reach_rest (reach_one d), w.same start, s)

  pub escape_digits : (v : ℕ) → NumberAt text (at + 1) n (Some v) → is_scalar 0 v ≡ true
      → escape start (chars (drop at text)) ≡ got (record { char = v; took = n + 2 - 1 })
  unfolding escape escape_of ◌>>=◌ need
  escape_digits v w s = let k : n + 2 - 1 ≡ n + 1 = omega arith in rw (e, ← reach_rest (reach_one d), w.same start, s, k)
