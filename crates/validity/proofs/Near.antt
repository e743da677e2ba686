-- A place on its way over a text: what is left, from the mark there, is answered as the whole is.
use Prim.Native.Nat.{◌+◌, ◌≤◌, ℕ}
use mathlib.Core.Bool.{false}
use mathlib.Core.List.{List}
use mathlib.Core.Path.{◌∙◌, ◌≡◌, refl, sym}
use native.Mathlib.Omega.{arith}
use lib.Dec.{eqb}
use lib.ListN.{drop, drop_of_length-le, get_or, length}
use lib.Seq.{drop-drop, get_or-drop}
use borrow.Author.Tests.{eqb-false, eqb-true}
use Rattle.yaml_text.specs.declared.Mark.{Mark}
use Rattle.yaml_text.specs.Char.{carriage_return, line_feed}
use Rattle.yaml_text.specs.Class.{is_break, peek}
use Rattle.yaml_text.specs.Mark.{along, break_length, half_break, new_line, origin, over}
use Rattle.yaml_text.specs.MarkLaws.{over_along, over_break, over_crlf}
use Rattle.yaml_text.specs.Test.{by_pick, by_test}
use Rattle.yaml_text.specs.Utf8.{chars}
use Rattle.yaml_text.specs.Decode.{decode}
use Rattle.chars.specs.declared.mark.Place.{Place}
use Rattle.chars.specs.Bytes.{CharAt, eq_char}
use Rattle.chars.specs.Lines.{break_cr, break_crlf, break_lf, break_none, break_reach}
use Rattle.chars.specs.Places.{stands_along, stands_line, stands_start}
use Rattle.chars.specs.Reach.{reach_within}
use Rattle.chars.specs.View.{Stands, past}
use Rattle.std.specs.Prelude.{Ok, Result}
use Rattle.yaml_text.specs.declared.Refusal.{Refusal}
use Rattle.validity.specs.Checked.{checked}
use Rattle.validity.proofs.DecodeTurns.{turn}

-- the answer to the bytes from a place on
abbrev from : List ℕ → ℕ → Mark → Result (Unit {0}) Refusal
from s at m = checked (decode 0 m (drop at s))

pub record Near (s : List ℕ) (p : Place) : Type 0 where
  pub stands : Stands s p
  pub same : from s p.at p.mark ≡ checked (decode 0 origin s)

pub near_start : (s : List ℕ) → length s ≤ 1_048_576 → Near s (record { at = 0; mark = origin })
near_start s h = record { stands = stands_start s h; same = refl }

-- over a character, to the mark that the definition moves to
turned : (m : Mark) {s : List ℕ} {at c n : ℕ} → CharAt s at c n → (c ≡ 0 → ⊥) → from s at m ≡ from s (at + n) (over m c (get_or s (at + 1) 0))
turned m {s} {at} {c} {n} a z = rw (get_or-drop at s 1 0, drop-drop n at s) at (turn m (drop at s) c n a.is z)

-- where no break stands
unbroken : (cs : List ℕ) → break_length cs ≡ 0 → is_break (peek cs 0) ≡ false
unfolding break_length
unbroken cs e =
    by_test (is_break (peek cs 0))
    (λ t. let some : ℕ → Type 0 = λ n. n ≡ 0 → is_break (peek cs 0) ≡ false in
    by_pick some (half_break (peek cs 0) (peek cs 1)) 2 1 (λ z. absurd (omega arith)) (λ z. absurd (omega arith)) (rw t at e))
    (λ t. t)

pub near_char : {s : List ℕ} {p : Place} {c n : ℕ} → Near s p → break_length (chars (drop p.at s)) ≡ 0 → CharAt s p.at c n → (c ≡ 0 → ⊥)
    → Near s (past p n (along p.mark))
near_char {s} {p} {c} {n} w e a z =
    let f : is_break c ≡ false = rw a.next at (unbroken (chars (drop p.at s)) e) in
    record {
      stands = stands_along w.stands n 1 a.some a.within;
      same = sym (rw (over_along p.mark c (get_or s (p.at + 1) 0) f) at (turned p.mark a z)) ∙ w.same;
    }

-- over a break of n characters, one turn of the definition for each
broken : (m : Mark) (s : List ℕ) (at n : ℕ) → n ≡ break_length (chars (drop at s)) → (n ≡ 0 → ⊥) → from s at m ≡ from s (at + n) (new_line n m)
unfolding half_break is_break
broken m s at n e z =
    let b = get_or s at 0 in
    let d = get_or s (at + 1) 0 in
    let k : at + 1 + 1 ≡ at + 2 = omega arith in
    by_test (eqb b line_feed)
    (λ t. let f = eqb-true b line_feed t in
    rw (e ∙ break_lf s at b refl f) (turned m (eq_char s at b refl line_feed tt f) (omega arith) ∙ rw (over_break m line_feed d refl refl)))
    (λ t. by_test (eqb b carriage_return)
    (λ u. let f = eqb-true b carriage_return u in
    let a = eq_char s at b refl carriage_return tt f in
    by_test (eqb d line_feed)
    (λ v. let g = eqb-true d line_feed v in
    rw (e ∙ break_crlf s at b refl f d refl g)
    (turned m a (omega arith) ∙ rw g (turned (over m carriage_return line_feed) (eq_char s (at + 1) d refl line_feed tt g) (omega arith) ∙ rw (k, over_crlf m (get_or s (at + 2) 0)))))
    (λ v. rw (e ∙ break_cr s at b refl f d refl (eqb-false d line_feed v)) (turned m a (omega arith) ∙ rw (over_break m carriage_return d v refl))))
    (λ u. absurd (z (e ∙ break_none s at b refl (eqb-false b line_feed t) (eqb-false b carriage_return u)))))

pub near_break : {s : List ℕ} {p : Place} (n : ℕ) → Near s p → n ≡ break_length (chars (drop p.at s)) → (n ≡ 0 → ⊥)
    → Near s (past p n (new_line n p.mark))
near_break {s} {p} n w e z =
    let r = reach_within (break_reach s p.at) w.stands.within in
    record {
      stands = stands_line w.stands n (omega arith) (rw e r.0);
      same = sym (broken p.mark s p.at n e z) ∙ w.same;
    }

pub near_end : {s : List ℕ} {p : Place} → Near s p → length s ≤ p.at → Ok tt ≡ checked (decode 0 origin s)
unfolding decode checked
near_end {s} w h = rw (drop_of_length-le s h) at w.same
