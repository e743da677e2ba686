-- Bytes of a class in a row, each of them a character: to the definition each is a turn, and code takes them at once.
use Rattle.std.specs.Prelude.{◌+◌, ◌<◌, suc, ℕ, Bool, true, ◌≡◌, refl, drop, get_or, length}
use Rattle.std.specs.List.{prefix_len}
use mathlib.Core.List.{List, [], ◌∷◌}
use Rattle.std.proofs.Common.{◌∙◌, ap, sym, arith, length-drop, drop-drop, get_or-drop}
use Rattle.yaml_text.specs.Test.{by_test}
use Rattle.chars.specs.Bytes.{CharAt, byte_char}
use Rattle.chars.specs.Reach.{Reach, more, none}

-- k of them from a place on
pub data Row (p : ℕ → Bool) (s : List ℕ) : ℕ → ℕ → Type 0 where
  done : {at : ℕ} → Row p s at 0
  next : {at b k : ℕ} → CharAt s at b 1 → p b ≡ true → Row p s (at + 1) k → Row p s at (suc k)

pub row_reach : {p : ℕ → Bool} {s : List ℕ} {at k : ℕ} → Row p s at k → Reach s at k (at + k)
row_reach {at = at} done = let e : at + 0 ≡ at = omega arith in rw e none
row_reach {at = at} (next {k = k} x f r) = let e : at + 1 + k ≡ at + suc k = omega arith in more x (rw e at (row_reach r))

-- as many as a text begins with, where the bytes of the class are ASCII
module _ (p : ℕ → Bool) (low : (b : ℕ) → p b ≡ true → b < 128) where
  row_char : (b : ℕ) (l s : List ℕ) (at : ℕ) → drop at s ≡ b ∷ l → p b ≡ true → CharAt s at b 1
  row_char b l s at e f =
      let z : at + 0 ≡ at = omega arith in
      let g : b ≡ get_or s at 0 = ap (λ (x : List ℕ). get_or x 0 0) (sym e) ∙ get_or-drop at s 0 0 ∙ rw z in
      byte_char s at b g (omega (arith, length-drop at s, ap length e)) (low b f)

  row_from : (l s : List ℕ) (at : ℕ) → drop at s ≡ l → Row p s at (prefix_len p l)
  row_from [] s at e = done
  row_from (b ∷ l) s at e =
      let k : 1 + prefix_len p l ≡ suc (prefix_len p l) = omega arith in
      by_test (p b)
      (λ f. rw (f, k) (next (row_char b l s at e f) f (row_from l s (at + 1) (sym (drop-drop 1 at s) ∙ rw e))))
      (λ f. rw f done)

  pub row : (s : List ℕ) (at : ℕ) → Row p s at (prefix_len p (drop at s))
  row s at = row_from (drop at s) s at refl
