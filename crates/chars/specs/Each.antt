-- Bytes of a class between two places of a text, and what is carried over each of them; and how many of a block are, as a loop without an exit counts
-- them: where all are, each is.
use Prim.Native.Nat.{◌%◌, ◌*◌, ◌+◌, ◌-◌, ◌<◌, ◌≤◌, suc, zero, ℕ}
use Rattle.std.specs.Prelude.{Bool, ◌&&◌, false, true, ◌≡◌, eqb, leb, ltb, drop, get_or, length, take}
use Rattle.std.proofs.Math.Bool.{and-false}
use mathlib.Core.List.{List, [], ◌∷◌}
use Rattle.std.specs.List.{prefix_len}
use Rattle.std.specs.Simd.{first_chunks}
use Rattle.std.proofs.Common.{◌∙◌, refl, subst, sym, length-drop, drop-cons, drop-drop, get_or-drop, get_or-take, length-take-le, eqb-true, leb-true, ltb-false, ltb-true}
use Rattle.std.proofs.Math.Numerals.{add-one}
use native.Mathlib.Omega.{arith}
use Rattle.std.proofs.Math.ListN.{drop_of_length-le}
use Rattle.std.proofs.lemmas.Bool.{lt-leb}
use Rattle.yaml_text.specs.Pick.{pick}
use Rattle.yaml_text.specs.Test.{by_test, true_false}

-- 1 for a byte of the class, else 0
unfoldable pub one_of : (ℕ → Bool) → ℕ → ℕ
one_of p b = pick (p b) 1 0

unfoldable pub count_of : (ℕ → Bool) → List ℕ → ℕ
count_of p [] = 0
count_of p (b ∷ l) = one_of p b + count_of p l

-- all bytes of a block are of the class
abbrev pub all_of : (ℕ → Bool) → List ℕ → Bool
all_of p l = eqb (count_of p l) (length l)

-- each byte from at to r is of the class
pub record Each (p : ℕ → Bool) (s : List ℕ) (at r : ℕ) : Type 0 where
  pub onward : at ≤ r
  pub within : r ≤ length s
  pub each : (i : ℕ) → at ≤ i → i < r → p (get_or s i 0) ≡ true

module _ (p : ℕ → Bool) where
  pub one_yes : (b : ℕ) → p b ≡ true → 1 ≡ one_of p b
  unfolding one_of
  one_yes b e = rw e

  pub one_no : (b : ℕ) → p b ≡ false → 0 ≡ one_of p b
  unfolding one_of
  one_no b e = rw e

  pub one_most : (b : ℕ) → one_of p b ≤ 1
  one_most b = by_test (p b) (λ t. omega (arith, one_yes b t)) (λ t. omega (arith, one_no b t))

  one_true : (b : ℕ) → one_of p b ≡ 1 → p b ≡ true
  one_true b e = by_test (p b) (λ t. t) (λ t. absurd (omega (arith, one_no b t)))

  -- the loop that counts
  pub count_more : (s : List ℕ) (i : ℕ) → i < length s → count_of p (drop i s) ≡ one_of p (get_or s i 0) + count_of p (drop (i + 1) s)
  unfolding count_of
  count_more s i h = rw (drop-cons s i 0, add-one i)

  pub count_none : (s : List ℕ) (i : ℕ) → length s ≤ i → count_of p (drop i s) ≡ 0
  unfolding count_of
  count_none s i h = rw drop_of_length-le

  count_most : (l : List ℕ) → count_of p l ≤ length l
  unfolding count_of
  count_most [] = omega arith
  count_most (b ∷ l) = omega (arith, one_most b, count_most l)

  counted : (l : List ℕ) → count_of p l ≡ length l → (i : ℕ) → i < length l → p (get_or l i 0) ≡ true
  unfolding count_of
  counted [] e i h = absurd (omega arith)
  counted (b ∷ l) e zero h = one_true b (omega (arith, one_most b, count_most l))
  counted (b ∷ l) e (suc i) h = counted l (omega (arith, one_most b, count_most l)) i (omega arith)

module _ {p : ℕ → Bool} {s : List ℕ} where
  pub each_none : {at : ℕ} → at ≤ length s → Each p s at at
  each_none h = record { onward = omega arith; within = h; each = λ i l m. absurd (omega arith) }

  pub each_one : {at : ℕ} → at < length s → p (get_or s at 0) ≡ true → Each p s at (at + 1)
  each_one {at} h e =
      record { onward = omega arith; within = omega arith; each = λ i l m. let z : i ≡ at = omega arith in rw z e }

  pub each_then : {at m r : ℕ} → Each p s at m → Each p s m r → Each p s at r
  each_then {m = m} x y =
      record {
        onward = omega (arith, x.onward, y.onward);
        within = y.within;
        each = λ i l h. by_test (ltb i m) (λ t. x.each i l (ltb-true i m t)) (λ t. y.each i (ltb-false i m t) h);
      }

  -- a block whose bytes are all counted
  pub each_block : {at e : ℕ} → at ≤ e → e ≤ length s → all_of p (take (e - at) (drop at s)) ≡ true → Each p s at e
  each_block {at} {e} o h f =
      let l : length (take (e - at) (drop at s)) ≡ e - at = length-take-le (e - at) (drop at s) (rw length-drop (omega arith)) in
      record {
        onward = o;
        within = h;
        each = λ i a b.
            let j : at + (i - at) ≡ i = omega arith in
            let c = counted p (take (e - at) (drop at s)) (eqb-true _ _ f) (i - at) (rw l (omega arith)) in
            rw (get_or-take (e - at) (drop at s) (i - at) 0 (omega arith), get_or-drop at s (i - at) 0, j) at c;
      }

-- a block whose first byte is of another class
pub first_out : (p : ℕ → Bool) (s : List ℕ) (at e : ℕ) → at < e → e ≤ length s → p (get_or s at 0) ≡ false → all_of p (take (e - at) (drop at s)) ≡ false
first_out p s at e o h f =
    by_test (all_of p (take (e - at) (drop at s)))
    (λ t. true_false (sym ((each_block {p = p} {s = s} {at = at} {e = e} (omega arith) h t).each at (omega arith) o) ∙ f))
    (λ t. t)

-- the blocks of 16 bytes of the class that stand from at on, up to r
pub record Blocks (p : ℕ → Bool) (s : List ℕ) (at r : ℕ) : Type 0 where
  pub each : Each p s at r
  pub whole : (r - at) % 16 ≡ 0
  pub last : (leb (r + 16) (length s) && all_of p (take 16 (drop r s))) ≡ false

-- none, where the text is shorter or the next block has a byte of another class
blocks_stop : {p : ℕ → Bool} {s : List ℕ} {at : ℕ} → at ≤ length s → (leb (at + 16) (length s) && all_of p (take 16 (drop at s))) ≡ false → Blocks p s at at
blocks_stop h e = record { each = each_none h; whole = omega arith; last = e }

-- one more in front
blocks_then : {p : ℕ → Bool} {s : List ℕ} {at r : ℕ} → Each p s at (at + 16) → Blocks p s (at + 16) r → Blocks p s at r
blocks_then w b = record { each = each_then w b.each; whole = omega (arith, b.whole, b.each.onward); last = b.last }

-- those of k blocks that are of the class, from the first on, where no block follows them
pub blocks_counted : (p : ℕ → Bool) (s : List ℕ) (at k : ℕ) → at + 16 * k ≤ length s → length s < at + 16 * k + 16
    → Blocks p s at (at + 16 * prefix_len (all_of p) (first_chunks 16 k (drop at s)))
blocks_counted p s at zero h g =
    let e : at + 16 * 0 ≡ at = omega arith in
    rw e (blocks_stop (omega arith) (rw (lt-leb (at + 16) (length s) (omega arith)) refl))
blocks_counted p s at (suc k) h g =
    let chunk = take 16 (drop at s) in
    let n = prefix_len (all_of p) (first_chunks 16 k (drop (at + 16) s)) in
    let one : at + 16 * (1 + n) ≡ at + 16 + 16 * n = omega arith in
    let none : at + 16 * 0 ≡ at = omega arith in
    let next : at + 16 - at ≡ 16 = omega arith in
    by_test (all_of p chunk)
    (λ t. rw (t, drop-drop, one) (blocks_then (each_block (omega arith) (omega arith) (rw next t)) (blocks_counted p s (at + 16) k (omega arith) (omega arith))))
    (λ f. rw (f, none) (blocks_stop (omega arith) (rw f (and-false (leb (at + 16) (length s))))))

-- none, where the first byte is of another class
pub blocks_none : {p : ℕ → Bool} {s : List ℕ} {at : ℕ} → at ≤ length s → p (get_or s at 0) ≡ false → Blocks p s at at
blocks_none {p} {s} {at} h f =
    let k : at + 16 - at ≡ 16 = omega arith in
    record {
      each = each_none h;
      whole = omega arith;
      last = by_test (leb (at + 16) (length s))
          (λ t. rw (rw k at (first_out p s at (at + 16) (omega arith) (leb-true (at + 16) (length s) t) f)) (and-false (leb (at + 16) (length s))))
          (λ t. rw t);
    }

-- what a byte of the class carries on holds behind them all
module _ (p : ℕ → Bool) (s : List ℕ) (P : ℕ → Type 0) (step : (i : ℕ) → i < length s → p (get_or s i 0) ≡ true → P i → P (i + 1)) where
  carry : (n at : ℕ) → at + n ≤ length s → ((i : ℕ) → at ≤ i → i < at + n → p (get_or s i 0) ≡ true) → P at → P (at + n)
  carry zero at h e x = let k : at ≡ at + 0 = omega arith in subst P k x
  carry (suc n) at h e x =
      let k : at + n + 1 ≡ at + suc n = omega arith in
      subst P k (step (at + n) (omega arith) (e (at + n) (omega arith) (omega arith)) (carry n at (omega arith) (λ i a b. e i a (omega arith)) x))

  pub each_carry : {at r : ℕ} → Each p s at r → P at → P r
  each_carry {at} {r} w x =
      let k : at + (r - at) ≡ r = omega (arith, w.onward) in
      subst P k (carry (r - at) at (omega (arith, w.onward, w.within)) (λ i a b. w.each i a (omega arith)) x)
