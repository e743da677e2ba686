-- A number as decimal text.
use Rattle.std.specs.Prelude.{◌-◌, ◌/◌, ◌<◌, ◌^◌, ◌≤◌, suc, zero, ℕ, List, ◌≡◌, refl, eqb, ltb, length}
use Rattle.std.proofs.Math.Nat.{pow-le-pow_right}
use Rattle.std.proofs.Common.{arith, lit<, length-append, eqb-true, ltb-false, ltb-true}
use Rattle.std.proofs.lemmas.Bool.{eqb-false}
use Rattle.yaml_text.specs.Pick.{pick}
use Rattle.yaml_text.specs.Test.{by_test, on_pick}
use Rattle.io.specs.Digits.{IsDigitCount, last_digits}

-- one place more for the first number that k places do not hold
unfoldable pub place_more : ℕ → ℕ → ℕ
place_more n k = pick (eqb n (10 ^ k)) (suc k) k

-- how many decimal digits a number has: 0 has one, and there is one more at each power of ten
unfoldable pub places : ℕ → ℕ
places zero = 1
places (suc n) = place_more (suc n) (places n)

-- a number's decimal digits in ASCII, the most significant first
unfoldable pub decimal : ℕ → List ℕ
decimal n = last_digits 10 (places n) n

more_holds : (n k : ℕ) → IsDigitCount 10 1 n k → IsDigitCount 10 1 (suc n) (place_more (suc n) k)
unfolding place_more
more_holds n k f =
    on_pick (λ (j : ℕ). IsDigitCount 10 1 (suc n) j) (eqb (suc n) (10 ^ k))
    (λ e. let h = eqb-true (suc n) (10 ^ k) e in let s : suc k - 1 ≡ k = omega arith in (omega arith, omega arith, λ g. rw s (omega arith)))
    (λ e. let h = eqb-false (suc n) (10 ^ k) e in (f.0, omega arith, λ g. let q = f.2 g in omega arith))

-- they are the fewest that hold it
pub places_hold : (n : ℕ) → IsDigitCount 10 1 n (places n)
unfolding places
places_hold zero = (omega arith, omega arith, λ g. omega arith)
places_hold (suc n) = more_holds n (places n) (places_hold n)

-- no more places than j hold what needs k
no_more : (n j k : ℕ) → n < 10 ^ j → (1 < k → 10 ^ (k - 1) ≤ n) → 1 ≤ j → k ≤ j
no_more n j k h g one =
    by_test (ltb j k)
    (λ e. let l = ltb-true j k e in
    let m = g (omega arith) in
    let p = pow-le-pow_right {n = 10} (lit< tt) {i = j} {j = k - 1} (omega arith) in
    omega arith)
    (λ e. ltb-false j k e)

pub few_places : (n j : ℕ) → n < 10 ^ j → 1 ≤ j → places n ≤ j
few_places n j h one = no_more n j (places n) h (places_hold n).2 one

-- and there is one such number
pub places_are : (n k : ℕ) → IsDigitCount 10 1 n k → k ≡ places n
places_are n k f =
    let a = few_places n k f.1 f.0 in
    let b = no_more n (places n) k (places_hold n).1 f.2 (places_hold n).0 in
    omega arith

digits_length : (b k n : ℕ) → length (last_digits b k n) ≡ k
digits_length b zero n = refl
digits_length b (suc k) n = rw (length-append, digits_length b k (n / b)) (omega arith)

pub decimal_length : (n : ℕ) → length (decimal n) ≡ places n
unfolding decimal
decimal_length n = digits_length 10 (places n) n

-- a word has at most ten
pub word_places : (n : ℕ) → n < 2 ^ 32 → places n ≤ 10
word_places n h = few_places n 10 (omega arith) (omega arith)
