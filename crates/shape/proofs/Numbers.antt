-- The number of a text, digit by digit: what is left gives the whole.
use Prim.Native.Nat.{◌*◌, ◌+◌, ◌-◌, ◌<◌, ◌≤◌, ℕ}
use mathlib.Core.Bool.{false, not, true}
use mathlib.Core.List.{List, [], ◌∷◌}
use mathlib.Core.Path.{◌∙◌, ◌≡◌, refl, sym}
use native.Mathlib.Numerals.{add-one}
use native.Mathlib.Omega.{arith}
use lib.Dec.{eqb, leb}
use lib.ListN.{drop, drop_of_length-le, get_or, length}
use lib.Seq.{drop-cons}
use borrow.Author.Tests.{le-leb, leb-true, lt-leb, not-false, not-true}
use Rattle.std.specs.Prelude.{None, Some}
use Rattle.yaml_text.specs.Char.{'0'}
use Rattle.yaml_text.specs.Class.{is_digit}
use Rattle.yaml_text.specs.Test.{both_true, by_test}
use Rattle.yaml_job.specs.Job.{all_digits, is_number, most_seed, value_from, well_led}
use Rattle.shape.specs.Number.{number_from, number_in}

pub digit_least : (c : ℕ) → is_digit c ≡ true → '0' ≤ c
unfolding is_digit
digit_least c e = leb-true 48 c (both_true (leb 48 c) (leb c 57) e).0

-- more digits do not make it less
grows : (n : ℕ) (ds : List ℕ) → n ≤ value_from n ds
unfolding value_from
grows n [] = omega arith
grows n (d ∷ ds) = let h = grows (n * 10 + (d - '0')) ds in omega arith

too_large : (n : ℕ) (ds : List ℕ) → most_seed < n → number_from n ds ≡ None
unfolding number_from
too_large n ds h =
    let g = grows n ds in
    let f = lt-leb (value_from n ds) most_seed (omega arith) in
    by_test (all_digits ds) (λ e. rw (e, f)) (λ e. rw e)

-- the digits from i on, behind digits of value v
pub record Counting (s : List ℕ) (v i : ℕ) : Type 0 where
  pub within : i ≤ length s
  pub small : v ≤ most_seed
  pub whole : number_from 0 s ≡ number_from v (drop i s)

pub counting_start : (s : List ℕ) → Counting s 0 0
counting_start s = record { within = omega arith; small = omega arith; whole = refl }

module _ {s : List ℕ} {v i : ℕ} (w : Counting s v i) where
  pub counting_done : length s ≤ i → Some v ≡ number_from 0 s
  unfolding number_from all_digits value_from
  counting_done h = sym (w.whole ∙ rw (drop_of_length-le s h, le-leb v most_seed w.small))

  module _ (h : i < length s) where
    pub counting_stop : is_digit (get_or s i 0) ≡ false → None ≡ number_from 0 s
    unfolding number_from all_digits
    counting_stop e = sym (w.whole ∙ rw (drop-cons s i 0 h, e))

    more : is_digit (get_or s i 0) ≡ true → number_from 0 s ≡ number_from (v * 10 + (get_or s i 0 - '0')) (drop (i + 1) s)
    unfolding number_from all_digits value_from
    more e = w.whole ∙ rw (drop-cons s i 0 h, e, add-one i)

    pub counting_more : is_digit (get_or s i 0) ≡ true → v * 10 + (get_or s i 0 - '0') ≤ most_seed → Counting s (v * 10 + (get_or s i 0 - '0')) (i + 1)
    counting_more e k = record { within = omega arith; small = k; whole = more e }

    pub counting_large : is_digit (get_or s i 0) ≡ true → most_seed < v * 10 + (get_or s i 0 - '0') → None ≡ number_from 0 s
    counting_large e k = sym (more e ∙ too_large _ _ k)

-- how a text is led
pub led_none : (s : List ℕ) → length s ≡ 0 → true ≡ not (well_led s)
unfolding well_led
led_none [] e = refl
led_none (d ∷ ds) e = absurd (omega arith)

pub led_one : (s : List ℕ) → length s ≡ 1 → false ≡ not (well_led s)
unfolding well_led
led_one [] e = absurd (omega arith)
led_one (d ∷ []) e = refl
led_one (d ∷ f ∷ ds) e = absurd (omega arith)

pub led_more : (s : List ℕ) → (length s ≡ 0 → ⊥) → (length s ≡ 1 → ⊥) → eqb (get_or s 0 0) '0' ≡ not (well_led s)
unfolding well_led
led_more [] h k = absurd (h refl)
led_more (d ∷ []) h k = absurd (k refl)
led_more (d ∷ f ∷ ds) h k = by_test (eqb d '0') (λ e. rw e) (λ e. rw e)

pub number_badly_led : (s : List ℕ) → not (well_led s) ≡ true → None ≡ number_in s
unfolding is_number
number_badly_led s e = rw (not-true (well_led s) e)

pub number_well_led : (s : List ℕ) → not (well_led s) ≡ false → number_from 0 s ≡ number_in s
unfolding is_number number_from
number_well_led s e = rw (not-false (well_led s) e)
