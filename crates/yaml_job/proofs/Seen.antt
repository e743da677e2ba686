-- Theorems about specs/Seen, and what rests on them.
use Rattle.std.specs.Prelude.{◌*◌, ◌+◌, ◌-◌, ◌≤◌, ℕ, false, true, List, [], ◌++◌, ◌∷◌, ◌≡◌, refl, eqb}
use Rattle.std.proofs.Common.{arith, le-leb, ne_eqb}
use Rattle.yaml_text.specs.Char.{'0', '9'}
use Rattle.yaml_text.specs.Class.{is_digit}
use Rattle.yaml_text.specs.Test.{both_true}
use Rattle.yaml_job.specs.Job.{all_digits, is_number, most_seed, value_from, well_led}
use Rattle.yaml_job.specs.Shape.{Decimal, digit, further}

digit_fits : (d : ℕ) → d ≤ 9 → is_digit ('0' + d) ≡ true
unfolding is_digit
digit_fits d h = rw (le-leb '0' ('0' + d) (omega arith), le-leb ('0' + d) '9' (omega arith))

value_behind : (n d : ℕ) (ds : List ℕ) → value_from n (ds ++ (d ∷ [])) ≡ value_from n ds * 10 + (d - '0')
unfolding value_from
value_behind n d [] = refl
value_behind n d (x ∷ ds) = value_behind (n * 10 + (x - '0')) d ds

all_behind : (d : ℕ) (ds : List ℕ) → is_digit d ≡ true → all_digits ds ≡ true → all_digits (ds ++ (d ∷ [])) ≡ true
unfolding all_digits
all_behind d [] e f = rw e
all_behind d (x ∷ ds) e f =
    let b = both_true (is_digit x) (all_digits ds) f in
    let g = all_behind d ds e b.1 in rw (b.0, g)

-- behind a number that is not 0 its first digit is not 0
data Led (v : ℕ) : List ℕ → Type 0 where
  led : {d : ℕ} {ds : List ℕ} → (1 ≤ v → eqb d '0' ≡ false) → well_led (d ∷ ds) ≡ true → Led v (d ∷ ds)

led_behind : {v w : ℕ} {ds : List ℕ} (d : ℕ) → 1 ≤ v → Led v ds → Led w (ds ++ (d ∷ []))
unfolding well_led
led_behind d b (led {d = x} {ds = []} f g) = led {d = x} {ds = d ∷ []} (λ _. f b) (rw (f b))
led_behind d b (led {d = x} {ds = y ∷ ys} f g) = led {d = x} {ds = y ∷ (ys ++ (d ∷ []))} (λ _. f b) (rw (f b))

record Spells (ds : List ℕ) (v : ℕ) : Type 0 where
  first : Led v ds
  digits : all_digits ds ≡ true
  is_value : value_from 0 ds ≡ v

spells : {ds : List ℕ} {v : ℕ} → Decimal ds v → Spells ds v
unfolding well_led all_digits value_from
spells (digit {d = d} h) =
    record { first = led (λ b. ne_eqb ('0' + d) '0' (λ e. omega arith)) refl; digits = rw (digit_fits d h); is_value = omega arith }
spells (further {ds = ds} {v = v} {d = d} r b h) =
    let i = spells r in
    let e = i.is_value in
    let f : '0' + d - '0' ≡ d = omega arith in
    record {
      first = led_behind ('0' + d) b i.first;
      digits = all_behind ('0' + d) ds (digit_fits d h) i.digits;
      is_value = rw (value_behind 0 ('0' + d) ds, e, f);
    }

pub number_said : {ds : List ℕ} {v : ℕ} → Decimal ds v → v ≤ most_seed → (is_number ds ≡ true) × (value_from 0 ds ≡ v)
unfolding is_number
number_said {ds} {v} r h =
    let i = spells r in
    let w : well_led ds ≡ true = led_well i.first in
    let d = i.digits in
    let e = i.is_value in
    let l = le-leb v most_seed h in
    (rw (w, d, e, l), e)
  where
    led_well : {us : List ℕ} → Led v us → well_led us ≡ true
    led_well (led f g) = g
