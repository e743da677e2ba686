-- At each of the 256 bytes the count of leading ones says the length, which antt computes.
use Prim.Native.Nat.{◌-◌, ◌<◌, suc, zero, ℕ}
use mathlib.Core.Bool.{Bool}
use mathlib.Core.Path.{◌∙◌, ◌≡◌, ap, refl, sym}
use lib.Count.{count_leading_zeros}
use lib.Dec.{eqb, eqb→eq}
use Rattle.yaml_text.specs.Utf8.{len_of}
use Rattle.utf8.proofs.Below.{below}
use Rattle.utf8.proofs.lead_len.Goals as goal

-- the length by the count of leading ones
abbrev len-by-ones : ℕ → ℕ
len-by-ones zero = 1
len-by-ones (suc zero) = 0
len-by-ones (suc (suc zero)) = 2
len-by-ones (suc (suc (suc zero))) = 3
len-by-ones (suc (suc (suc (suc zero)))) = 4
len-by-ones (suc (suc (suc (suc (suc n))))) = 0

abbrev ones : ℕ → ℕ
ones b = count_leading_zeros 8 (255 - b)

test : ℕ → Bool
test b = eqb (len-by-ones (ones b)) (len_of b)

by_ones : (b : ℕ) → b < 256 → len-by-ones (ones b) ≡ len_of b
unfolding test count_leading_zeros len_of
by_ones b h = eqb→eq (len-by-ones (ones b)) (len_of b) (below 256 test tt b h)

told : (b n : ℕ) → b < 256 → ones b ≡ n → len-by-ones n ≡ len_of b
told b n h e = ap len-by-ones (sym e) ∙ by_ones b h

other : (n : ℕ) → (n ≡ 0 → ⊥) → (n ≡ 2 → ⊥) → (n ≡ 3 → ⊥) → (n ≡ 4 → ⊥) → 0 ≡ len-by-ones n
other zero a b c d = absurd (a refl)
other (suc zero) a b c d = refl
other (suc (suc zero)) a b c d = absurd (b refl)
other (suc (suc (suc zero))) a b c d = absurd (c refl)
other (suc (suc (suc (suc zero)))) a b c d = absurd (d refl)
other (suc (suc (suc (suc (suc n))))) a b c d = refl

pub returns-in-0 : goal.returns-in-0
returns-in-0 c = told c.args.b 0 c.ranges.b.fits c.in-0.is

pub returns-in-2 : goal.returns-in-2
returns-in-2 c = told c.args.b 2 c.ranges.b.fits c.in-2.is

pub returns-in-3 : goal.returns-in-3
returns-in-3 c = told c.args.b 3 c.ranges.b.fits c.in-3.is

pub returns-in-4 : goal.returns-in-4
returns-in-4 c = told c.args.b 4 c.ranges.b.fits c.in-4.is

pub returns-in_default : goal.returns-in_default
returns-in_default c =
    let b = c.args.b in
    let r = c.in_default.in_default-own.rest in
    other (ones b) r.0.0.0.1 r.0.0.1 r.0.1 r.1 ∙ by_ones b c.ranges.b.fits
