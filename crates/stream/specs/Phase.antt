-- How far a stream is, by the number that is held.
use Rattle.std.specs.Prelude.{ℕ, suc, zero, ◌<◌, ◌≡◌, refl}
use Rattle.std.proofs.Common.{arith}
use Rattle.stream.specs.declared.phase.Phase.{Phase}
use Rattle.stream.specs.declared.phase.Phase.TheVariants.{Closed, Fresh, Refused, Scanning}

abbrev pub phase_of : ℕ → Phase
phase_of zero = Fresh
phase_of (suc zero) = Scanning
phase_of (suc (suc zero)) = Closed
phase_of (suc (suc (suc n))) = Refused

pub fresh_number : (n : ℕ) → phase_of n ≡ Fresh → n ≡ 0
fresh_number zero e = refl
fresh_number (suc zero) e = absurd (cc)
fresh_number (suc (suc zero)) e = absurd (cc)
fresh_number (suc (suc (suc n))) e = absurd (cc)

pub scanning_number : (n : ℕ) → phase_of n ≡ Scanning → n ≡ 1
scanning_number zero e = absurd (cc)
scanning_number (suc zero) e = refl
scanning_number (suc (suc zero)) e = absurd (cc)
scanning_number (suc (suc (suc n))) e = absurd (cc)

pub closed_number : (n : ℕ) → phase_of n ≡ Closed → n ≡ 2
closed_number zero e = absurd (cc)
closed_number (suc zero) e = absurd (cc)
closed_number (suc (suc zero)) e = refl
closed_number (suc (suc (suc n))) e = absurd (cc)

pub refused_number : (n : ℕ) → phase_of n ≡ Refused → 2 < n
refused_number zero e = absurd (cc)
refused_number (suc zero) e = absurd (cc)
refused_number (suc (suc zero)) e = absurd (cc)
refused_number (suc (suc (suc n))) e = omega arith
