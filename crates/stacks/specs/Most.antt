-- A number above the most counts as the most.
use Rattle.std.specs.Prelude.{◌≤◌, ℕ, ◌≡◌, min}
use Rattle.std.proofs.Math.Nat.{min-eq_left, min-le_right}

abbrev pub at_most : ℕ → ℕ → ℕ
at_most most n = min n most

pub at_most_fits : (most n : ℕ) → at_most most n ≤ most
at_most_fits most n = min-le_right n most

pub at_most_stays : (most n : ℕ) → n ≤ most → at_most most n ≡ n
at_most_stays most n h = min-eq_left h
