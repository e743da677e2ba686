-- A flag in a word.
use Rattle.std.specs.Prelude.{◌≤◌, ℕ, Bool, false, true}
use Rattle.std.proofs.Common.{arith}
use Rattle.std.specs.Int.{from_bool}

abbrev pub bit : Bool → ℕ
bit b = from_bool b

pub bit_low : (b : Bool) → bit b ≤ 1
bit_low true = omega arith
bit_low false = omega arith
