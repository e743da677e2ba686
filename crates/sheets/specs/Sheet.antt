-- What was read of a sheet.
use Rattle.std.specs.Prelude.{◌<◌, suc, zero, ℕ, negsuc, pos, ℤ}
use Rattle.sheets.specs.declared.Sheet.{Sheet}
use Rattle.sheets.specs.declared.Sheet.TheVariants.{Broken, Full, Whole}

-- a read that moved nothing: 0 at the end of the input, and nothing else, ends a sheet
abbrev pub ending : ℤ → ℕ → Sheet
ending (pos zero) n = Whole n
ending (pos (suc k)) n = Broken
ending (negsuc k) n = Broken

-- a whole sheet leaves room behind it
abbrev pub Within : ℕ → Sheet → Type 0
Within room (Whole n) = n < room
Within room Full = Unit {0}
Within room Broken = Unit {0}
