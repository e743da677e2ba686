-- A sheet that was read, case by case.
use Prim.Native.Nat.{◌<◌, ◌≤◌, suc, zero, ℕ}
use mathlib.Core.Path.{◌≡◌, refl}
use native.Mathlib.Omega.{arith}
use lib.IntN.{negsuc, pos, ℤ}
use Rattle.sheets.specs.declared.Sheet.{Sheet}
use Rattle.sheets.specs.declared.Sheet.TheVariants.{Broken, Whole}
use Rattle.sheets.specs.Sheet.{Within, ending}

pub zero_ends : (got : ℤ) (n : ℕ) → got ≡ pos 0 → Whole n ≡ ending got n
zero_ends got n e = rw e

pub other_breaks : (got : ℤ) (n : ℕ) → (got ≡ pos 0 → ⊥) → Broken ≡ ending got n
other_breaks (pos zero) n h = absurd (h refl)
other_breaks (pos (suc k)) n h = refl
other_breaks (negsuc k) n h = refl

pub whole_fits : (s : Sheet) (n room : ℕ) → s ≡ Whole n → Within room s → n ≤ room
whole_fits s n room e h = let g : n < room = rw e at h in omega arith
