-- The listing of a sheet that was read, case by case. A full room decides as any longer sheet does: both are longer than 512 bytes.
use Prim.Native.Nat.{◌≤◌, ℕ}
use mathlib.Core.List.{List, ◌++◌}
use mathlib.Core.Path.{◌∙◌, ◌≡◌, refl, sym}
use native.Mathlib.Omega.{arith}
use lib.ListN.{length, length-append, take}
use Rattle.printing.specs.Listing.{listing_of, long_listing}
use Rattle.printing.specs.Written.{Written}
use Rattle.sheets.specs.declared.Sheet.{Sheet}
use Rattle.sheets.specs.declared.Sheet.TheVariants.{Broken, Full, Whole}
use Rattle.listing.specs.Sheet.{Lists}

pub whole_listed : (s : Sheet) (n : ℕ) (room before after : List ℕ) {r : ℕ} → s ≡ Whole n → Written before 0 (listing_of (take n room)) after r → Lists room s before after r
whole_listed s n room before after e w = rw e w

-- 513 bytes or more are refused, whatever follows
longer_same : (room rest : List ℕ) → 513 ≤ length room → listing_of room ≡ listing_of (room ++ rest)
longer_same room rest h = let e = length-append room rest in long_listing room (omega arith) ∙ sym (long_listing (room ++ rest) (omega arith))

pub full_listed : (s : Sheet) (room before after : List ℕ) {r : ℕ} → s ≡ Full → 513 ≤ length room → Written before 0 (listing_of room) after r → Lists room s before after r
full_listed s room before after e h w = rw e (λ rest. rw (longer_same room rest h) at w)

pub broken_listed : (s : Sheet) (room before : List ℕ) → s ≡ Broken → Lists room s before before 0
broken_listed s room before e = rw e (record { stored = refl; behind = refl })
