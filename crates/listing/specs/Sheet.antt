-- The listing of what was read of a sheet.
use Rattle.std.specs.Prelude.{ℕ, List, [], ◌++◌, take}
use Rattle.printing.specs.Listing.{listing_of}
use Rattle.printing.specs.Written.{Written}
use Rattle.sheets.specs.declared.Sheet.{Sheet}
use Rattle.sheets.specs.declared.Sheet.TheVariants.{Broken, Full, Whole}

-- of a full room, the listing of any sheet that begins so; of a part, nothing
abbrev pub Lists : List ℕ → Sheet → List ℕ → List ℕ → ℕ → Type 0
Lists room (Whole n) before after r = Written before 0 (listing_of (take n room)) after r
Lists room Full before after r = (rest : List ℕ) → Written before 0 (listing_of (room ++ rest)) after r
Lists room Broken before after r = Written before 0 [] after r
