-- A whole sheet is listed as it is; a full room has 513 bytes or more and is refused as any longer sheet is; of a part nothing is written.
use mathlib.Core.Path.{sym}
use native.Mathlib.Omega.{arith}
use lib.Seq.{length-take-le}
use Rattle.sheets.proofs.Sheets.{whole_fits}
use Rattle.listing.proofs.Sheets.{broken_listed, full_listed, whole_listed}
use Rattle.listing.proofs.list_read.Goals as goal

pub slice_bounds-list-end : goal.slice_bounds-list-end
slice_bounds-list-end c = let h = whole_fits _ _ _ c.in-Whole.is c.requires.1 in sym (length-take-le _ _ h)

pub returns-in-Whole : goal.returns-in-Whole
returns-in-Whole c = record { lists = whole_listed _ _ c.args.room.now _ _ c.in-Whole.is c.list.ensures.written; upper_bound = c.list.ensures.upper_bound }

pub returns-in-Full : goal.returns-in-Full
returns-in-Full c =
    record {
      lists = full_listed _ c.args.room.now _ _ c.in-Full.is c.requires.0 c.list-in-Full.ensures.written;
      upper_bound = c.list-in-Full.ensures.upper_bound;
    }

pub returns-in-Broken : goal.returns-in-Broken
returns-in-Broken c = record { lists = broken_listed _ c.args.room.now _ c.in-Broken.is; upper_bound = omega arith }
