-- A whole sheet is a part of the room, and its job is run; a full room is longer than a sheet may be; of a part of a sheet nothing is said.
use mathlib.Core.Path.{sym}
use lib.Seq.{length-take-le}
use Rattle.sheets.proofs.Sheets.{whole_fits}
use Rattle.jobs.specs.Status.{nothing, unread}
use Rattle.jobs.proofs.Statuses.{whole_read}
use Rattle.jobs.proofs.run_read.Goals as goal

pub slice_bounds-run_text-end : goal.slice_bounds-run_text-end
slice_bounds-run_text-end c = whole_fits _ _ _ c.in-Whole.is c.read_sheet-read.ensures

pub slice_bounds-run_text-end-in-Whole : goal.slice_bounds-run_text-end-in-Whole
slice_bounds-run_text-end-in-Whole c = sym (length-take-le _ _ (whole_fits _ _ _ c.in-Whole.is c.read_sheet-read.ensures))

pub returns-in-Whole : goal.returns-in-Whole
returns-in-Whole c = whole_read _ _ _ _ _ _ c.in-Whole.is c.read_sheet-read.ensures c.run_text.ensures

pub returns-in-Broken : goal.returns-in-Broken
returns-in-Broken c = nothing unread
