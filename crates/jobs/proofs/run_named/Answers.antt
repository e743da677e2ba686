-- Nothing is answered before the sheet is open.
use Rattle.jobs.specs.Status.{nothing, unread, unwritten}
use Rattle.jobs.proofs.run_named.Goals as goal

pub returns-in-Some : goal.returns-in-Some
returns-in-Some c = nothing unread

pub returns-then-not-remove_old : goal.returns-then-not-remove_old
returns-then-not-remove_old c = nothing unwritten

pub returns-in_default-open_sheet : goal.returns-in_default-open_sheet
returns-in_default-open_sheet c = nothing unread
