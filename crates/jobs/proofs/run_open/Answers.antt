-- Nothing is answered before the sheet is read.
use Rattle.jobs.specs.Status.{nothing, unread, unwritten}
use Rattle.jobs.proofs.run_open.Goals as goal

pub returns-in_default : goal.returns-in_default
returns-in_default c = nothing unwritten

pub returns-then-is_place : goal.returns-then-is_place
returns-then-is_place c = nothing unread
