-- By the closing record.
use Rattle.jobs.proofs.Statuses.{of_done, of_not_done}
use Rattle.jobs.proofs.status.status_of.Goals as goal

pub returns-in-Done : goal.returns-in-Done
returns-in-Done c = of_done _ _ c.in-Done.is c.done_status.ensures

pub returns-in-NotDone : goal.returns-in-NotDone
returns-in-NotDone c = of_not_done _ _ c.in-NotDone.is
