-- Where all is kept, the status is that of the closing record.
use Rattle.jobs.specs.Status.{not_kept}
use Rattle.jobs.proofs.Statuses.{closed_as}
use Rattle.jobs.proofs.run.close_job.Goals as goal

pub returns-then-kept : goal.returns-then-kept
returns-then-kept c = closed_as _ _ c.status_of.ensures

pub returns : goal.returns
returns c = not_kept
