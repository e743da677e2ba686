-- The job closes as the definition says, or not all of it is kept.
use Rattle.jobs.specs.Status.{none, unwritten}
use Rattle.jobs.proofs.Statuses.{handed_closed}
use Rattle.jobs.proofs.run.run_text.Goals as goal

pub returns-in-Ok : goal.returns-in-Ok
returns-in-Ok c = handed_closed _ _ _ _ _ c.in-Ok.is c.hand_over.ensures c.close_job.ensures

pub returns-in-Err-Unwritten : goal.returns-in-Err-Unwritten
returns-in-Err-Unwritten c = none unwritten
