-- A seed, or leave to have none.
use Rattle.jobs.proofs.Statuses.{none_allowed, none_done, some_done}
use Rattle.jobs.proofs.status.done_status.Goals as goal

pub returns-then-count-ne0 : goal.returns-then-count-ne0
returns-then-count-ne0 c = some_done c.args.count c.args.allowed c.if-count-ne0.true

pub returns-then-allowed : goal.returns-then-allowed
returns-then-allowed c = none_allowed c.args.count c.args.allowed c.if-allowed.true

pub returns : goal.returns
returns c = none_done c.args.count c.args.allowed c.if-count-ne0.false c.if-allowed.false
