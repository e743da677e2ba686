-- A space goes before every word but the first.
use Rattle.directives.proofs.Joining.{space_none, space_put}
use Rattle.directives.proofs.reserved.put_space.Goals as goal

pub returns-then-n-k : goal.returns-then-n-k
returns-then-n-k c = space_put _ c.if-n-k.true c.put.ensures

pub returns : goal.returns
returns c = space_none _ c.if-n-k.false
