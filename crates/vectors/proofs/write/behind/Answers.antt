-- What `pick` picks is what the definition picks.
use Rattle.vectors.specs.Vector.{row_end}
use Rattle.vectors.proofs.write.behind.Goals as goal

pub returns : goal.returns
unfolding row_end
returns c = c.pick.ensures
