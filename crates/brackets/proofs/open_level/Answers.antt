-- The frame of the next level is made anew: no candidate, and fresh data.
use Rattle.brackets.proofs.Levels.{opens_level}
use Rattle.brackets.proofs.open_level.Goals as goal

pub returns : goal.returns
returns c = opens_level c.args.level c.clear_key.ensures c.set_level.ensures c.new_level.ensures
