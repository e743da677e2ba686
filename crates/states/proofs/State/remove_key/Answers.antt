-- The frame of the level loses its candidate.
use Rattle.states.proofs.Keys.{removes}
use Rattle.states.proofs.State.remove_key.Goals as goal

pub returns : goal.returns
returns c = removes c.args.stacks.now c.args.self c.requires.1 c.clear_key.ensures
