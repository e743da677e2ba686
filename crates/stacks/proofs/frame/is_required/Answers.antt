-- The first word of a candidate tells whether it is required.
use Rattle.stacks.specs.Stack.{frame_at}
use Rattle.stacks.proofs.Frames.{required_word}
use Rattle.stacks.proofs.frame.is_required.Goals as goal

pub returns : goal.returns
returns c = let a = c.args in required_word a.stacks.now (frame_at a.level)
