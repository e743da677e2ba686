-- One word is stored: that of the level.
use Rattle.std.proofs.Common.{arith}
use Rattle.stacks.proofs.Frames.{level_stored}
use Rattle.stacks.proofs.frame.set_level.Goals as goal

pub returns : goal.returns
returns c = let a = c.args in level_stored a.stacks.now a.level a.l c.requires (omega arith) (rw c.level_word.ensures)
