-- The top entry is the word below the depth, and its last bit tells whether it ends a block.
use Rattle.stacks.proofs.Drops.{top_none, top_some}
use Rattle.stacks.proofs.indent.top_ends.Goals as goal

pub returns-then-depth-gt0 : goal.returns-then-depth-gt0
returns-then-depth-gt0 c = let a = c.args in top_some a.stacks.now a.depth c.if-depth-gt0.true

pub returns-else-depth-gt0 : goal.returns-else-depth-gt0
returns-else-depth-gt0 c = let a = c.args in top_none a.stacks.now a.depth c.if-depth-gt0.false
