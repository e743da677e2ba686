use Rattle.stacks.proofs.Drops.{Dropping}
use Rattle.stacks.proofs.indent.drop_non_ending.Given as goal

abbrev pub invariant-loop-place : goal.invariant-loop-place
invariant-loop-place l = Dropping l.stacks l.fn.from l.indents l.place
