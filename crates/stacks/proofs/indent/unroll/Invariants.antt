use Rattle.stacks.proofs.Drops.{Unrolling}
use Rattle.stacks.proofs.indent.unroll.Given as goal

abbrev pub invariant-loop-place : goal.invariant-loop-place
invariant-loop-place l = Unrolling l.stacks l.edge l.fn.from l.indents l.place l.ended
