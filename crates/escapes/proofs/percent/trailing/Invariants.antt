use Rattle.escapes.proofs.Trail.{Trailed}
use Rattle.escapes.proofs.percent.trailing.Given as goal

abbrev pub invariant-loop-i : goal.invariant-loop-i
invariant-loop-i l = Trailed l.text l.at l.start l.initial.out l.out l.i
