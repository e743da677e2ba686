use Rattle.reading.proofs.Laws.{Breaking}
use Rattle.reading.proofs.put_breaks.Given as goal

abbrev pub invariant-loop-i : goal.invariant-loop-i
invariant-loop-i l = Breaking l.initial.out l.n l.k l.out l.i
