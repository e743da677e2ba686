use Rattle.vectors.proofs.Reading.{Reading}
use Rattle.vectors.proofs.read_hex.Given as goal

abbrev pub invariant-loop-n : goal.invariant-loop-n
invariant-loop-n l = Reading l.line l.initial.out l.out l.n
