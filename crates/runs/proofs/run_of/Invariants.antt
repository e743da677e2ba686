use Prim.Native.Nat.{◌-◌}
use lib.ListN.{length}
use Rattle.runs.proofs.Passing.{Passing}
use Rattle.runs.proofs.run_of.Given as goal

abbrev pub invariant-loop-code : goal.invariant-loop-code
invariant-loop-code g l = Passing g.C.Class.test l.text l.initial.p l.p

abbrev pub decreases-loop-code : goal.decreases-loop-code
decreases-loop-code g l = length l.text - l.p.at
