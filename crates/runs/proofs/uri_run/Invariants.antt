use Prim.Native.Nat.{◌-◌}
use lib.ListN.{length}
use Rattle.runs.proofs.Writing.{Running}
use Rattle.runs.proofs.uri_run.Given as goal

abbrev pub invariant-loop-start : goal.invariant-loop-start
invariant-loop-start g l = Running g.C.Class.test l.start l.text l.initial.out l.initial.w.place l.initial.w.count l.out l.w

abbrev pub decreases-loop-start : goal.decreases-loop-start
decreases-loop-start g l = length l.text - l.w.place.at
