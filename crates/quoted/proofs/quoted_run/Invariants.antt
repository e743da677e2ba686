use Prim.Native.Nat.{◌-◌}
use lib.ListN.{length}
use Rattle.quoted.proofs.Running.{Running}
use Rattle.quoted.proofs.quoted_run.Given as goal

abbrev pub invariant-loop-next : goal.invariant-loop-next
invariant-loop-next l = Running l.text l.q l.initial.out l.out l.t

abbrev pub decreases-loop-next : goal.decreases-loop-next
decreases-loop-next l = length l.text - l.t.place.at
