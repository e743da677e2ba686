use Prim.Native.Nat.{◌-◌}
use lib.ListN.{length}
use Rattle.validity.proofs.Near.{Near}
use Rattle.validity.proofs.first_refusal.Given as goal

abbrev pub invariant-loop-p : goal.invariant-loop-p
invariant-loop-p l = Near l.s l.p

abbrev pub decreases-loop-p : goal.decreases-loop-p
decreases-loop-p l = length l.s - l.p.at
