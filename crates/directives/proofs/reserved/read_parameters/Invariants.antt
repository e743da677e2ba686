use Prim.Native.Nat.{◌-◌}
use lib.ListN.{length}
use Rattle.directives.proofs.Joining.{Joining}
use Rattle.directives.proofs.reserved.read_parameters.Given as goal

abbrev pub invariant-loop-word : goal.invariant-loop-word
invariant-loop-word l = Joining l.text l.initial.out l.initial.place l.n l.out l.place l.count

abbrev pub decreases-loop-word : goal.decreases-loop-word
decreases-loop-word l = length l.text - l.place.at
