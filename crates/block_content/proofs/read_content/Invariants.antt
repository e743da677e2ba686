use Prim.Native.Nat.{◌-◌}
use lib.ListN.{length}
use Rattle.block_content.proofs.Contents.{Going}
use Rattle.block_content.proofs.read_content.Given as goal

abbrev pub invariant-loop-c : goal.invariant-loop-c
invariant-loop-c l = Going l.text l.b l.initial.out l.initial.c l.out l.c

abbrev pub decreases-loop-c : goal.decreases-loop-c
decreases-loop-c l = length l.text - l.c.place.at
