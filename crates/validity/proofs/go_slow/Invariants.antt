use Prim.Native.Nat.{◌-◌, ◌≤◌, ℕ}
use lib.ListN.{length}
use Rattle.validity.specs.Sound.{PassesTo}
use Rattle.validity.proofs.go_slow.Given as goal

abbrev pub invariant-loop-i : goal.invariant-loop-i
invariant-loop-i l = (l.i ≤ length l.s) × ((r : ℕ) → PassesTo l.s l.upto l.i r → PassesTo l.s l.upto l.at r)

abbrev pub decreases-loop-i : goal.decreases-loop-i
decreases-loop-i l = length l.s - l.i
