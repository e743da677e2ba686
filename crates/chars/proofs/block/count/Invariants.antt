use Prim.Native.Nat.{◌+◌, ◌≤◌}
use mathlib.Core.Path.{◌≡◌}
use lib.ListN.{drop}
use Rattle.chars.specs.Each.{count_of}
use Rattle.chars.proofs.block.count.Given as goal

-- those that were passed and those that are left are all of them
abbrev pub invariant-loop-b : goal.invariant-loop-b
invariant-loop-b g l =
    let p = g.C.ByteClass.test in
    (l.n ≤ l.b-index) × (count_of p l.s ≡ l.n + count_of p (drop l.b-index l.s))
