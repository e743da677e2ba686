use Prim.Native.Nat.{◌+◌, ◌-◌, ◌≤◌}
use lib.ListN.{drop, length}
use Rattle.yaml_text.specs.Utf8.{chars}
use Rattle.yaml_lexeme.specs.Block.{margin}
use Rattle.gaps.specs.Walk.{Walks}
use Rattle.block_header.proofs.margin.skip_margin.Given as goal

abbrev pub invariant-loop-p : goal.invariant-loop-p
invariant-loop-p l =
    Walks l.text l.initial.p l.p (margin l.column 0 l.initial.p.mark (chars (drop l.initial.p.at l.text))) (margin l.column l.n l.p.mark (chars (drop l.p.at l.text))) ×
    (l.initial.p.at + l.n ≤ l.p.at)

abbrev pub decreases-loop-p : goal.decreases-loop-p
decreases-loop-p l = length l.text - l.p.at
