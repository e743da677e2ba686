use Prim.Native.Nat.{◌-◌}
use lib.ListN.{drop, length}
use Rattle.yaml_text.specs.Utf8.{chars}
use Rattle.yaml_lexeme.specs.Block.{largest}
use Rattle.gaps.specs.Walk.{Walks}
use Rattle.block_header.proofs.margin.largest_column.Given as goal

abbrev pub invariant-loop-p : goal.invariant-loop-p
invariant-loop-p l = Walks l.text l.initial.p l.p (largest 0 l.initial.p.mark (chars (drop l.initial.p.at l.text))) (largest l.most l.p.mark (chars (drop l.p.at l.text)))

abbrev pub decreases-loop-p : goal.decreases-loop-p
decreases-loop-p l = length l.text - l.p.at
