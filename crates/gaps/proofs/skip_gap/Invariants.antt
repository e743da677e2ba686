use Prim.Native.Nat.{◌-◌}
use lib.ListN.{length}
use Rattle.yaml_text.specs.Pick.{pick}
use Rattle.yaml_lexeme.specs.declared.Before.TheVariants.{AfterText, Leading}
use Rattle.chars.specs.View.{view}
use Rattle.gaps.specs.Gap.{Open, gap_from}
use Rattle.gaps.specs.Walk.{Walks}
use Rattle.gaps.proofs.skip_gap.Given as goal

abbrev pub invariant-loop-m : goal.invariant-loop-m
invariant-loop-m l = Walks l.text l.initial.p l.p (gap_from l.flow l.allowed (pick l.leads Leading AfterText) (view l.text l.initial.p)) (gap_from l.flow l.ok l.b (view l.text l.p)) × Open l.b

abbrev pub decreases-loop-m : goal.decreases-loop-m
decreases-loop-m l = length l.text - l.p.at
