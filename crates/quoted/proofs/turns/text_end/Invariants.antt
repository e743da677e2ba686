use Prim.Native.Nat.{◌-◌}
use lib.ListN.{drop, length}
use Rattle.yaml_text.specs.Utf8.{chars}
use Rattle.gaps.specs.Span.{Spanning}
use Rattle.quoted.specs.Texts.{words}
use Rattle.quoted.proofs.turns.text_end.Given as goal

abbrev pub invariant-loop-p : goal.invariant-loop-p
invariant-loop-p l = Spanning l.text l.initial.p l.p (words l.spaces l.single l.initial.p.mark (chars (drop l.initial.p.at l.text))) (words l.spaces l.single l.p.mark (chars (drop l.p.at l.text)))

abbrev pub decreases-loop-p : goal.decreases-loop-p
decreases-loop-p l = length l.text - l.p.at
