use Prim.Native.Nat.{◌-◌, ℕ}
use mathlib.Core.List.{List}
use lib.ListN.{drop, length}
use Rattle.yaml_text.specs.Mark.{Run}
use Rattle.yaml_text.specs.Utf8.{chars}
use Rattle.chars.specs.declared.mark.Place.{Place}
use Rattle.gaps.specs.Line.{line}
use Rattle.gaps.specs.Span.{Spanning}
use Rattle.gaps.proofs.run_to_break.Given as goal

abbrev line-from : List ℕ → Place → Run
line-from text p = line p.mark (chars (drop p.at text))

abbrev pub invariant-loop-code : goal.invariant-loop-code
invariant-loop-code l = Spanning l.text l.initial.p l.p (line-from l.text l.initial.p) (line-from l.text l.p)

abbrev pub decreases-loop-code : goal.decreases-loop-code
decreases-loop-code l = length l.text - l.p.at
