-- The machine's test for 0 is a test of the answer's bits, and these are zero for 0 alone.
use mathlib.Core.Path.{◌∙◌, ap, sym}
use mir.Syntax.{w64}
use mir.Val.{of_z, to_z}
use mir.Facts.{to_z-of_z}
use Rattle.sheets.proofs.Sheets.{other_breaks, zero_ends}
use Rattle.sheets.proofs.ended.Goals as goal

pub returns-then-got-eq0 : goal.returns-then-got-eq0
returns-then-got-eq0 c = zero_ends c.args.got c.args.n (sym (to_z-of_z c.ranges.got) ∙ ap (to_z w64) c.if-got-eq0.true)

pub returns-else-got-eq0 : goal.returns-else-got-eq0
returns-else-got-eq0 c = other_breaks c.args.got c.args.n (λ e. c.if-got-eq0.false (ap (of_z w64) e))
