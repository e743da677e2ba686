-- By the style, then by what number the text is.
use Rattle.std.proofs.Common.{None, Some}
use mathlib.Core.Path.{◌∙◌, sym}
use Rattle.shape.proofs.Seeds.{seed_other, seed_plain}
use Rattle.shape.proofs.seed_of.Goals as goal

pub returns-then-style-ne-PLAIN : goal.returns-then-style-ne-PLAIN
returns-then-style-ne-PLAIN c = seed_other _ _ _ _ _ c.if-style-ne-PLAIN.true

pub returns-in-Some : goal.returns-in-Some
returns-in-Some c = seed_plain _ _ _ _ _ (Some _) c.if-style-ne-PLAIN.false (sym c.in-Some.is ∙ c.number_in.ensures)

pub returns-in-None : goal.returns-in-None
returns-in-None c = seed_plain _ _ _ _ _ None c.if-style-ne-PLAIN.false (sym c.in-None.is ∙ c.number_in.ensures)
