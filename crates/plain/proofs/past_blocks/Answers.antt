-- No block begins with a byte that is not ordinary.
use mathlib.Core.Path.{◌∙◌, sym}
use Rattle.chars.specs.Each.{blocks_none}
use Rattle.plain.proofs.past_blocks.Goals as goal

pub returns-then-not-is_ordinary : goal.returns-then-not-is_ordinary
returns-then-not-is_ordinary c =
    blocks_none c.requires (rw c.byte.ensures at (sym c.is_ordinary.ensures ∙ c.if-not-is_ordinary.true))
