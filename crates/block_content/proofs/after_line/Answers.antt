-- At the text's end nothing is pending; else the break and the margin behind it are passed over.
use mathlib.Core.Path.{◌∙◌, sym}
use Rattle.block_content.proofs.Contents.{rests_end, rests_margin}
use Rattle.block_content.proofs.after_line.Goals as goal

pub returns-then-ends_at : goal.returns-then-ends_at
returns-then-ends_at c = rests_end _ _ c.requires (sym c.ends_at.ensures ∙ c.if-ends_at.true)

pub returns : goal.returns
returns c =
    rests_margin _ _ c.requires
    (sym c.ends_at.ensures ∙ c.if-ends_at.false) c.skip_break.ensures
    c.skip_margin-g.ensures
