-- One case of the definition for each return.
use mathlib.Core.Path.{◌∙◌, sym}
use Rattle.block_scalars.proofs.Scalars.{empty_lexed}
use Rattle.block_scalars.proofs.Scans.{reads_refused, block_empty, block_low, block_some, reads_as}
use Rattle.block_scalars.proofs.content_under.Goals as goal

pub returns-then-ends_at : goal.returns-then-ends_at
returns-then-ends_at c =
    let a = c.args in
    reads_as (empty_lexed a.k a.b a.g c.empty_scalar.ensures c.requires)
    (block_empty a.text.now a.k a.b a.g (sym c.ends_at.ensures ∙ c.if-ends_at.true))

pub returns-then-opens_content-m : goal.returns-then-opens_content-m
returns-then-opens_content-m c =
    let a = c.args in
    reads_refused c.refuse.ensures
    (block_low a.text.now a.k a.b a.g (sym c.ends_at.ensures ∙ c.if-ends_at.false)
    (rw c.opens_content.ensures at c.if-opens_content-m.true))

pub returns : goal.returns
returns c =
    let a = c.args in
    reads_as c.content_scalar.ensures
    (block_some a.text.now a.k a.b a.g (sym c.ends_at.ensures ∙ c.if-ends_at.false)
    (rw c.opens_content.ensures at c.if-opens_content-m.false))
