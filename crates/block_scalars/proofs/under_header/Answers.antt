-- A tab is looked for first; then the column, the margin and the content follow as in the definition.
use mathlib.Core.Path.{◌∙◌}
use borrow.Author.Tests.{eq-eqb, ne_eqb}
use Rattle.yaml_text.specs.Char.{tab}
use Rattle.chars.specs.Bytes.{eq_at}
use Rattle.block_scalars.proofs.Scans.{reads_refused, reads_as, settles_first, under_content, under_tab}
use Rattle.chars.specs.View.{view}
use Rattle.block_scalars.specs.Scan.{header_of}
use Rattle.block_scalars.proofs.under_header.Goals as goal

pub returns-then-byte-eq9 : goal.returns-then-byte-eq9
returns-then-byte-eq9 c =
    let a = c.args in
    reads_refused c.refuse.ensures
    (under_tab a.k (header_of a.text.now a.h) (view a.text.now a.q) (eq_at a.text.now a.q.at _ c.byte.ensures tab tt ∙ eq-eqb _ tab c.if-byte-eq9.true))

pub content_under-requires : goal.content_under-requires
content_under-requires c =
    settles_first
    (record { literal = c.args.k.literal; chomping = c.args.h.chomping; column = c.content_column-column.result })
    c.skip_margin.ensures c.requires.some
    c.requires.short

pub returns : goal.returns
returns c =
    let a = c.args in
    reads_as c.content_under.ensures
    (under_content a.k a.h (eq_at a.text.now a.q.at _ c.byte.ensures tab tt ∙ ne_eqb _ tab c.if-byte-eq9.false) c.content_column-column.ensures c.skip_margin.ensures)
