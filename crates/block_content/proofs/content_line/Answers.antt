-- The separator and the line are written, and what is behind the line is left.
use mathlib.Core.Path.{◌∙◌, ap}
use native.Mathlib.Omega.{arith}
use Rattle.yaml_text.specs.Class.{is_blank}
use Rattle.block_content.proofs.Contents.{line_end, turns_line}
use Rattle.block_content.proofs.content_line.Goals as goal

pub overflow_add-n : goal.overflow_add-n
overflow_add-n c =
    let l = line_end c.requires
    c.run_to_break-e.ensures _
    c.put_separator-n.ensures in
    omega (arith, l.few, l.short, l.stands.within)

pub after_line-requires : goal.after_line-requires
after_line-requires c =
    line_end c.requires
    c.run_to_break-e.ensures _
    c.put_separator-n.ensures

pub returns : goal.returns
returns c =
    turns_line
    c.requires
    c.run_to_break-e.ensures _
    c.put_separator-n.ensures
    (c.is_blank-blank.ensures ∙ ap is_blank c.look.ensures)
    c.copy.ensures c.after_line.ensures
