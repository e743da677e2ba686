-- Only a break or the end may stand behind the blanks and comment of a header.
use mathlib.Core.Path.{◌∙◌, ap, sym}
use Rattle.yaml_text.specs.Class.{is_breakz}
use Rattle.block_scalars.specs.Scan.{header_of, under_header}
use Rattle.chars.specs.View.{view}
use Rattle.block_scalars.proofs.Scans.{reads_refused, end_right, end_wrong, reads_as}
use Rattle.block_scalars.proofs.header_end.Goals as goal

pub returns-then-is_breakz : goal.returns-then-is_breakz
returns-then-is_breakz c =
    let a = c.args in
    reads_as c.under_header.ensures
    (ap (under_header a.k (header_of a.text.now a.h)) c.skip_break.ensures.same ∙ end_right a.k (header_of a.text.now a.h) (view a.text.now a.e) (sym (c.is_breakz.ensures ∙ ap is_breakz c.look.ensures) ∙ c.if-is_breakz.true))

pub returns : goal.returns
returns c =
    let a = c.args in
    reads_refused c.refuse.ensures
    (end_wrong a.k (header_of a.text.now a.h) (view a.text.now a.e) (sym (c.is_breakz.ensures ∙ ap is_breakz c.look.ensures) ∙ c.if-is_breakz.false))
