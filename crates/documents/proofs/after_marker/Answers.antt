-- Each way out is one case of the definition: behind `---` nothing is asked; behind `...` what the blanks and comment reach is a break or is not.
use Rattle.std.proofs.Common.{◌∙◌, ap, sym}
use Rattle.std.proofs.lemmas.Result.{err_from_is_err_and}
use Rattle.yaml_text.specs.Class.{is_breakz}
use Rattle.documents.proofs.Marker.{after_break, after_refused, after_start, after_text}
use Rattle.documents.proofs.after_marker.Goals as goal

pub returns-then-starts : goal.returns-then-starts
returns-then-starts c = after_start c.if-starts.true c.requires

pub returns-in_err-e : goal.returns-in_err-e
returns-in_err-e c =
    let p = err_from_is_err_and c.from_residual.result c.from_residual.ensures.1 in
    rw (p.1, p.2) (after_refused c.if-starts.false c.in_err-e.ensures)

pub returns-then-is_breakz : goal.returns-then-is_breakz
returns-then-is_breakz c = after_break c.if-starts.false c.in_ok-e.ensures (ap is_breakz (sym c.look.ensures) ∙ sym c.is_breakz.ensures ∙ c.if-is_breakz.true)

pub returns : goal.returns
returns c =
    rw c.refuse.ensures
    (after_text c.if-starts.false c.in_ok-e.ensures (ap is_breakz (sym c.look.ensures) ∙ sym c.is_breakz.ensures ∙ c.if-is_breakz.false))
