-- Each way out is one case of the definition; no word is written.
use mathlib.Core.Path.{◌∙◌, sym}
use Rattle.documents.proofs.End.{end_flow, end_required, ends}
use Rattle.documents.proofs.fetch_stream_end.Goals as goal

pub returns-then-s-gt0 : goal.returns-then-s-gt0
returns-then-s-gt0 c = rw c.refuse.ensures (end_flow c.if-s-gt0.true)

pub returns-then-is_required : goal.returns-then-is_required
returns-then-is_required c =
    rw (c.refuse-then-is_required.ensures, c.forced-end.ensures)
    (end_required c.if-s-gt0.false (sym c.is_required.ensures ∙ c.if-is_required.true))

pub returns : goal.returns
returns c =
    rw (c.closing.ensures, c.forced-end.ensures)
    (ends c.if-s-gt0.false c.requires (sym c.is_required.ensures ∙ c.if-is_required.false) c.unroll-out.ensures)
