-- The blanks and comment are read, or refused, as the definition does; then only a break or the end may stand there.
use Rattle.std.proofs.Common.{sym}
use Rattle.std.proofs.lemmas.Result.{err_from_is_err_and}
use Rattle.directives.proofs.Lines.{ends_open, ends_past, ends_refused}
use Rattle.directives.proofs.line_end.Goals as goal

pub returns-in_err-e : goal.returns-in_err-e
returns-in_err-e c =
    let p = err_from_is_err_and c.from_residual.result c.from_residual.ensures.1 in
    rw (p.1, p.2) (ends_refused _ c.in_err-e.ensures)

pub returns-then-not-is_breakz : goal.returns-then-not-is_breakz
returns-then-not-is_breakz c = rw c.refuse.ensures (ends_open _ c.in_ok-e.ensures c.look.ensures (sym c.if-not-is_breakz.ensures))

pub returns : goal.returns
returns c = ends_past _ c.in_ok-e.ensures c.look.ensures c.requires (sym c.if-not-is_breakz.ensures) c.skip_break-next.ensures
