-- What is left to write from a turn on is the whole text; each turn reads a byte.
use mathlib.Core.Path.{ap, refl}
use Rattle.std.proofs.Common.{Ok}
use Rattle.std.proofs.lemmas.Result.{err_from_is_err_and}
use Rattle.quoted.proofs.Running.{running_closed, running_more, running_refused, running_start}
use Rattle.quoted.proofs.quoted_run.Goals as goal

pub loop-next-init : goal.loop-next-init
loop-next-init c = running_start _ c.requires.0 c.requires.1 (rw (c.skip_blank.ensures, c.first_at-first.ensures))

pub loop-next-preserved : goal.loop-next-preserved
loop-next-preserved c = running_more c.loop-next.invariant c.in_ok-next.ensures (ap Ok c.in-Goes.is) c.quoted_turn.auto.out

pub returns-in-Closes : goal.returns-in-Closes
returns-in-Closes c = running_closed c.loop-next.invariant c.in_ok-next.ensures (ap Ok c.in-Closes.is)

pub returns-in_err-next : goal.returns-in_err-next
returns-in_err-next c =
    let p = err_from_is_err_and c.from_residual.result c.from_residual.ensures.1 in
    rw (p.1, p.2) (running_refused c.loop-next.invariant c.in_err-next.ensures refl)
