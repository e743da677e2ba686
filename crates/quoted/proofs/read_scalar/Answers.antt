-- The run up to the closing quote, then what follows it.
use mathlib.Core.Path.{refl}
use Rattle.std.proofs.lemmas.Result.{err_from_is_err_and}
use Rattle.quoted.proofs.Finish.{scan_closed, scan_refused}
use Rattle.quoted.proofs.read_scalar.Goals as goal

pub returns-in_err-w : goal.returns-in_err-w
returns-in_err-w c =
    let p = err_from_is_err_and c.from_residual.result c.from_residual.ensures.1 in
    rw (p.1, p.2) (scan_refused c.args.flow c.args.q c.requires c.in_err-w.ensures refl)

pub returns : goal.returns
returns c = scan_closed c.args.flow c.args.q c.requires c.in_ok-w.ensures c.after_quote.ensures
