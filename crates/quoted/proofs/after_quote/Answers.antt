-- The blanks and comment are read, or refused, as the definition does; then the character behind them is looked at.
use mathlib.Core.Path.{◌∙◌, ap, refl}
use Rattle.std.proofs.Common.{Ok}
use Rattle.std.proofs.lemmas.Result.{err_from_is_err_and}
use Rattle.quoted.proofs.Finish.{follows_got, follows_stuck, follows_wrong}
use Rattle.quoted.proofs.after_quote.Goals as goal

pub returns : goal.returns
returns c = follows_got _ _ _ _ c.in_ok-e.ensures refl c.look.ensures c.fits_after.ensures c.if-not-fits_after.false c.requires.1 c.requires.2 (ap Ok (c.new.ensures ∙ rw (c.pick.ensures, c.text_at.ensures)))

pub returns-in_err-e : goal.returns-in_err-e
returns-in_err-e c =
    let p = err_from_is_err_and c.from_residual.result c.from_residual.ensures.1 in
    rw (p.1, p.2) (follows_stuck c.args.flow c.args.q c.args.used c.args.w.count c.in_err-e.ensures refl refl)

pub returns-then-not-fits_after : goal.returns-then-not-fits_after
returns-then-not-fits_after c = follows_wrong _ _ _ _ c.in_ok-e.ensures refl c.look.ensures c.fits_after.ensures c.if-not-fits_after.true c.refuse.ensures
