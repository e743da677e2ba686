-- The mark and word characters are copied and the rest written behind them.
use Rattle.std.proofs.Common.{arith, refl}
use Rattle.std.proofs.lemmas.Result.{err_from_is_err_and}
use Rattle.runs.specs.RunLaws.{ran}
use Rattle.tags.proofs.Parts.{Copied, primary_alone, primary_refused, primary_some}
use Rattle.tags.proofs.tag.primary.Goals as goal
use Rattle.tags.proofs.tag.primary.Goals.{After-copy}

copied : (c : After-copy) → Copied c.args.text.now c.args.out.now c.copy.new.out c.args.p.at
copied c = record { is = c.copy.ensures }

pub returns-in_err-s : goal.returns-in_err-s
returns-in_err-s c =
    let p = err_from_is_err_and c.from_residual.result c.from_residual.ensures.1 in
    rw (p.1, p.2) (primary_refused c.requires (copied (goal.at.returns-in_err-s c).After-copy) c.in_err-s.ensures.writes)

pub returns-then-s-eq1 : goal.returns-then-s-eq1
returns-then-s-eq1 c = primary_alone c.requires (copied (goal.at.returns-then-s-eq1 c).After-copy) c.in_ok-s.ensures.writes c.if-s-eq1.true

pub overflow_sub-result : goal.overflow_sub-result
overflow_sub-result c = let t = ran c.in_ok-s.ensures.writes refl in omega (arith, t.next, c.requires.name.moves.onward)

pub returns : goal.returns
returns c = primary_some c.requires (copied (goal.at.returns c).After-copy) c.in_ok-s.ensures.writes c.if-s-eq1.false
