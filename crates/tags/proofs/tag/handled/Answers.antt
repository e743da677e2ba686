-- The handle is copied and the suffix written behind it.
use Rattle.std.proofs.Common.{◌+◌, arith, refl}
use Rattle.std.proofs.lemmas.Result.{err_from_is_err_and}
use Rattle.runs.specs.RunLaws.{ran}
use Rattle.tags.proofs.Parts.{Copied, handled_none, handled_refused, handled_some}
use Rattle.tags.proofs.tag.handled.Goals as goal
use Rattle.tags.proofs.tag.handled.Goals.{After-copy}

copied : (c : After-copy) → Copied c.args.text.now c.args.out.now c.copy.new.out (c.args.p.at + 1)
copied c = record { is = c.copy.ensures }

pub returns-in_err-s : goal.returns-in_err-s
returns-in_err-s c =
    let p = err_from_is_err_and c.from_residual.result c.from_residual.ensures.1 in
    rw (p.1, p.2)
    (handled_refused c.requires.0 c.requires.1 (copied (goal.at.returns-in_err-s c).After-copy) (rw c.skip_blank.ensures at c.in_err-s.ensures.writes))

pub returns-then-s-n : goal.returns-then-s-n
returns-then-s-n c =
    rw c.refuse.ensures
    (handled_none c.requires.0 c.requires.1 (copied (goal.at.returns-then-s-n c).After-copy) (rw c.skip_blank.ensures at c.in_ok-s.ensures.writes) c.if-s-n.true)

pub overflow_sub-result : goal.overflow_sub-result
overflow_sub-result c = let t = ran c.in_ok-s.ensures.writes refl in omega (arith, t.next)

pub returns : goal.returns
returns c =
    handled_some c.requires.0 c.requires.1 (copied (goal.at.returns c).After-copy) (rw c.skip_blank.ensures at c.in_ok-s.ensures.writes) c.if-s-n.false
