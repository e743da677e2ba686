-- The entry that the definition drops is dropped, and then one is stacked or not.
use Rattle.std.proofs.lemmas.Result.{err_from_is_err_and}
use Rattle.stacks.proofs.Rolls.{rolled_full, rolled_starts, rolled_stays}
use Rattle.stacks.proofs.indent.roll.Goals as goal

pub returns-then-edge-d : goal.returns-then-edge-d
returns-then-edge-d c = rolled_stays c.args.limit c.args.m c.drop_for-d.ensures c.requires.1 c.if-edge-d.true

pub returns-in_err-i : goal.returns-in_err-i
returns-in_err-i c =
    let a = c.args in let p = err_from_is_err_and c.from_residual.result c.from_residual.ensures.1 in
    rw (p.1, p.2) (rolled_full a.limit a.m c.drop_for-d.ensures c.if-edge-d.false c.in_err-i.ensures)

pub returns : goal.returns
returns c = let a = c.args in rolled_starts a.limit a.m c.drop_for-d.ensures c.if-edge-d.false c.in_ok-i.ensures
