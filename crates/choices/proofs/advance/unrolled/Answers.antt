-- In flow nothing ends; outside it the unrolling is to the column.
use Rattle.choices.proofs.NextToken.{unrolls_here, unrolls_none}
use Rattle.choices.proofs.advance.unrolled.Goals as goal

pub returns-then-s-gt0 : goal.returns-then-s-gt0
returns-then-s-gt0 c = unrolls_none c.args.stacks.now c.args.s c.requires.0 c.if-s-gt0.true

pub returns : goal.returns
returns c =
    let a = c.args in
    unrolls_here a.stacks.now a.s c.if-s-gt0.false c.unroll.ensures
