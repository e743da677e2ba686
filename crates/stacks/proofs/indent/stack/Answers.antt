-- Where the depth is below the limit there is room for one entry more.
use native.Mathlib.Omega.{arith}
use Rattle.stacks.proofs.Rolls.{stack_full, stack_got}
use Rattle.stacks.proofs.indent.stack.Goals as goal

pub returns-then-limit-from : goal.returns-then-limit-from
returns-then-limit-from c =
    let a = c.args in
    rw c.full.ensures (stack_full a.stacks.now a.limit a.m a.indent a.ends a.from c.if-limit-from.true)

pub returns : goal.returns
returns c =
    let a = c.args in let p = c.push.ensures in
    rw (p.0, p.1) (stack_got a.stacks.now a.limit a.m a.indent a.ends a.from c.requires.0 (omega arith) c.if-limit-from.false c.requires.1 c.requires.2)
