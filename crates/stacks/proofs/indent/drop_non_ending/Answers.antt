-- Each turn drops the entry that the definition drops, so what is left gives the whole.
use Rattle.stacks.proofs.Drops.{dropped_none, dropped_stop, dropping_more, dropping_start}
use Rattle.stacks.proofs.indent.drop_non_ending.Goals as goal

pub loop-place-init : goal.loop-place-init
loop-place-init c = dropping_start c.args.stacks.now c.args.from c.requires.indent

pub loop-place-preserved : goal.loop-place-preserved
loop-place-preserved c = rw c.left_below-indents.ensures (dropping_more c.loop-place.invariant c.loop-place-test.true c.if-stacks-place-eq1.false)

pub returns-then-stacks-place-eq1 : goal.returns-then-stacks-place-eq1
returns-then-stacks-place-eq1 c = dropped_stop c.loop-place.invariant c.loop-place-test.true c.if-stacks-place-eq1.true

pub returns-after-loop-place : goal.returns-after-loop-place
returns-after-loop-place c = dropped_none c.loop-place.invariant c.loop-place-test.false
