-- Each turn drops the entry that the definition drops and counts its end, so what is left gives the whole.
use Rattle.stacks.proofs.Drops.{unrolled_none, unrolled_stop, unrolling_more, unrolling_start}
use Rattle.stacks.proofs.indent.unroll.Goals as goal

pub loop-place-init : goal.loop-place-init
loop-place-init c = unrolling_start c.args.stacks.now c.args.edge c.args.from c.requires.indent

pub loop-place-preserved : goal.loop-place-preserved
loop-place-preserved c = rw c.left_below-indents.ensures (unrolling_more c.loop-place.invariant c.loop-place-test.true c.if-indents-edge.false)

pub returns-then-indents-edge : goal.returns-then-indents-edge
returns-then-indents-edge c = unrolled_stop c.loop-place.invariant c.if-indents-edge.true

pub returns-after-loop-place : goal.returns-after-loop-place
returns-after-loop-place c = unrolled_none c.loop-place.invariant c.loop-place-test.false
