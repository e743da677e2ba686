-- What is left to go gives the whole way.
use native.Mathlib.Omega.{arith}
use Rattle.validity.specs.Sound.{onto}
use Rattle.validity.proofs.Soundness.{PassStep, next}
use Rattle.validity.proofs.go_slow.Goals as goal
use Rattle.validity.proofs.go_slow.Goals.{In-Some}

step : (c : In-Some) → PassStep c.args.s.now c.loop-i.i c.in-Some.n
step c = next c.args.s.now c.loop-i.i c.in-Some.n c.loop-i.invariant.0 c.in-Some.ensures

pub overflow_add-i : goal.overflow_add-i
overflow_add-i c = omega (arith, step (goal.at.overflow_add-i c).In-Some)

pub loop-i-smaller : goal.loop-i-smaller
loop-i-smaller c = omega (arith, step (goal.at.loop-i-smaller c).In-Some)

pub loop-i-preserved : goal.loop-i-preserved
loop-i-preserved c =
    let p = step (goal.at.loop-i-preserved c).In-Some in
    (omega (arith, p), λ r w. c.loop-i.invariant.1 r (onto c.loop-i-test.true c.in-Some.ensures w))
