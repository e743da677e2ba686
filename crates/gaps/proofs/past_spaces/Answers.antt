-- The invariant: only spaces were passed.
use native.Mathlib.Omega.{arith}
use borrow.Author.Tests.{eq-eqb}
use Rattle.yaml_text.specs.Char.{space}
use Rattle.chars.specs.Blocks.{is_space}
use Rattle.chars.specs.Each.{each_one, each_then}
use Rattle.gaps.specs.Spaces.{tries_each}
use Rattle.gaps.proofs.past_spaces.Goals as goal

pub loop-at-preserved : goal.loop-at-preserved
unfolding is_space
loop-at-preserved c =
    let h = c.loop-at-test.true in
    let one = each_one h (eq-eqb _ space c.if-text-at-eq32.true) in
    each_then c.loop-at.invariant (each_then one (tries_each (omega (arith, h)) c.past_some_spaces-at.ensures))
