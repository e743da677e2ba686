-- The invariant: what is left passes just where the whole does.
use mathlib.Core.Path.{◌∙◌, sym}
use native.Mathlib.Omega.{arith}
use Rattle.validity.proofs.Soundness.{Went, sound_past, went}
use Rattle.chars.specs.Ascii.{low}
use Rattle.chars.specs.Each.{each_block}
use Rattle.validity.proofs.Blocks.{sound_block}
use Rattle.validity.proofs.is_sound.Goals as goal
use Rattle.validity.proofs.is_sound.Goals.{After-go_slow-i}

slow : (c : After-go_slow-i) → Went c.args.s.now c.loop-at.at c.min-e.result c.go_slow-i.result
slow c = went (omega arith) (omega (arith, c.min-e.ensures)) c.go_slow-i.ensures

pub loop-at-preserved-then-is_ascii : goal.loop-at-preserved-then-is_ascii
loop-at-preserved-then-is_ascii c =
    let e = c.min-e.ensures in
    let b = each_block {p = low} {s = c.args.s.now} {at = c.loop-at.at} {e = c.min-e.result} (omega (arith, e)) (omega (arith, e))
    (sym c.is_ascii.ensures ∙ c.if-is_ascii.true) in
    (omega (arith, e), c.loop-at.invariant.1 ∙ sound_block b)

pub returns-then-i-e : goal.returns-then-i-e
returns-then-i-e c =
    let w = slow (goal.at.returns-then-i-e c).After-go_slow-i in
    sym (c.loop-at.invariant.1 ∙ w.same ∙ w.short c.if-i-e.true)

pub loop-at-preserved : goal.loop-at-preserved
loop-at-preserved c =
    let w = slow (goal.at.loop-at-preserved c).After-go_slow-i in
    (w.within, c.loop-at.invariant.1 ∙ w.same)

pub returns : goal.returns
returns c = sym (c.loop-at.invariant.1 ∙ sound_past c.args.s.now c.loop-at.at c.loop-at-test.false)
