-- The invariant: the text so far, with what is left of it, is the whole text.
use Rattle.std.proofs.Common.{◌+◌, ◌-◌, ◌∙◌, arith, refl, sym}
use lib.Dec.{ltb}
use Rattle.plain.proofs.Ends.{IsText, goes_by}
use Rattle.plain.proofs.On.{On, on_blank, on_done, on_ordinary, on_other, on_run, on_start}
use Rattle.plain.proofs.text_end.Goals as goal
use Rattle.plain.proofs.text_end.Goals.{In-Some, Then-is_blank_byte, Then-is_ordinary}

-- over an ordinary character
over_ordinary : (c : Then-is_ordinary) → On c.args.text.now c.args.flow c.args.start (c.loop-end.at + 1) (c.loop-end.at + 1) c.loop-end.extra
over_ordinary c = on_ordinary c.loop-end.invariant _ c.byte-b.ensures (sym c.is_ordinary.ensures ∙ c.if-is_ordinary.true)

-- over a blank
over_blank : (c : Then-is_blank_byte) → On c.args.text.now c.args.flow c.args.start (c.loop-end.at + 1) c.loop-end.end c.loop-end.extra
over_blank c = on_blank c.loop-end.invariant _ c.byte-b.ensures (sym c.is_blank_byte.ensures ∙ c.if-is_blank_byte.true)

-- any other character of the text
text : (c : In-Some) → IsText c.args.flow (ltb c.loop-end.end c.loop-end.at) c.args.text.now c.loop-end.at c.in-Some.n
text c = goes_by _ _ _ _ _ refl _ (sym c.text_length.ensures ∙ c.in-Some.is)

-- over it
over_other : (c : In-Some) → let n = c.in-Some.n in
    On c.args.text.now c.args.flow c.args.start (c.loop-end.at + n) (c.loop-end.at + n) (c.loop-end.extra + (n - 1))
over_other c =
    on_other c.loop-end.invariant _ c.byte-b.ensures (sym c.is_blank_byte.ensures ∙ c.if-is_blank_byte.false) (text c)

pub loop-end-init : goal.loop-end-init
loop-end-init c = on_run (on_start _ _ _ c.requires.within) c.past_blocks-at.ensures.each

pub loop-end-smaller-then-is_ordinary : goal.loop-end-smaller-then-is_ordinary
loop-end-smaller-then-is_ordinary c = omega (arith, (over_ordinary c).within)

pub loop-end-preserved-then-is_ordinary : goal.loop-end-preserved-then-is_ordinary
loop-end-preserved-then-is_ordinary c = over_ordinary (goal.at.loop-end-preserved-then-is_ordinary c).Then-is_ordinary

pub loop-end-smaller-then-is_blank_byte : goal.loop-end-smaller-then-is_blank_byte
loop-end-smaller-then-is_blank_byte c = omega (arith, (over_blank c).within)

pub loop-end-preserved-then-is_blank_byte : goal.loop-end-preserved-then-is_blank_byte
loop-end-preserved-then-is_blank_byte c = over_blank (goal.at.loop-end-preserved-then-is_blank_byte c).Then-is_blank_byte

pub returns-in_default : goal.returns-in_default
returns-in_default c = on_done c.loop-end.invariant c.requires (sym c.text_length.ensures ∙ c.in_default.is) _ c.behind.ensures

pub overflow_add-at-else-is_blank_byte : goal.overflow_add-at-else-is_blank_byte
overflow_add-at-else-is_blank_byte c = omega (arith, (over_other c).within)

pub overflow_sub-extra : goal.overflow_sub-extra
overflow_sub-extra c = (text c).is.some

pub overflow_add-extra : goal.overflow_add-extra
overflow_add-extra c = omega (arith, over_other c)

pub loop-end-smaller : goal.loop-end-smaller
loop-end-smaller c = omega (arith, (over_other c).within, (text (goal.at.loop-end-smaller c).In-Some).is.some)

pub loop-end-preserved : goal.loop-end-preserved
loop-end-preserved c = over_other (goal.at.loop-end-preserved c).In-Some
