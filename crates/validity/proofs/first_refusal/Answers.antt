-- The invariant: what is left, from the mark here, is refused as the whole is.
use mathlib.Core.Path.{◌∙◌, sym}
use native.Mathlib.Omega.{arith}
use lib.ListN.{drop}
use Rattle.chars.specs.Bytes.{CharAt, char_at, not_char}
use Rattle.chars.specs.Lines.{break_few}
use Rattle.chars.specs.Places.{small}
use Rattle.validity.proofs.DecodeTurns.{some_left, turn_none, turn_nul}
use Rattle.validity.proofs.Near.{near_break, near_char, near_end}
use borrow.Author.Rules.{rules}
use Rattle.validity.proofs.first_refusal.Goals as goal
use Rattle.validity.proofs.first_refusal.Goals.{In-Char}

-- the character that was seen
stands : (c : In-Char) → CharAt c.args.s.now c.loop-p.p.at c.in-Char.code c.in-Char.len
stands c = char_at _ _ _ _ (sym c.char_at-d.ensures ∙ c.in-Char.is)

pub skip_linebreak-p-requires : goal.skip_linebreak-p-requires
skip_linebreak-p-requires c = (small c.loop-p.invariant.stands (search rules), rw c.break_length-n.ensures (break_few _))

pub loop-p-preserved-then-n-ne0 : goal.loop-p-preserved-then-n-ne0
loop-p-preserved-then-n-ne0 c = rw c.skip_linebreak-p.ensures (near_break c.break_length-n.result c.loop-p.invariant c.break_length-n.ensures c.if-n-ne0.true)

pub returns-in_default : goal.returns-in_default
returns-in_default c =
    c.refuse.ensures
    ∙ turn_none c.loop-p.p.mark (drop c.loop-p.p.at (c.args.s.now)) c.char_at-d.result (some_left (c.args.s.now) c.loop-p.p.at c.loop-p-test.true) c.char_at-d.ensures (not_char c.char_at-d.result c.in_default.not-Char)
    ∙ c.loop-p.invariant.same

pub returns-then-code-eq0 : goal.returns-then-code-eq0
returns-then-code-eq0 c =
    let char = stands (goal.at.returns-then-code-eq0 c).In-Char in
    c.refuse-then-code-eq0.ensures ∙ turn_nul c.loop-p.p.mark _ _ _ char.is c.if-code-eq0.true ∙ c.loop-p.invariant.same

pub skip_non_blank-p-requires : goal.skip_non_blank-p-requires
skip_non_blank-p-requires c =
    let char = stands (goal.at.skip_non_blank-p-requires c).In-Char in
    (small c.loop-p.invariant.stands (search rules), char.few)

pub loop-p-smaller : goal.loop-p-smaller
loop-p-smaller c =
    let char = stands (goal.at.loop-p-smaller c).In-Char in
    rw c.skip_non_blank-p.ensures (omega (arith, char))

pub loop-p-preserved : goal.loop-p-preserved
loop-p-preserved c =
    let char = stands (goal.at.loop-p-preserved c).In-Char in
    rw c.skip_non_blank-p.ensures (near_char c.loop-p.invariant (sym c.break_length-n.ensures ∙ c.if-n-ne0.false) char c.if-code-eq0.false)

pub returns : goal.returns
returns c = near_end c.loop-p.invariant c.loop-p-test.false
