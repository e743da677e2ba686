-- The largest column from here on, over the one so far, is that of the whole.
use mathlib.Core.Path.{◌∙◌, sym}
use native.Mathlib.Omega.{arith}
use borrow.Author.Tests.{ne_eqb}
use Rattle.yaml_text.specs.Char.{space}
use Rattle.chars.specs.Bytes.{CharAt, eq_char}
use Rattle.chars.specs.Places.{small}
use Rattle.chars.specs.Reach.{reach_one}
use Rattle.gaps.specs.Breaks.{BreakAt, break_at}
use Rattle.gaps.specs.Walk.{walks_along, walks_move}
use Rattle.block_header.proofs.Margins.{largest_end, largest_line, largest_space}
use borrow.Author.Rules.{rules}
use Rattle.block_header.proofs.margin.largest_column.Goals as goal

pub loop-p-smaller-then-c-eq32 : goal.loop-p-smaller-then-c-eq32
loop-p-smaller-then-c-eq32 c =
    let space-char : CharAt (c.args.text.now) (c.loop-p.p).at space 1 = eq_char _ _ _ c.byte-c.ensures space tt c.if-c-eq32.true in
    rw c.skip_blank-p.ensures (omega (arith, space-char))

pub loop-p-preserved-then-c-eq32 : goal.loop-p-preserved-then-c-eq32
loop-p-preserved-then-c-eq32 c =
    let space-char : CharAt (c.args.text.now) (c.loop-p.p).at space 1 = eq_char _ _ _ c.byte-c.ensures space tt c.if-c-eq32.true in
    let x = space-char in
    rw c.skip_blank-p.ensures (walks_along c.loop-p.invariant 1 1 (reach_one x) (largest_space _ _ x))

pub skip_linebreak-p-requires : goal.skip_linebreak-p-requires
skip_linebreak-p-requires c =
    let break : BreakAt (c.args.text.now) (c.loop-p.p) c.break_length.result = break_at c.loop-p.invariant.stands c.byte-c.ensures
    (sym c.is_break.ensures ∙ c.if-is_break.true) c.break_length.ensures in
    (small c.loop-p.invariant.stands (search rules), (break).few)

pub loop-p-smaller : goal.loop-p-smaller
loop-p-smaller c =
    let break : BreakAt (c.args.text.now) (c.loop-p.p) c.break_length.result = break_at c.loop-p.invariant.stands c.byte-c.ensures
    (sym c.is_break.ensures ∙ c.if-is_break.true) c.break_length.ensures in
    let x = break in rw c.skip_linebreak-p.ensures (omega (arith, x.some, x.moves.stands.within))

pub loop-p-preserved : goal.loop-p-preserved
loop-p-preserved c =
    let break : BreakAt (c.args.text.now) (c.loop-p.p) c.break_length.result = break_at c.loop-p.invariant.stands c.byte-c.ensures
    (sym c.is_break.ensures ∙ c.if-is_break.true) c.break_length.ensures in
    let x = break in
    rw (c.skip_linebreak-p.ensures, c.max-most.ensures)
    (walks_move c.loop-p.invariant x.moves (largest_line _ x))

pub returns-in-loop-p : goal.returns-in-loop-p
returns-in-loop-p c =
    rw c.max-most.ensures
    (sym (c.loop-p.invariant.same ∙ largest_end (c.args.text.now) (c.loop-p.p).at _ _ _ c.byte-c.ensures (ne_eqb _ space c.if-c-eq32.false) (sym c.is_break.ensures ∙ c.if-is_break.false)))
