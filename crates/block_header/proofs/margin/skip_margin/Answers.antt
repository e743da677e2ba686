-- The margin from here on, n lines having ended, is what is left of the margin.
use mathlib.Core.Bool.{true}
use mathlib.Core.Path.{◌∙◌, ◌≡◌, sym}
use native.Mathlib.Omega.{arith}
use lib.Dec.{eqb, ltb}
use borrow.Author.Tests.{eqb-true}
use Rattle.yaml_text.specs.Test.{both_true}
use Rattle.yaml_text.specs.Char.{space}
use Rattle.chars.specs.Bytes.{CharAt, eq_char}
use Rattle.chars.specs.Places.{small}
use Rattle.chars.specs.Reach.{reach_one}
use Rattle.gaps.specs.Breaks.{BreakAt, break_at}
use Rattle.gaps.specs.Walk.{walks_along, walks_move}
use Rattle.block_header.proofs.Margins.{margin_end, margin_line, margin_space, margins_done}
use borrow.Author.Rules.{rules}
use Rattle.block_header.proofs.margin.skip_margin.Goals as goal

pub skip_linebreak-p-requires : goal.skip_linebreak-p-requires
skip_linebreak-p-requires c =
    let break : BreakAt (c.args.text.now) (c.loop-p.p) c.break_length.result = break_at c.loop-p.invariant.0.stands c.byte-c.ensures
    (sym c.is_break.ensures ∙ c.if-is_break.true) c.break_length.ensures in
    (small c.loop-p.invariant.0.stands (search rules), (break).few)

pub loop-p-smaller-then-is_break : goal.loop-p-smaller-then-is_break
loop-p-smaller-then-is_break c =
    let break : BreakAt (c.args.text.now) (c.loop-p.p) c.break_length.result = break_at c.loop-p.invariant.0.stands c.byte-c.ensures
    (sym c.is_break.ensures ∙ c.if-is_break.true) c.break_length.ensures in
    let x = break in rw c.skip_linebreak-p.ensures (omega (arith, x.some, x.moves.stands.within))

pub loop-p-preserved-then-is_break : goal.loop-p-preserved-then-is_break
loop-p-preserved-then-is_break c =
    let break : BreakAt (c.args.text.now) (c.loop-p.p) c.break_length.result = break_at c.loop-p.invariant.0.stands c.byte-c.ensures
    (sym c.is_break.ensures ∙ c.if-is_break.true) c.break_length.ensures in
    let x = break in
    let i = c.loop-p.invariant in
    rw c.skip_linebreak-p.ensures (walks_move i.0 x.moves (margin_line _ _ x), omega (arith, i.1, x.some))

pub loop-p-smaller : goal.loop-p-smaller
loop-p-smaller c =
    let below : (eqb c.byte-c.result space ≡ true) × (ltb (c.loop-p.p).mark.col c.args.column ≡ true) = both_true (eqb c.byte-c.result space)
    (ltb (c.loop-p.p).mark.col c.args.column)
    c.if-c-p.true in
    let space-char : CharAt (c.args.text.now) (c.loop-p.p).at space 1 = eq_char _ _ _ c.byte-c.ensures space tt (eqb-true _ space (below).0) in
    rw c.skip_blank-p.ensures (omega (arith, space-char))

pub loop-p-preserved : goal.loop-p-preserved
loop-p-preserved c =
    let below : (eqb c.byte-c.result space ≡ true) × (ltb (c.loop-p.p).mark.col c.args.column ≡ true) = both_true (eqb c.byte-c.result space)
    (ltb (c.loop-p.p).mark.col c.args.column)
    c.if-c-p.true in
    let space-char : CharAt (c.args.text.now) (c.loop-p.p).at space 1 = eq_char _ _ _ c.byte-c.ensures space tt (eqb-true _ space (below).0) in
    let x = space-char in
    let i = c.loop-p.invariant in
    rw c.skip_blank-p.ensures (walks_along i.0 1 1 (reach_one x) (margin_space _ _ _ x (below).1), omega (arith, i.1))

pub returns-in-loop-p : goal.returns-in-loop-p
returns-in-loop-p c =
    let i = c.loop-p.invariant in
    margins_done _ i.0
    (margin_end (c.args.text.now) (c.loop-p.p).at _ _ _ _ c.byte-c.ensures c.if-c-p.false (sym c.is_break.ensures ∙ c.if-is_break.false))
    i.1
