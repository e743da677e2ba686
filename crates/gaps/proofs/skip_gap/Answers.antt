-- The gap from here on, behind what stands before it, is what is left of the gap.
use Prim.Native.Nat.{◌<◌, ◌≤◌}
use mathlib.Core.Path.{◌∙◌, refl, sym}
use native.Mathlib.Omega.{arith}
use lib.ListN.{length}
use Rattle.yaml_text.specs.Char.{'#'}
use Rattle.yaml_text.specs.Class.{is_break}
use Rattle.chars.specs.Ascii.{blank_ascii}
use Rattle.chars.specs.Bytes.{CharAt, ascii_char, eq_char}
use Rattle.chars.specs.Places.{small}
use Rattle.gaps.specs.Answers.{skips_from, skips_refused}
use Rattle.gaps.specs.Breaks.{BreakAt, break_at}
use Rattle.gaps.specs.Walk.{walks_move}
use Rattle.gaps.proofs.Laws.{blanks_some, gap_blanks, gap_comment, gap_line, gap_wrong, line_some, open_blank, other_at}
use borrow.Author.Rules.{rules}
use Rattle.gaps.proofs.skip_gap.Goals as goal
use Rattle.gaps.proofs.skip_gap.Goals.{After-break_length, After-past_spaces, Else-c-ne35, Then-is_blank}

-- the blank there
blank : (c : Then-is_blank) → CharAt c.args.text.now c.loop-m.p.at c.byte-c.result 1
blank c = ascii_char _ _ _ c.byte-c.ensures blank_ascii (sym c.is_blank.ensures ∙ c.if-is_blank.true)

-- it is passed over, with the spaces behind it
spaces : (c : After-past_spaces) → (c.loop-m.p.at < c.past_spaces.result) × (c.past_spaces.result ≤ length c.args.text.now)
spaces c = blanks_some c.loop-m.p (ascii_char _ _ _ c.byte-c.ensures blank_ascii (sym c.is_blank.ensures ∙ c.if-is_blank.true)) c.past_spaces.ensures

-- the break there
broken : (c : After-break_length) → BreakAt c.args.text.now c.loop-m.p c.break_length.result
broken c = break_at c.loop-m.invariant.0.stands c.byte-c.ensures (sym c.is_break.ensures ∙ c.if-is_break.true) c.break_length.ensures

-- the '#' there
hash : (c : Else-c-ne35) → CharAt c.args.text.now c.loop-m.p.at '#' 1
hash c = eq_char _ _ _ c.byte-c.ensures '#' tt c.if-c-ne35.false

pub past_spaces-requires : goal.past_spaces-requires
past_spaces-requires c = (blank (goal.at.past_spaces-requires c).Then-is_blank).within

pub overflow_cast-past_spaces : goal.overflow_cast-past_spaces
overflow_cast-past_spaces c = omega (arith, spaces (goal.at.overflow_cast-past_spaces c).After-past_spaces, c.loop-m.invariant.0.stands)

pub skip_n_non_blank-p-requires : goal.skip_n_non_blank-p-requires
skip_n_non_blank-p-requires c =
    let stands = c.loop-m.invariant.0.stands in
    (small stands (search rules), omega (arith, spaces (goal.at.skip_n_non_blank-p-requires c).After-past_spaces, stands))

pub loop-m-smaller-then-is_blank : goal.loop-m-smaller-then-is_blank
loop-m-smaller-then-is_blank c =
    let some = spaces (goal.at.loop-m-smaller-then-is_blank c).After-past_spaces in
    rw c.skip_n_non_blank-p.ensures (omega (arith, some))

pub loop-m-preserved-then-is_blank : goal.loop-m-preserved-then-is_blank
loop-m-preserved-then-is_blank c =
    let there = blank (goal.at.loop-m-preserved-then-is_blank c).Then-is_blank in
    let i = c.loop-m.invariant in
    rw c.on_blank-b.ensures
    (gap_blanks _ there c.past_spaces.ensures _ _ _ (sym c.is_blank.ensures ∙ c.if-is_blank.true) i.0 c.skip_n_non_blank-p.ensures, open_blank _ _ _ _ i.1)

pub skip_linebreak-p-requires : goal.skip_linebreak-p-requires
skip_linebreak-p-requires c = (small c.loop-m.invariant.0.stands (search rules), (broken (goal.at.skip_linebreak-p-requires c).After-break_length).few)

pub loop-m-smaller-then-is_break : goal.loop-m-smaller-then-is_break
loop-m-smaller-then-is_break c =
    let x = broken (goal.at.loop-m-smaller-then-is_break c).After-break_length in
    rw c.skip_linebreak-p.ensures (omega (arith, x.some, x.moves.stands.within))

pub loop-m-preserved-then-is_break : goal.loop-m-preserved-then-is_break
loop-m-preserved-then-is_break c =
    let x = broken (goal.at.loop-m-preserved-then-is_break c).After-break_length in
    rw c.skip_linebreak-p.ensures
    (walks_move c.loop-m.invariant.0 x.moves (gap_line _ _ c.loop-m.b x), tt)

pub gap_end-requires : goal.gap_end-requires
gap_end-requires c =
    let other = other_at c.args.text.now c.loop-m.p.at _ c.byte-c.ensures (sym c.is_blank.ensures ∙ c.if-is_blank.false)
    (sym c.is_break.ensures ∙ c.if-is_break.false) c.if-c-ne35.true in
    (c.loop-m.invariant.0.stands, other, c.loop-m.invariant.1)

pub returns-in-AfterText : goal.returns-in-AfterText
returns-in-AfterText c =
    skips_from c.loop-m.invariant.0
    (skips_refused c.refuse.ensures (gap_wrong _ _ _ _ (hash (goal.at.returns-in-AfterText c).Else-c-ne35) c.in-AfterText.is))

pub loop-m-smaller : goal.loop-m-smaller
unfolding is_break
loop-m-smaller c =
    let w = c.to_break-p.ensures in
    omega (arith, line_some (hash (goal.at.loop-m-smaller c).Else-c-ne35) refl w, w.stands.within)

pub loop-m-preserved : goal.loop-m-preserved
loop-m-preserved c =
    let w = c.to_break-p.ensures in
    (walks_move c.loop-m.invariant.0 w (gap_comment _ _ _ (hash (goal.at.loop-m-preserved c).Else-c-ne35) c.in_default.not-AfterText w), tt)
