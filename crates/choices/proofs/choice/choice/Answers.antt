-- The tests stand in the definition's order; each return is the law of its test.
use mathlib.Core.Path.{◌∙◌, sym}
use Rattle.choices.proofs.Laws.{NoMarkerHere, at_bom, at_directive, at_end, at_indicator, at_marker, below_indent}
use Rattle.choices.proofs.choice.choice.Goals as goal
use Rattle.choices.proofs.choice.choice.Goals.{Else-is_marker}

passed : (c : Else-is_marker) → let a = c.args in NoMarkerHere a.text.now a.s c.look-c.result
passed c = record { is = c.look-c.ensures; some = c.if-c-eq0.false; no_marker = sym c.is_marker.ensures ∙ c.if-is_marker.false }

pub returns-then-c-eq0 : goal.returns-then-c-eq0
returns-then-c-eq0 c = let a = c.args in at_end a.text.now a.s c.look-c.ensures c.if-c-eq0.true

pub returns-then-is_marker : goal.returns-then-is_marker
returns-then-is_marker c =
    let a = c.args in
    at_marker a.text.now a.s c.look-c.ensures c.if-c-eq0.false (sym c.is_marker.ensures ∙ c.if-is_marker.true)

pub returns-then-outside-c : goal.returns-then-outside-c
returns-then-outside-c c = at_directive (passed (goal.at.returns-then-outside-c c).Else-is_marker) c.if-outside-c.true

pub returns-then-outside-c-2 : goal.returns-then-outside-c-2
returns-then-outside-c-2 c = at_bom (passed (goal.at.returns-then-outside-c-2 c).Else-is_marker) c.if-outside-c.false c.if-outside-c-2.true

pub returns-then-s : goal.returns-then-s
returns-then-s c = below_indent (passed (goal.at.returns-then-s c).Else-is_marker) c.if-outside-c.false c.if-outside-c-2.false c.if-s.true

pub returns : goal.returns
returns c = at_indicator (passed (goal.at.returns c).Else-is_marker) c.if-outside-c.false c.if-outside-c-2.false c.if-s.false c.indicator.ensures
