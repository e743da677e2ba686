-- The turn is told by the character at the place: none, a blank, a break, or text.
use mathlib.Core.Path.{◌∙◌, ap, sym}
use Rattle.std.proofs.Common.{Ok}
use Rattle.chars.specs.Bytes.{CharAt, char_at}
use Rattle.quoted.proofs.Chosen.{blank_chosen, break_chosen, end_turns}
use Rattle.quoted.proofs.Spanned.{no_chars}
use Rattle.quoted.proofs.turns.quoted_turn.Goals as goal
use Rattle.quoted.proofs.turns.quoted_turn.Goals.{In-Char}

-- the character there
char : (c : In-Char) → CharAt c.args.text.now c.args.t.place.at c.in-Char.code c.in-Char.len
char c = char_at _ _ _ _ (sym c.char_at-d.ensures ∙ c.in-Char.is)

pub returns-in_default : goal.returns-in_default
returns-in_default c = end_turns _ (no_chars c.args.text.now c.args.t.place.at _ c.char_at-d.ensures c.in_default.not-Char) c.refuse.ensures

pub returns-then-is_blank : goal.returns-then-is_blank
returns-then-is_blank c = blank_chosen _ c.requires (char (goal.at.returns-then-is_blank c).In-Char) (sym c.is_blank.ensures ∙ c.if-is_blank.true) c.on_blank.ensures

pub returns-then-is_break : goal.returns-then-is_break
returns-then-is_break c =
    break_chosen _ c.requires (char (goal.at.returns-then-is_break c).In-Char) (sym c.is_break.ensures ∙ c.if-is_break.true) (ap Ok c.on_break.ensures)

pub on_text-requires : goal.on_text-requires
on_text-requires c =
    let k = char (goal.at.on_text-requires c).In-Char in
    (c.requires, record { char = _; len = _; is = k; no_blank = sym c.is_blank.ensures ∙ c.if-is_blank.false; no_break = sym c.is_break.ensures ∙ c.if-is_break.false })
