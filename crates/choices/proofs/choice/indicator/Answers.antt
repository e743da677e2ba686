-- Each arm is one character, at which the definition's tests compute; the last arm is what none of them names.
use mathlib.Core.Path.{◌∙◌}
use native.Mathlib.Omega.{arith}
use Rattle.choices.proofs.Laws.{behind_ascii, colon_known, colons, dash, question}
use Rattle.choices.proofs.choice.indicator.Goals as goal

pub returns-in-45 : goal.returns-in-45
returns-in-45 c = c.dash_or_question.ensures ∙ rw (behind_ascii c.requires (omega arith, omega arith)) (dash _ _ _ _ c.in-45.is)

pub returns-in-63 : goal.returns-in-63
returns-in-63 c = c.dash_or_question-in-63.ensures ∙ rw (behind_ascii c.requires (omega arith, omega arith)) (question _ _ _ _ c.in-63.is)

pub returns-in-58 : goal.returns-in-58
returns-in-58 c =
    let a = c.args in
    c.pick-in-58.ensures ∙ rw (colon_known a.text.now a.s c.takes_colon.ensures) (colons _ _ _ _ c.in-58.is)
