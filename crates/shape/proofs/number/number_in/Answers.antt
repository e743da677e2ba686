-- How it is led, then its digits.
use mathlib.Core.Path.{◌∙◌, sym}
use Rattle.shape.proofs.Numbers.{number_badly_led, number_well_led}
use Rattle.shape.proofs.number.number_in.Goals as goal

pub returns-then-badly_led : goal.returns-then-badly_led
returns-then-badly_led c = number_badly_led _ (sym c.badly_led.ensures ∙ c.if-badly_led.true)

pub returns : goal.returns
returns c = c.digits_value.ensures ∙ number_well_led _ (sym c.badly_led.ensures ∙ c.if-badly_led.false)
