-- By the length, then by the first byte.
use native.Mathlib.Omega.{arith}
use Rattle.shape.proofs.Numbers.{led_more, led_none, led_one}
use Rattle.shape.proofs.number.badly_led.Goals as goal

pub returns-in-empty : goal.returns-in-empty
returns-in-empty c = led_none _ (omega arith)

pub returns-in-len1 : goal.returns-in-len1
returns-in-len1 c = led_one _ (omega arith)

pub returns-in-len1-up : goal.returns-in-len1-up
returns-in-len1-up c = led_more _ (λ e. omega arith) (λ e. omega arith)
