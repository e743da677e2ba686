-- The value so far and the digits that are left make the whole number.
use Rattle.std.proofs.Common.{true, ◌≡◌, get_or, arith}
use mathlib.Core.Path.{◌∙◌, sym}
use Rattle.yaml_text.specs.Class.{is_digit}
use Rattle.shape.proofs.Numbers.{counting_done, counting_large, counting_more, counting_stop, digit_least}
use Rattle.shape.proofs.number.digits_value.Goals as goal

pub returns-then-not-is_digit : goal.returns-then-not-is_digit
returns-then-not-is_digit c = counting_stop c.loop-c.invariant c.loop-c-test.true (sym c.is_digit.ensures ∙ c.if-not-is_digit.true)

pub overflow_sub-c : goal.overflow_sub-c
overflow_sub-c c = digit_least _ (sym c.is_digit.ensures ∙ c.if-not-is_digit.false)

pub returns-in_err-checked_mul : goal.returns-in_err-checked_mul
returns-in_err-checked_mul c =
    let digit : is_digit (get_or c.args.s.now c.loop-c.c-index 0) ≡ true = sym c.is_digit.ensures ∙ c.if-not-is_digit.false in
    c.from_residual.ensures ∙ counting_large c.loop-c.invariant c.loop-c-test.true digit (omega (arith, c.in_err-checked_mul.ensures))

pub returns-in_err-v : goal.returns-in_err-v
returns-in_err-v c =
    let digit : is_digit (get_or c.args.s.now c.loop-c.c-index 0) ≡ true = sym c.is_digit.ensures ∙ c.if-not-is_digit.false in
    c.from_residual-in_err-v.ensures ∙ counting_large c.loop-c.invariant c.loop-c-test.true digit (omega (arith, c.in_ok-checked_mul.ensures, c.in_err-v.ensures))

pub loop-c-preserved : goal.loop-c-preserved
loop-c-preserved c =
    let digit : is_digit (get_or c.args.s.now c.loop-c.c-index 0) ≡ true = sym c.is_digit.ensures ∙ c.if-not-is_digit.false in
    let tens = c.in_ok-checked_mul.ensures in
    let sum = c.in_ok-v.ensures in
    rw (sum.1, tens.1) (counting_more c.loop-c.invariant c.loop-c-test.true digit (omega (arith, tens, sum)))

pub returns : goal.returns
returns c = counting_done c.loop-c.invariant c.loop-c-test.false
