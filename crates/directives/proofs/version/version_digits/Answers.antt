-- The value of what is left, behind the digits so far, is the whole value; nine digits do not wrap.
use Rattle.std.proofs.Common.{◌*◌, ◌+◌, ◌<◌, ◌^◌, arith, sym}
use Rattle.directives.proofs.Versions.{counting_long, counting_more, counting_room, counting_stop, digit_value}
use Rattle.directives.proofs.version.version_digits.Goals as goal

pub returns-then-not-is_digit : goal.returns-then-not-is_digit
returns-then-not-is_digit c = counting_stop c.loop-digits.invariant c.byte-c.ensures (sym c.if-not-is_digit.ensures)

pub overflow_mul-value : goal.overflow_mul-value
overflow_mul-value c =
    let room : c.loop-digits.value * 10 + 9 < 2 ^ 32
    = counting_room c.loop-digits.invariant c.byte-c.ensures (sym c.if-not-is_digit.ensures) c.loop-digits-test.true in
    omega arith

pub overflow_sub-value : goal.overflow_sub-value
overflow_sub-value c = let d = digit_value _ (sym c.if-not-is_digit.ensures) in omega arith

pub overflow_add-value : goal.overflow_add-value
overflow_add-value c =
    let room : c.loop-digits.value * 10 + 9 < 2 ^ 32
    = counting_room c.loop-digits.invariant c.byte-c.ensures (sym c.if-not-is_digit.ensures) c.loop-digits-test.true in
    let d = digit_value _ (sym c.if-not-is_digit.ensures) in
    omega arith

pub loop-digits-preserved : goal.loop-digits-preserved
loop-digits-preserved c =
    rw c.skip_blank-place.ensures
    (counting_more c.loop-digits.invariant c.byte-c.ensures (sym c.if-not-is_digit.ensures) c.loop-digits-test.true)

pub returns-then-is_digit : goal.returns-then-is_digit
returns-then-is_digit c =
    rw c.refuse.ensures (counting_long c.loop-digits.invariant c.byte.ensures (sym c.if-is_digit.ensures) c.loop-digits-test.false)

pub returns : goal.returns
returns c = counting_stop c.loop-digits.invariant c.byte.ensures (sym c.if-is_digit.ensures)
