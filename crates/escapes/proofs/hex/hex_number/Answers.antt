-- Invariant: the digits so far and those that are left make the whole number.
use Rattle.std.proofs.Common.{◌*◌, ◌+◌, ◌^◌, ◌≤◌, arith, sym}
use Rattle.escapes.proofs.Numbers.{digit_value, reading_done, reading_more, reading_room, reading_start, reading_stop}
use Rattle.escapes.proofs.hex.hex_number.Goals as goal

pub loop-i-init : goal.loop-i-init
loop-i-init c = reading_start _ _ _

pub returns-then-not-is_hex : goal.returns-then-not-is_hex
returns-then-not-is_hex c = reading_stop c.loop-i.invariant c.loop-i-test.true c.byte-c.ensures (sym c.if-not-is_hex.ensures)

pub overflow_mul-v : goal.overflow_mul-v
overflow_mul-v c =
    let room : c.loop-i.v * 16 + 16 ≤ 2 ^ 32 = reading_room c.loop-i.invariant c.loop-i-test.true c.requires.1 in
    omega arith

pub overflow_add-v : goal.overflow_add-v
overflow_add-v c =
    let room : c.loop-i.v * 16 + 16 ≤ 2 ^ 32 = reading_room c.loop-i.invariant c.loop-i-test.true c.requires.1 in
    let value = digit_value _ (sym c.if-not-is_hex.ensures) in
    omega (arith, c.as_hex.ensures)

pub loop-i-preserved : goal.loop-i-preserved
loop-i-preserved c = reading_more c.loop-i.invariant c.loop-i-test.true c.byte-c.ensures (sym c.if-not-is_hex.ensures) c.as_hex.ensures

pub returns : goal.returns
returns c = reading_done c.loop-i.invariant (omega arith) c.loop-i-test.false
