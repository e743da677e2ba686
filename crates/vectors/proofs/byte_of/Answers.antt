-- Two digits, or none where one of them is none.
use Rattle.std.proofs.Common.{None, arith}
use Rattle.vectors.specs.Hex.{ByteOf, hex_no_high, hex_no_low, hex_pair}
use Rattle.vectors.proofs.byte_of.Goals as goal

pub returns-in_err-digit : goal.returns-in_err-digit
returns-in_err-digit c =
    let h = c.in_err-digit.ensures in
    let none : ByteOf c.args.high c.args.low None = λ l. hex_no_high _ _ l (omega (arith, h)) in
    rw c.from_residual.ensures none

pub returns-in_err-digit-2 : goal.returns-in_err-digit-2
returns-in_err-digit-2 c =
    let h = c.in_ok-digit.ensures in
    let k = c.in_err-digit-2.ensures in
    let none : ByteOf c.args.high c.args.low None = λ l. hex_no_low _ _ l (omega (arith, h)) (omega (arith, k)) in
    rw c.from_residual-in_err-digit-2.ensures none

pub returns : goal.returns
returns c =
    let h = c.in_ok-digit.ensures in
    let k = c.in_ok-digit-2.ensures in
    λ l. rw (← h.0, ← k.0) (hex_pair _ _ l (omega (arith, h)) (omega (arith, k)))
