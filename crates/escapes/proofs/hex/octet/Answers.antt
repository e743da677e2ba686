-- The octet behind a percent sign is a number of two digits.
use Rattle.chars.specs.Bytes.{CharAt, eq_char}
use Rattle.escapes.proofs.Octets.{octet_is, octet_not}
use Rattle.escapes.proofs.hex.octet.Goals as goal
use Rattle.escapes.proofs.hex.octet.Goals.{Else-byte-ne37}

-- the percent sign
sign : (c : Else-byte-ne37) → CharAt c.args.text.now c.args.at 37 1
sign c = eq_char c.args.text.now c.args.at c.byte.result c.byte.ensures 37 tt c.if-byte-ne37.false

pub returns-then-byte-ne37 : goal.returns-then-byte-ne37
returns-then-byte-ne37 c = octet_not c.byte.ensures c.if-byte-ne37.true

pub returns-in_err-v : goal.returns-in_err-v
returns-in_err-v c =
    let s = sign (goal.at.returns-in_err-v c).Else-byte-ne37 in
    rw c.from_residual.ensures (octet_is s c.in_err-v.ensures)

pub returns : goal.returns
returns c =
    let s = sign (goal.at.returns c).Else-byte-ne37 in
    octet_is s c.in_ok-v.ensures
