-- The first character tells whether a number stands there.
use Rattle.std.proofs.Common.{sym}
use Rattle.directives.proofs.Versions.{number_none, number_some}
use Rattle.directives.proofs.version.version_number.Goals as goal

pub returns-then-not-is_digit : goal.returns-then-not-is_digit
returns-then-not-is_digit c = rw c.refuse.ensures (number_none _ c.byte.ensures (sym c.if-not-is_digit.ensures))

pub returns : goal.returns
returns c = number_some _ c.byte.ensures (sym c.if-not-is_digit.ensures) c.version_digits.ensures
