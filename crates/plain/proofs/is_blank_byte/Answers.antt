-- No blank is from 128 up.
use mathlib.Core.Path.{sym}
use native.Mathlib.Omega.{arith}
use Rattle.chars.specs.Ascii.{blank_ascii}
use Rattle.plain.proofs.is_blank_byte.Goals as goal

pub returns-then-b-gt127 : goal.returns-then-b-gt127
returns-then-b-gt127 c = sym (blank_ascii.high _ (omega (arith, c.if-b-gt127.true)))
