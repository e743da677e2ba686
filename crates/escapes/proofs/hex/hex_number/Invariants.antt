use Rattle.escapes.proofs.Numbers.{Reading}
use Rattle.escapes.proofs.hex.hex_number.Given as goal

abbrev pub invariant-loop-i : goal.invariant-loop-i
invariant-loop-i l = Reading l.text l.at l.n l.v l.i
