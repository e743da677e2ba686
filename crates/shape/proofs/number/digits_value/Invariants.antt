use Rattle.shape.proofs.Numbers.{Counting}
use Rattle.shape.proofs.number.digits_value.Given as goal

abbrev pub invariant-loop-c : goal.invariant-loop-c
invariant-loop-c l = Counting l.s l.v l.c-index
