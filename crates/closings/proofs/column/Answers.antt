-- One more fits.
use native.Mathlib.Omega.{arith}
use Rattle.stacks.specs.Most.{at_most_fits}
use Rattle.closings.proofs.column.Goals as goal

pub overflow_add-result : goal.overflow_add-result
overflow_add-result c = omega (arith, at_most_fits 4_294_967_294 c.args.col)
