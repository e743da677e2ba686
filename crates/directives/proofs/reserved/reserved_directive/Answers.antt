-- The name is copied and the parameters written behind it.
use Rattle.std.proofs.Common.{arith, refl}
use Rattle.directives.proofs.ReservedTexts.{joined, reserved_got}
use Rattle.directives.proofs.reserved.reserved_directive.Goals as goal

pub overflow_sub-r : goal.overflow_sub-r
overflow_sub-r c = omega (arith, (joined c.read_parameters-r.ensures).next)

pub returns : goal.returns
returns c = rw c.new.ensures (reserved_got c.read_parameters-r.ensures c.requires c.copy.ensures c.texts_at.ensures.0 refl c.texts_at.ensures.1)
