-- The text is line feeds alone, as many as the definition keeps.
use mathlib.Core.Path.{refl}
use Rattle.block_scalars.proofs.Scalars.{empty_said}
use Rattle.block_scalars.proofs.empty_scalar.Goals as goal

pub returns : goal.returns
returns c =
    let a = c.args in
    empty_said a.k a.b a.g c.scalar.ensures c.no_content.ensures refl c.put_breaks-n.ensures
