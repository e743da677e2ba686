-- A token does what one of its kind does.
use Rattle.std.proofs.Common.{◌∙◌}
use Rattle.shape.proofs.ShapeKinds.{kind_effect}
use Rattle.shape.proofs.effect.Goals as goal

pub returns : goal.returns
returns c = c.of_kind.ensures ∙ kind_effect _ _ _ _ _ _ c.from.ensures
