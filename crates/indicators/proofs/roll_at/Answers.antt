-- In flow nothing rolls; at level 0 `roll` does.
use Rattle.indicators.proofs.Roll.{rolls_block, rolls_flow}
use Rattle.indicators.proofs.roll_at.Goals as goal

pub returns-then-s-gt0 : goal.returns-then-s-gt0
returns-then-s-gt0 c = rolls_flow c.requires c.if-s-gt0.true

pub returns : goal.returns
returns c = rolls_block c.requires c.if-s-gt0.false c.roll.ensures
