-- What was read, once a refusal has cleared the room.
use Rattle.reading.specs.Answers.{lexes_cleared}
use Rattle.block_scalars.proofs.scan_block_scalar.Goals as goal

pub returns : goal.returns
returns c = let r = c.read_scalar-r.ensures in lexes_cleared _ _ r.answers r.texts r.kept c.clear_refused.ensures
