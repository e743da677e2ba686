-- A refusal leaves the room cleared.
use Rattle.reading.specs.Answers.{lexes_cleared}
use Rattle.quoted.proofs.scan_flow_scalar.Goals as goal

pub returns : goal.returns
returns c = let r = c.read_scalar.ensures in lexes_cleared _ _ r.answers r.texts r.kept c.clear_refused.ensures
