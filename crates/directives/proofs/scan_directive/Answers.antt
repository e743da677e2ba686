-- A refusal clears the room.
use Rattle.reading.specs.Answers.{reads_cleared}
use Rattle.directives.proofs.scan_directive.Goals as goal

pub returns : goal.returns
returns c = reads_cleared c.read_directive-r.ensures c.clear_refused.ensures
