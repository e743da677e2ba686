-- A refusal clears the room.
use Rattle.reading.specs.Answers.{reads_cleared}
use Rattle.tags.proofs.tag.scan_tag.Goals as goal

pub returns : goal.returns
returns c = reads_cleared c.read_tag-r.ensures c.clear_refused.ensures
