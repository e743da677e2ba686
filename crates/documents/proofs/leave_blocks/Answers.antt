-- The unrolling reads the entries; then the candidate goes, and the entries stay.
use Rattle.documents.proofs.Leave.{leaves}
use Rattle.documents.proofs.leave_blocks.Goals as goal

pub returns : goal.returns
returns c = leaves c.requires.1.deep c.unroll-u.ensures c.remove_key.ensures
