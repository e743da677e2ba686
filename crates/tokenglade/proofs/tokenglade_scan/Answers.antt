-- The answer and both rooms are scan's, and its six numbers are stored.
use Rattle.tokenglade.proofs.Told.{told}
use Rattle.tokenglade.proofs.tokenglade_scan.Goals as goal

pub returns : goal.returns
returns c = told c.scan.result c.scan.ensures c.numbers_of.ensures
