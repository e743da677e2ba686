-- The breaks are kept by one store for each, or folded.
use Rattle.block_content.proofs.Ends.{breaks_folded, breaks_kept}
use Rattle.block_content.proofs.put_behind.Goals as goal

pub returns-then-keeps : goal.returns-then-keeps
returns-then-keeps c = breaks_kept _ c.if-keeps.true c.put_breaks.ensures

pub returns : goal.returns
returns c = breaks_folded _ c.if-keeps.false c.put_fold.ensures
