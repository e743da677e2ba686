-- One store a turn: what is left to store gives the whole.
use Rattle.reading.proofs.Laws.{breaks_more}
use Rattle.reading.proofs.put_breaks.Goals as goal

pub loop-i-preserved : goal.loop-i-preserved
loop-i-preserved c = breaks_more c.loop-i.invariant c.loop-i-test.true c.put.ensures
