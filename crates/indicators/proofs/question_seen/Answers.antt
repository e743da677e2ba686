-- The level's data are read, changed and stored.
use Rattle.indicators.proofs.question_seen.Goals as goal

pub returns : goal.returns
returns c = rw c.level_data-l.ensures at c.set_level.ensures
