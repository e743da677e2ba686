-- The level's data are read, changed and stored.
use Rattle.indicators.specs.Words.{pair_of}
use Rattle.indicators.proofs.colon_seen.Goals as goal

pub returns : goal.returns
unfolding pair_of
returns c = let e = c.level_data-l.ensures in record { is = rw e; sets = rw e (rw e at c.set_level.ensures) }
