-- A single break is a space, more are line feeds: one law of folding for each return.
use mathlib.Core.Path.{refl}
use Rattle.reading.specs.Puts.{puts_more, puts_space}
use Rattle.reading.proofs.put_fold.Goals as goal

pub returns-then-k-eq0 : goal.returns-then-k-eq0
returns-then-k-eq0 c = puts_space c.if-k-eq0.true c.put.ensures refl

pub returns : goal.returns
returns c = puts_more c.if-k-eq0.false c.put_breaks.ensures
