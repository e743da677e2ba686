-- Either way of the test is what `glyph` picks.
use borrow.Author.Tests.{le-ltb, lt-ltb}
use Rattle.vectors.proofs.write.figure.Goals as goal

pub returns-then-n-lt10 : goal.returns-then-n-lt10
returns-then-n-lt10 c = simp (lt-ltb _ _ c.if-n-lt10.true)

pub returns-else-n-lt10 : goal.returns-else-n-lt10
returns-else-n-lt10 c = simp (le-ltb _ _ c.if-n-lt10.false)
