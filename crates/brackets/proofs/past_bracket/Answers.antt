-- Behind one that closes, ':' may stand directly.
use Rattle.brackets.proofs.past_bracket.Goals as goal

pub adjacent_here-requires : goal.adjacent_here-requires
adjacent_here-requires c = rw c.moved-t.ensures c.requires

pub returns-then-closes : goal.returns-then-closes
returns-then-closes c = rw (c.adjacent_here.ensures, c.moved-t.ensures, c.if-closes.true)

pub returns : goal.returns
returns c = rw (c.moved-t.ensures, c.if-closes.false)
