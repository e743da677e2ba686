-- The tests of the definition, without a sum that could wrap.
use Rattle.states.proofs.Keys.{stale_by, stale_line, stale_none}
use Rattle.states.proofs.State.is_stale.Goals as goal

pub returns-then-m-here : goal.returns-then-m-here
returns-then-m-here c = let a = c.args in stale_line a.m a.self.place.mark c.if-m-here.true

pub returns-then-here-m : goal.returns-then-here-m
returns-then-here-m c = let a = c.args in stale_none a.m a.self.place.mark c.if-m-here.false c.if-here-m.true

pub returns : goal.returns
returns c = let a = c.args in stale_by a.m a.self.place.mark c.if-m-here.false c.if-here-m.false
