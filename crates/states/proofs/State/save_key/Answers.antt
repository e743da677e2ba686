-- Where a simple key is allowed its frame is stored.
use Rattle.states.proofs.Keys.{saves_allowed, saves_not}
use Rattle.states.proofs.State.save_key.Goals as goal

pub returns-then-self : goal.returns-then-self
returns-then-self c = saves_allowed c.args.stacks.now c.args.count c.args.self c.requires.1 c.if-self.true c.requires_key-required.ensures c.set_key.ensures

pub returns-else-self : goal.returns-else-self
returns-else-self c = let a = c.args in saves_not a.stacks.now a.count a.self c.if-self.false
