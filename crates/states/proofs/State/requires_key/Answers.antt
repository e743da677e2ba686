-- The three tests of K2, one after the other.
use mathlib.Core.Path.{◌∙◌}
use Rattle.states.proofs.Keys.{required_apart, required_by, required_flow}
use Rattle.states.proofs.State.requires_key.Goals as goal

pub returns-then-self-gt0 : goal.returns-then-self-gt0
returns-then-self-gt0 c = let a = c.args in required_flow a.stacks.now a.self c.if-self-gt0.true

pub returns-then-self : goal.returns-then-self
returns-then-self c = let a = c.args in required_apart a.stacks.now a.self c.if-self-gt0.false c.if-self.true

pub returns : goal.returns
returns c = let a = c.args in c.top_ends.ensures ∙ required_by a.stacks.now a.self c.if-self-gt0.false c.if-self.false
