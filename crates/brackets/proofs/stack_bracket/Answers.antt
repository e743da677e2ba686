-- One entry more, for which there is room, or none.
use Rattle.brackets.proofs.Entry.{entry_most, stacks_none, stacks_one}
use Rattle.brackets.proofs.stack_bracket.Goals as goal

pub push-requires : goal.push-requires
push-requires c = let p = c.requires in (entry_most p c.if-entry.true, p.low.indent)

pub returns-then-entry : goal.returns-then-entry
returns-then-entry c = stacks_one c.requires c.if-entry.true c.push.ensures

pub returns : goal.returns
returns c = stacks_none c.requires c.if-entry.false
