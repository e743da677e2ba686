-- In flow no entry is needed; at level 0 the top entry tells.
use Rattle.brackets.proofs.Entry.{entry_flow, entry_top}
use Rattle.brackets.proofs.needs_entry.Goals as goal

pub returns-then-s-gt0 : goal.returns-then-s-gt0
returns-then-s-gt0 c = let a = c.args in entry_flow a.stacks.now a.s c.if-s-gt0.true

pub returns : goal.returns
returns c = let a = c.args in entry_top a.stacks.now a.s c.if-s-gt0.false c.top_ends.ensures
