-- One clause of the definition for each return: line feeds before the first line, breaks kept or folded behind one.
use native.Mathlib.Omega.{arith}
use Rattle.block_content.specs.Content.{more_of, own_of}
use Rattle.reading.specs.Puts.{puts_breaks}
use Rattle.block_content.proofs.Ends.{separator_ahead, separator_behind}
use Rattle.block_content.proofs.put_separator.Goals as goal

pub put_behind-requires : goal.put_behind-requires
unfolding more_of own_of
put_behind-requires c = let h = rw c.in-Behind.is at c.requires in omega arith

pub returns-in-Ahead : goal.returns-in-Ahead
returns-in-Ahead c =
    rw
    (separator_ahead c.args.literal c.args.blank c.in-Ahead.is)
    (puts_breaks _ c.put_breaks.ensures)

pub returns-in-Behind : goal.returns-in-Behind
returns-in-Behind c =
    rw
    (separator_behind c.args.literal c.args.blank c.in-Behind.is)
    c.put_behind.ensures
