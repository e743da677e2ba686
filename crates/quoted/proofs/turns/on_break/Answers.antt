-- It is the definition's turn over a break.
use Rattle.chars.specs.Lines.{break_few}
use borrow.Author.Rules.{rules}
use Rattle.quoted.proofs.turns.on_break.Goals as goal

pub skip_linebreak-requires : goal.skip_linebreak-requires
skip_linebreak-requires c = (search rules, rw c.break_length.ensures (break_few _))
