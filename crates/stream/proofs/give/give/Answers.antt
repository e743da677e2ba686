-- What goes in first is given before the record's own token.
use Rattle.stream.proofs.Lends.{give_part}
use Rattle.stream.proofs.give.give.Goals as goal

pub returns : goal.returns
returns c = give_part c.args.words.now c.args.at c.load-x.ensures c.note_in.ensures c.from-note.ensures c.first.ensures c.in-Some.is c.empty_at.ensures c.rest.ensures c.set_note.ensures
