-- What goes in before a record and the record without its note are stored one behind the other.
use mathlib.Core.Path.{◌∙◌, ap}
use Rattle.sink.specs.Settle.{note_kinds}
use Rattle.sink.proofs.Pass.{before_fits, kinds_noted, put_last}
use Rattle.sink.proofs.block.put_block.Goals as goal

pub put_before-k-requires : goal.put_before-k-requires
put_before-k-requires c = before_fits c.args.j _ c.args.x c.args.words.now c.requires (kinds_noted _ c.from.ensures ∙ ap note_kinds c.note_in.ensures)

pub returns : goal.returns
returns c =
    put_last c.args.j _ _ c.args.x c.args.words.now _ _ _ c.requires.1 (kinds_noted _ c.from.ensures ∙ ap note_kinds c.note_in.ensures) c.put_before-k.ensures.0 c.put_before-k.ensures.1
    c.without_note.ensures c.store.ensures
