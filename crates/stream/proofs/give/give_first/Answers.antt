-- One that lies behind the words counts as the last.
use mathlib.Core.Path.{refl}
use Rattle.stream.proofs.Lends.{gives_first}
use Rattle.stream.proofs.give.give_first.Goals as goal

pub returns : goal.returns
returns c =
    let s = c.args in
    gives_first s.held.now s.words.now c.min-slot.ensures c.give-own.ensures refl
