-- The stacks stand first in what is lent, and what the way makes of them is what it makes of all.
use Rattle.std.proofs.Common.{arith}
use Rattle.std.proofs.lemmas.List.{length-take-le}
use Rattle.stacks.specs.Stack.{stack_words}
use Rattle.states.specs.Answer.{ready, ready_sane}
use Rattle.choices.proofs.Longer.{advances_longer}
use Rattle.choices.proofs.advance.to_next_token.Goals as goal

pub to_token-requires : goal.to_token-requires
to_token-requires c =
    let l = c.requires.lent in
    let f = rw c.unwrap-first.ensures at c.first_chunk_mut.ensures.cases in
    let n = length-take-le stack_words _ f.enough in
    rw f.same (ready (record { room = omega arith; entries_most = l.entries_most; levels_most = l.levels_most }) (ready_sane c.requires))

pub returns : goal.returns
returns c =
    let f = rw c.unwrap-first.ensures at c.first_chunk_mut.ensures.cases in
    let w = rw f.same at c.to_token.ensures in
    advances_longer c.args.stacks.now c.to_token.new.stacks c.requires w.1 c.to_token.result w.0
