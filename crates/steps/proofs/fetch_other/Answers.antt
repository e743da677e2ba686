-- The stacks stand first in what is lent, and what the step makes of them is what it makes of all.
use Rattle.steps.proofs.Longer.{chosen_first, steps_longer}
use Rattle.steps.proofs.fetch_other.Goals as goal

pub match_other-requires : goal.match_other-requires
match_other-requires c =
    let a = c.args in
    let f = rw c.unwrap-first.ensures at c.first_chunk_mut.ensures.cases in
    rw f.same (chosen_first a.stacks.now c.requires.0, c.requires.1)

pub returns : goal.returns
returns c =
    let a = c.args in
    let f = rw c.unwrap-first.ensures at c.first_chunk_mut.ensures.cases in
    let w = rw f.same at c.match_other.ensures in
    steps_longer a.stacks.now c.match_other.new.stacks a.n a.c c.requires.0 c.match_other.result w.1 w.0
