-- The stacks stand first in what is lent, and what the step makes of them is what it makes of all.
use Rattle.states.specs.Brief.{brief_fetched}
use Rattle.steps.proofs.Longer.{chosen_first, steps_longer}
use Rattle.steps.proofs.fetch_brief.Goals as goal

pub match_brief-requires : goal.match_brief-requires
match_brief-requires c =
    let a = c.args in
    let f = rw c.unwrap-first.ensures at c.first_chunk_mut.ensures.cases in
    rw f.same (chosen_first a.stacks.now c.requires.0, c.requires.1)

pub returns : goal.returns
returns c =
    let a = c.args in
    let f = rw c.unwrap-first.ensures at c.first_chunk_mut.ensures.cases in
    let w = rw f.same at c.match_brief.ensures in
    steps_longer a.stacks.now c.match_brief.new.stacks a.n a.c c.requires.0 (brief_fetched c.match_brief.result) w.1 w.0
