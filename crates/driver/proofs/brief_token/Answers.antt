-- A token that is brief says one event: it is stored and counted as the definition has it.
use mathlib.Core.Path.{◌∙◌, refl}
use Rattle.storing.specs.Token.{going}
use Rattle.driver.proofs.Taken.{chosen, taken_countable, taken_goes, taken_refused}
use Rattle.driver.proofs.brief_token.Goals as goal

pub fetch_brief-requires : goal.fetch_brief-requires
fetch_brief-requires c = (chosen c.requires.0 c.args.ended c.requires.2 c.ending-k.ensures c.requires.3, c.requires.4)

pub returns-in-Err : goal.returns-in-Err
returns-in-Err c =
    let a = c.args in
    taken_refused c.requires.0 a.ended c.requires.2 c.ending-k.ensures a.c a.words.now (c.fetch_brief.auto.stacks ∙ c.told-stacks) c.requires.3 (rw c.in-Err.is at c.fetch_brief.ensures)

pub counting-requires : goal.counting-requires
counting-requires c =
    rw c.brief_event.ensures
    (taken_countable c.requires.0 c.args.ended c.requires.2 c.ending-k.ensures c.args.c (rw (c.in-Ok.is, c.in-Goes.is) at c.fetch_brief.ensures) going)

pub counting-requires-in-Enters : goal.counting-requires-in-Enters
counting-requires-in-Enters c =
    rw c.brief_event-in-Enters.ensures
    (taken_countable c.requires.0 c.args.ended c.requires.2 c.ending-k.ensures c.args.c (rw (c.in-Ok.is, c.in-Enters.is) at c.fetch_brief.ensures) going)

pub returns-in-Goes : goal.returns-in-Goes
returns-in-Goes c =
    let a = c.args in
    rw c.anew.ensures
    (taken_goes c.requires.0 a.ended c.requires.2 c.ending-k.ensures a.c a.words.now (rw (c.in-Ok.is, c.in-Goes.is) at c.fetch_brief.ensures) (c.fetch_brief.auto.stacks ∙ c.told-stacks) c.put_brief.ensures
    (rw c.brief_event.ensures at c.counting.ensures) refl c.told-stacks)

pub returns-in-Enters : goal.returns-in-Enters
returns-in-Enters c =
    let a = c.args in
    rw c.anew-in-Enters.ensures
    (taken_goes c.requires.0 a.ended c.requires.2 c.ending-k.ensures a.c a.words.now (rw (c.in-Ok.is, c.in-Enters.is) at c.fetch_brief.ensures) (c.fetch_brief.auto.stacks ∙ c.told-stacks) c.put_brief-in-Enters.ensures
    (rw c.brief_event-in-Enters.ensures at c.counting-in-Enters.ensures) refl c.told-stacks)
