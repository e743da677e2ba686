-- Whatever else is fetched says one event too: it is stored and counted as the definition has it, and at the end of the text the run is over.
use mathlib.Core.Path.{◌∙◌, ap}
use Rattle.std.specs.Prelude.{Ok}
use Rattle.storing.specs.Token.{FetchedEvent, at_end, fetched_as, going}
use Rattle.driver.proofs.Taken.{chosen, it_ends, it_goes, taken_countable, taken_ends, taken_goes, taken_refused}
use Rattle.driver.proofs.other_token.Goals as goal
use Rattle.driver.proofs.other_token.Goals.{in-Ends, in-Goes}

pub fetch_other-requires : goal.fetch_other-requires
fetch_other-requires c = (chosen c.requires.0 c.args.ended c.requires.2 c.ending-k.ensures c.requires.3, c.requires.4)

pub returns-in-Err : goal.returns-in-Err
returns-in-Err c =
    let a = c.args in
    taken_refused c.requires.0 a.ended c.requires.2 c.ending-k.ensures a.c a.words.now (c.fetch_other.auto.stacks ∙ c.told-stacks) c.requires.3 (rw c.in-Err.is at c.fetch_other.ensures)

pub counting-counts-requires : goal.counting-counts-requires
counting-counts-requires c =
    let said : FetchedEvent (Ok c.in-Ok.r) c.match-r.e =
    elim c.match-r.branch [ in-Goes w ↦ fetched_as (ap Ok w.in-Goes.is) w.e-is going | in-Ends w ↦ fetched_as (ap Ok w.in-Ends.is) w.e-is at_end ] in
    taken_countable c.requires.0 c.args.ended c.requires.2 c.ending-k.ensures c.args.c (rw c.in-Ok.is at c.fetch_other.ensures) said

pub returns-in-Goes-r : goal.returns-in-Goes-r
returns-in-Goes-r c =
    let a = c.args in
    elim c.match-r.branch [
      | in-Goes w ↦
          taken_goes c.requires.0 a.ended c.requires.2 c.ending-k.ensures a.c a.words.now (rw c.in-Ok.is at c.fetch_other.ensures) (c.fetch_other.auto.stacks ∙ c.told-stacks) c.put_news.ensures c.counting-counts.ensures
          (ap Ok (it_goes w.in-Goes.is w.e-is w.r-is c.in-Goes-r.is)) c.told-stacks
      | in-Ends w ↦ absurd (cc)
    ]

pub returns-in-Ends-r : goal.returns-in-Ends-r
returns-in-Ends-r c =
    let a = c.args in
    elim c.match-r.branch [
      | in-Goes w ↦ absurd (cc)
      | in-Ends w ↦ taken_ends c.requires.0 a.ended c.requires.2 c.ending-k.ensures a.c a.words.now (rw c.in-Ok.is at c.fetch_other.ensures) (c.fetch_other.auto.stacks ∙ c.told-stacks) c.put_news.ensures c.counting-counts.ensures
          (ap Ok (it_ends w.in-Ends.is w.e-is))
    ]
