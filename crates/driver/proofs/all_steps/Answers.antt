-- Each step takes a character; the steps from behind it, and what was stored, are what all come to.
use lib.ListN.{drop}
use mathlib.Core.List.{◌++◌}
use Rattle.yaml_scan.specs.Scan.{step}
use Rattle.stacks.specs.Stack.{stack_words}
use Rattle.states.specs.State.{state_of}
use Rattle.storing.specs.Step.{step_left}
use Rattle.driver.specs.Held.{stacks_held}
use Rattle.driver.specs.Step.{StepDone}
use Rattle.driver.proofs.Looping.{Asking, asking_asks, asking_holds, asking_on, asking_pauses, asking_stops, looping_asks, looping_ends, looping_less, looping_start, looping_stops}
use Rattle.driver.proofs.all_steps.Goals as goal
use Rattle.driver.proofs.all_steps.Goals.{After-anew-t, After-one_step-r}

-- a step was made, from the stacks that stand first in what is held
made : (c : After-one_step-r)
    → let a = c.args in
    let s = c.loop-state in
    let r = c.one_step-r in
    let x = state_of a.text.now (stacks_held s.held) s.k.count s.t in
    StepDone a.limits a.text.now r.new.stacks (step a.limits x) c.min-base.result s.k s.words s.bytes (step_left x s.bytes s.k.used) r.new.words r.new.bytes r.result
made c =
    let f = rw c.unwrap-stacks.ensures at c.first_chunk_mut.ensures.cases in
    rw f.same at c.one_step-r.ensures

-- and it goes on
asked : (c : After-anew-t)
    → let a = c.args in
    let r = c.one_step-r in
    Asking a.limits a.single a.text.now a.held.now a.words.now a.bytes.now c.min-base.result c.load_state-t.result c.load_counts-k.result c.load_pending-w.result
    c.loop-state.t.flow_level (r.new.stacks ++ drop stack_words c.loop-state.held) r.new.words r.new.bytes c.anew-t.result c.in-On.counts c.loop-state.w
asked c =
    let r = c.one_step-r in
    let f = rw c.unwrap-stacks.ensures at c.first_chunk_mut.ensures.cases in
    let d = rw (f.same, c.in-On.is) at r.ensures in
    looping_asks c.loop-state.invariant r.new.stacks r.auto.words r.auto.bytes c.anew-t.ensures d

pub loop-state-init : goal.loop-state-init
loop-state-init c =
    let a = c.args in
    looping_start a.text.now c.requires.0 c.requires.1 a.single a.held.now a.words.now a.bytes.now c.told-held c.load_state-t.ensures
    c.load_counts-k.ensures c.min-base.ensures c.load_pending-w.ensures

pub returns-in-Refused : goal.returns-in-Refused
returns-in-Refused c =
    let r = c.one_step-r in
    looping_stops c.loop-state.invariant r.new.stacks r.auto.words r.auto.bytes c.hold_until.ensures (rw c.in-Refused.is at (made (goal.at.returns-in-Refused c).After-one_step-r))

pub returns-in-Ends : goal.returns-in-Ends
returns-in-Ends c =
    let r = c.one_step-r in
    looping_ends c.loop-state.invariant r.new.stacks r.auto.words r.auto.bytes
    (rw c.in-Ends.is at (made (goal.at.returns-in-Ends c).After-one_step-r))

pub behind_step-b-requires : goal.behind_step-b-requires
behind_step-b-requires c = asking_asks (asked (goal.at.behind_step-b-requires c).After-anew-t)

pub returns-in-Err : goal.returns-in-Err
returns-in-Err c =
    let f = rw c.unwrap-stacks-in-loop-state.ensures at c.first_chunk.ensures.cases in
    asking_stops (asked (goal.at.returns-in-Err c).After-anew-t) c.hold_until-in-Err.ensures (rw (f.same, c.in-Err.is) at c.behind_step-b.ensures)

pub hold-requires : goal.hold-requires
hold-requires c =
    let f = rw c.unwrap-stacks-in-loop-state.ensures at c.first_chunk.ensures.cases in
    asking_holds (asked (goal.at.hold-requires c).After-anew-t) (rw (f.same, c.in-Ok-Ready.is, rw c.in-Ok-Ready.is at c.in-Ok-Ready.field-0-is) at c.behind_step-b.ensures)

pub returns-in-Ok-Ready : goal.returns-in-Ok-Ready
returns-in-Ok-Ready c =
    let f = rw c.unwrap-stacks-in-loop-state.ensures at c.first_chunk.ensures.cases in
    asking_pauses (asked (goal.at.returns-in-Ok-Ready c).After-anew-t) c.hold.ensures (rw (f.same, c.in-Ok-Ready.is, rw c.in-Ok-Ready.is at c.in-Ok-Ready.field-0-is) at c.behind_step-b.ensures)

pub loop-state-smaller : goal.loop-state-smaller
loop-state-smaller c =
    looping_less c.loop-state.invariant c.anew-t.ensures (rw c.in-On.is at (made (goal.at.loop-state-smaller c).After-one_step-r))

pub loop-state-preserved : goal.loop-state-preserved
loop-state-preserved c =
    let f = rw c.unwrap-stacks-in-loop-state.ensures at c.first_chunk.ensures.cases in
    asking_on (asked (goal.at.loop-state-preserved c).After-anew-t) (rw (f.same, c.in-Ok-On.is, rw c.in-Ok-On.is at c.in-Ok-On.field-0-is) at c.behind_step-b.ensures)
