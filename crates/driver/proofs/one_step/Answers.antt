-- The step is the way to the next token and that token; on the way it may be refused, and then nothing was stored.
use mathlib.Core.Path.{◌∙◌}
use Rattle.storing.specs.Arrive.{arrives_few, arrives_given, left_arrives, step_arrives, step_stops}
use Rattle.driver.proofs.Driving.{refused_done}
use Rattle.driver.proofs.one_step.Goals as goal

pub token-requires : goal.token-requires
token-requires c =
    let h = c.requires in
    let w = rw c.in-Ok.is at c.to_next_token.ensures in
    (arrives_given w h.0, h.1, arrives_few w h.0)

pub returns-in-Err : goal.returns-in-Err
returns-in-Err c =
    let a = c.args in
    refused_done a.words.now (c.to_next_token.auto.stacks ∙ c.told-stacks) (step_stops a.limits a.n a.bytes.now (rw c.in-Err.is at c.to_next_token.ensures))

pub returns-in-Ok : goal.returns-in-Ok
returns-in-Ok c =
    let a = c.args in
    let w = rw c.in-Ok.is at c.to_next_token.ensures in
    rw (step_arrives a.n.count w, left_arrives a.n.count a.bytes.now a.n.used w) at c.token.ensures
