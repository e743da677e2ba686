-- Each arm's fetcher answers for its choice, and the last arm is left for a tag.
use Rattle.yaml_scan.specs.Fetch.{fetch}
use Rattle.steps.proofs.Arms.{step_by, told}
use Rattle.steps.proofs.Last.{only_tag}
use Rattle.steps.proofs.fetch_content.Goals as goal

pub fetch_directive-requires : goal.fetch_directive-requires
fetch_directive-requires c = let k = c.requires.0 in (k.ready, told k c.in-AtDirective.is, k.room)

pub fetch_anchor-requires : goal.fetch_anchor-requires
fetch_anchor-requires c = let k = c.requires.0 in (k.ready, told k c.in-AtAnchor.is, k.room)

pub fetch_block_scalar-requires : goal.fetch_block_scalar-requires
fetch_block_scalar-requires c = let k = c.requires.0 in (k.ready, told k c.in-AtBlock.is, k.room)

pub fetch_flow_scalar-requires : goal.fetch_flow_scalar-requires
fetch_flow_scalar-requires c = let k = c.requires.0 in (k.ready, told k c.in-AtQuoted.is, k.room)

pub fetch_tag-requires : goal.fetch_tag-requires
fetch_tag-requires c =
    let p = c.requires in
    let d = c.in_default in
    let t = told p.0 (only_tag _ p.1 p.2 d.not-AtDirective d.not-AtAnchor d.not-AtBlock d.not-AtQuoted) in
    (p.0.ready, t.0, p.0.room, t.1)

pub returns-in-AtDirective : goal.returns-in-AtDirective
unfolding fetch
returns-in-AtDirective c = step_by c.requires.0 c.in-AtDirective.is c.fetch_directive.ensures

pub returns-in-AtAnchor : goal.returns-in-AtAnchor
unfolding fetch
returns-in-AtAnchor c = step_by c.requires.0 c.in-AtAnchor.is c.fetch_anchor.ensures

pub returns-in-AtBlock : goal.returns-in-AtBlock
unfolding fetch
returns-in-AtBlock c = step_by c.requires.0 c.in-AtBlock.is c.fetch_block_scalar.ensures

pub returns-in-AtQuoted : goal.returns-in-AtQuoted
unfolding fetch
returns-in-AtQuoted c = step_by c.requires.0 c.in-AtQuoted.is c.fetch_flow_scalar.ensures

pub returns-in_default : goal.returns-in_default
unfolding fetch
returns-in_default c =
    let p = c.requires in
    let d = c.in_default in
    step_by p.0 (only_tag _ p.1 p.2 d.not-AtDirective d.not-AtAnchor d.not-AtBlock d.not-AtQuoted) c.fetch_tag.ensures
