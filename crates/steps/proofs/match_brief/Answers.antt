-- Each arm's fetcher answers for its choice, and the last arm is left for ','.
use mathlib.Core.Path.{refl}
use Rattle.yaml_scan.specs.Fetch.{fetch}
use Rattle.steps.proofs.Arms.{step_by, step_quiet, told}
use Rattle.steps.proofs.Last.{only_comma}
use Rattle.steps.proofs.match_brief.Goals as goal

pub fetch_plain_scalar-requires : goal.fetch_plain_scalar-requires
fetch_plain_scalar-requires c = let k = c.requires.0 in (k.ready, k.room, told k c.in-AtPlain.is)

pub fetch_block_entry-requires : goal.fetch_block_entry-requires
fetch_block_entry-requires c = let k = c.requires.0 in (k.ready, told k c.in-AtDash.is)

pub fetch_flow_collection_start-requires : goal.fetch_flow_collection_start-requires
fetch_flow_collection_start-requires c = let k = c.requires.0 in (k.ready, told k c.in-Opens.is)

pub fetch_flow_collection_end-requires : goal.fetch_flow_collection_end-requires
fetch_flow_collection_end-requires c = let k = c.requires.0 in (k.ready, told k c.in-Closes.is)

pub fetch_flow_entry-requires : goal.fetch_flow_entry-requires
fetch_flow_entry-requires c =
    let p = c.requires in
    let d = c.in_default in
    let t = told p.0 (only_comma _ p.1 d.not-AtPlain d.not-AtDash d.not-Opens d.not-Closes) in
    (p.0.ready, t.0, t.1)

pub returns-in-AtPlain : goal.returns-in-AtPlain
unfolding fetch
returns-in-AtPlain c = (step_by c.requires.0 c.in-AtPlain.is c.fetch_plain_scalar.ensures, c.fetch_plain_scalar.array_long)

pub returns-in-AtDash : goal.returns-in-AtDash
unfolding fetch
returns-in-AtDash c = (step_quiet c.args.bytes.now c.requires.0 c.in-AtDash.is refl (c.fetch_block_entry.ensures c.args.n), c.fetch_block_entry.array_long)

pub returns-in-Opens : goal.returns-in-Opens
unfolding fetch
returns-in-Opens c = (step_quiet c.args.bytes.now c.requires.0 c.in-Opens.is refl c.fetch_flow_collection_start.ensures, c.fetch_flow_collection_start.array_long)

pub returns-in-Closes : goal.returns-in-Closes
unfolding fetch
returns-in-Closes c = (step_quiet c.args.bytes.now c.requires.0 c.in-Closes.is refl (c.fetch_flow_collection_end.ensures c.args.n), c.told-stacks)

pub returns-in_default : goal.returns-in_default
unfolding fetch
returns-in_default c =
    let p = c.requires in
    let d = c.in_default in
    (step_quiet c.args.bytes.now p.0 (only_comma _ p.1 d.not-AtPlain d.not-AtDash d.not-Opens d.not-Closes) refl (c.fetch_flow_entry.ensures c.args.n), c.fetch_flow_entry.array_long)
