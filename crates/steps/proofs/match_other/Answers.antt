-- Each arm's fetcher answers for its choice, and the last arm is left for the lexemes that hold text.
use mathlib.Core.Path.{refl}
use Rattle.yaml_scan.specs.Fetch.{fetch}
use Rattle.states.specs.Answer.{fetch_refused}
use Rattle.steps.proofs.Arms.{step_quiet, told}
use Rattle.steps.proofs.Last.{only_texts}
use Rattle.steps.proofs.match_other.Goals as goal

pub fetch_byte_order_mark-requires : goal.fetch_byte_order_mark-requires
fetch_byte_order_mark-requires c = let k = c.requires.0 in (k.ready, told k c.in-AtByteOrderMark.is)

pub fetch_document_indicator-requires : goal.fetch_document_indicator-requires
fetch_document_indicator-requires c = let k = c.requires.0 in (k.ready, told k c.in-AtMarker.is)

pub fetch_key-requires : goal.fetch_key-requires
fetch_key-requires c = let k = c.requires.0 in (k.ready, told k c.in-AtQuestion.is)

pub fetch_value-requires : goal.fetch_value-requires
fetch_value-requires c = let k = c.requires.0 in (k.ready, told k c.in-AtColon.is)

pub fetch_content-requires : goal.fetch_content-requires
fetch_content-requires c =
    let d = c.in_default in
    (c.requires.0, c.requires.1, only_texts c.args.c c.requires.1 d.not-AtEnd d.not-AtByteOrderMark d.not-BelowIndent d.not-Stray d.not-AtMarker d.not-AtQuestion d.not-AtColon)

pub returns-in-AtEnd : goal.returns-in-AtEnd
unfolding fetch
returns-in-AtEnd c = (step_quiet c.args.bytes.now c.requires.0 c.in-AtEnd.is refl c.fetch_stream_end.ensures, c.told-stacks)

pub returns-in-AtByteOrderMark : goal.returns-in-AtByteOrderMark
unfolding fetch
returns-in-AtByteOrderMark c = (step_quiet c.args.bytes.now c.requires.0 c.in-AtByteOrderMark.is refl c.fetch_byte_order_mark.ensures, c.fetch_byte_order_mark.array_long)

pub returns-in-BelowIndent : goal.returns-in-BelowIndent
unfolding fetch
returns-in-BelowIndent c = (rw c.refuse.ensures (step_quiet c.args.bytes.now c.requires.0 c.in-BelowIndent.is refl (fetch_refused refl refl)), c.told-stacks)

pub returns-in-Stray : goal.returns-in-Stray
unfolding fetch
returns-in-Stray c = (rw c.refuse-in-Stray.ensures (step_quiet c.args.bytes.now c.requires.0 c.in-Stray.is refl (fetch_refused refl refl)), c.told-stacks)

pub returns-in-AtMarker : goal.returns-in-AtMarker
unfolding fetch
returns-in-AtMarker c = (step_quiet c.args.bytes.now c.requires.0 c.in-AtMarker.is refl c.fetch_document_indicator.ensures, c.fetch_document_indicator.array_long)

pub returns-in-AtQuestion : goal.returns-in-AtQuestion
unfolding fetch
returns-in-AtQuestion c = (step_quiet c.args.bytes.now c.requires.0 c.in-AtQuestion.is refl (c.fetch_key.ensures c.args.n), c.fetch_key.array_long)

pub returns-in-AtColon : goal.returns-in-AtColon
unfolding fetch
returns-in-AtColon c = (step_quiet c.args.bytes.now c.requires.0 c.in-AtColon.is refl (c.fetch_value.ensures c.args.n), c.fetch_value.array_long)

pub returns-in_default : goal.returns-in_default
returns-in_default c = (c.fetch_content.ensures, c.fetch_content.array_long)
