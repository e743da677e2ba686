-- Theorems about specs/ChoiceLaws, and what rests on them.
use Rattle.std.specs.Prelude.{List}
use Rattle.yaml_text.specs.All.{All, not_read}
use Rattle.yaml_scan.specs.declared.Choice.{Choice}
use Rattle.yaml_scan.specs.declared.Choice.TheVariants.{AtAnchor, AtBlock, AtByteOrderMark, AtColon, AtComma, AtDash, AtDirective, AtEnd, AtMarker, AtPlain, AtQuestion, AtQuoted, AtTag, BelowIndent, Closes, Opens, Stray}
use Rattle.yaml_scan.specs.Keys.{top_key}
use Rattle.yaml_scan.specs.declared.Limits.{Limits}
use Rattle.yaml_scan.specs.State.{News, State}
use Rattle.yaml_scan.specs.Fetch.{fetch}
use Rattle.yaml_scan.specs.Candidates.{GivenToken, top_tops}
use Rattle.yaml_scan.specs.Fetches.{Fetched, anchor_news, block_entry_news, block_scalar_news, byte_order_mark_news, directive_news, document_indicator_news, flow_collection_end_news, flow_collection_start_news, flow_entry_news, flow_scalar_news, key_news, plain_scalar_news, stream_end_news, tag_news}
use Rattle.yaml_scan.proofs.Fetches.{value_by_news}
use Rattle.yaml_scan.specs.ChoiceLaws.{ChoiceSays}

pub fetch_news : (gs : List GivenToken) (limits : Limits) (c : Choice) (s : State) → ChoiceSays c s → All News (Fetched gs s) (fetch limits c s)
unfolding fetch
fetch_news gs limits AtEnd s h = stream_end_news gs s (λ es k. k)
fetch_news gs limits AtDirective s h = directive_news gs s
fetch_news gs limits AtByteOrderMark s h = byte_order_mark_news gs s
fetch_news gs limits BelowIndent s h = not_read
fetch_news gs limits Stray s h = not_read
fetch_news gs limits (AtMarker begins) s h = document_indicator_news gs begins s h.0
fetch_news gs limits (Opens sequence) s h = flow_collection_start_news gs limits sequence s
fetch_news gs limits (Closes sequence) s h = flow_collection_end_news gs sequence s
fetch_news gs limits AtComma s h = flow_entry_news gs s
fetch_news gs limits AtDash s h = block_entry_news gs limits s
fetch_news gs limits AtQuestion s h = key_news gs limits s
fetch_news gs limits AtColon s h = value_by_news gs limits (top_key s.keys) s (λ r. top_tops gs s.count s.keys r.known r.ordered)
fetch_news gs limits AtTag s h = tag_news gs s
fetch_news gs limits AtPlain s h = plain_scalar_news gs s
fetch_news gs limits (AtAnchor alias) s h = anchor_news gs alias s
fetch_news gs limits (AtBlock literal) s h = block_scalar_news gs literal s h
fetch_news gs limits (AtQuoted single) s h = flow_scalar_news gs single s
