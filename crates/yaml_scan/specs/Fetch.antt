-- K2, K3: what scalars, tags and anchors do to the state, and the token of a choice.
use Rattle.std.specs.Prelude.{Bool, false, true, [], ◌∷◌}
use Rattle.yaml_text.specs.Refusal.{Read, ◌>>=◌, refused}
use Rattle.yaml_lexeme.specs.Plain.{scan_plain_scalar}
use Rattle.yaml_lexeme.specs.Quoted.{scan_flow_scalar}
use Rattle.yaml_lexeme.specs.Block.{scan_block_scalar}
use Rattle.yaml_lexeme.specs.Tag.{scan_tag}
use Rattle.yaml_lexeme.specs.Anchor.{scan_anchor}
use Rattle.yaml_scan.specs.declared.Choice.{Choice}
use Rattle.yaml_scan.specs.declared.Choice.TheVariants.{AtAnchor, AtBlock, AtByteOrderMark, AtColon, AtComma, AtDash, AtDirective, AtEnd, AtMarker, AtPlain, AtQuestion, AtQuoted, AtTag, BelowIndent, Closes, Opens, Stray}
use Rattle.yaml_scan.specs.declared.Limits.{Limits}
use Rattle.yaml_scan.specs.Indent.{drop_non_ending}
use Rattle.yaml_scan.specs.State.{News, State, adjacent_here, allow, at_place, emit, emit_lexeme, in_flow, mark_of, put, save_key, with_indents}
use Rattle.yaml_scan.specs.Bracket.{fetch_flow_collection_end, fetch_flow_collection_start, fetch_flow_entry}
use Rattle.yaml_scan.specs.Value.{fetch_block_entry, fetch_key, fetch_value}
use Rattle.yaml_scan.specs.Document.{fetch_byte_order_mark, fetch_directive, fetch_document_indicator, fetch_stream_end}
use Rattle.yaml_scan.specs.Choice.{choice}

-- K2: scalars, tags, anchors and aliases save a candidate and forbid the next; a block scalar allows it
unfoldable pub fetch_plain_scalar : State → Read News
fetch_plain_scalar s = emit_lexeme (scan_plain_scalar (in_flow s) s.place) false (allow false (save_key s))

unfoldable pub fetch_flow_scalar : Bool → State → Read News
fetch_flow_scalar single s = do
  l ← scan_flow_scalar (in_flow s) single s.indents.indent s.place
  emit (put l.token ∷ []) (adjacent_here (at_place l.place false (allow false (save_key s))))

-- its indent is the block's own: the entries that K6 stacked go first [A2, B8]
unfoldable pub fetch_block_scalar : Bool → State → Read News
fetch_block_scalar literal s = do
  let i = drop_non_ending s.indents.indent s.indents.entries
  l ← scan_block_scalar literal i.indent s.place
  emit_lexeme l true (allow true (with_indents i (save_key s)))

unfoldable pub fetch_tag : State → Read News
fetch_tag s = do
  l ← scan_tag (in_flow s) s.place
  emit_lexeme l false (allow false (save_key s))

unfoldable pub fetch_anchor : Bool → State → Read News
fetch_anchor alias s = do
  l ← scan_anchor alias s.place
  emit_lexeme l false (allow false (save_key s))

-- K3: the token of a choice. 42: a column below the indent (only in flow)
unfoldable pub fetch : Limits → Choice → State → Read News
fetch limits AtEnd s = fetch_stream_end s
fetch limits AtDirective s = fetch_directive s
fetch limits AtByteOrderMark s = fetch_byte_order_mark s
fetch limits BelowIndent s = refused 42 (mark_of s)
fetch limits Stray s = refused 43 (mark_of s)
fetch limits (AtMarker starts) s = fetch_document_indicator starts s
fetch limits (Opens sequence) s = fetch_flow_collection_start limits sequence s
fetch limits (Closes sequence) s = fetch_flow_collection_end sequence s
fetch limits AtComma s = fetch_flow_entry s
fetch limits AtDash s = fetch_block_entry limits s
fetch limits AtQuestion s = fetch_key limits s
fetch limits AtColon s = fetch_value limits s
fetch limits AtTag s = fetch_tag s
fetch limits AtPlain s = fetch_plain_scalar s
fetch limits (AtAnchor alias) s = fetch_anchor alias s
fetch limits (AtBlock literal) s = fetch_block_scalar literal s
fetch limits (AtQuoted single) s = fetch_flow_scalar single s

abbrev pub fetch_next : Limits → State → Read News
fetch_next limits s = fetch limits (choice s) s
