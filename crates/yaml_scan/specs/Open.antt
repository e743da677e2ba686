-- One name that opens the whole definition: a statement that computes says `unfolding all_open`.
use Rattle.std.specs.Prelude.{ℕ}
use Rattle.yaml_text.specs.Utf8.{by_len, char_bytes, encode, first, four, is_scalar, is_tail, len_of, three, two}
use Rattle.yaml_text.specs.Class.{among, as_hex, is_alpha, is_anchor, is_blank, is_blank_or_breakz, is_bom, is_break, is_breakz, is_digit, is_flow, is_hex, is_non_space, is_tag, is_uri, is_word, is_z, none_left, same}
use Rattle.yaml_text.specs.Mark.{break_length, ends_line, half_break, is_marker, over, skip_break, run_of}
use Rattle.yaml_text.specs.Refusal.{◌>>=◌, before_read, need}
use Rattle.yaml_text.specs.Decode.{decode}
use Rattle.yaml_lexeme.specs.Token.{kind_bytes, texts}
use Rattle.yaml_lexeme.specs.Record.{laid, number_of, record_of, records, style_number, values_of}
use Rattle.yaml_lexeme.specs.Gap.{blanks, blanks_and_comment, comment_after, gap_turn, is_leading, on_blank, on_hash, on_other, skip_gap, to_break}
use Rattle.yaml_lexeme.specs.Plain.{glue, plain_stops, plain_text, scan_plain_scalar}
use Rattle.yaml_lexeme.specs.Table.{looked_up}
use Rattle.yaml_lexeme.specs.Escape.{escape, escape_of, hex_number, named}
use Rattle.yaml_lexeme.specs.Fold.{fold}
use Rattle.yaml_lexeme.specs.Quoted.{broken, fits_after, folds_to, quoted_blank, quoted_break, quoted_char, quoted_line, quoted_run, quoted_text, quoted_turn, scan_flow_scalar}
use Rattle.yaml_lexeme.specs.Block.{block_content, chomped, chomping_of, content, content_column, content_turn, increment_of, indicators, is_chomp, largest, lines_after, lines_on, margin, no_content, opening_turn, opens_content, own_break, scan_block_scalar, separator}
use Rattle.yaml_lexeme.specs.Tag.{code_point, handled, octet, percent, primary, scan_tag, tag_texts, trailing, uri_run, verbatim}
use Rattle.yaml_lexeme.specs.Anchor.{scan_anchor}
use Rattle.yaml_lexeme.specs.Directive.{directive_of, parameters, reserved_directive, scan_directive, tag_directive, tag_handle, tag_prefix, version_digits, version_directive, version_number}
use Rattle.yaml_scan.specs.Indent.{drop_for, drop_non_ending, roll, roll_at, stack, top_ends, unroll}
use Rattle.yaml_scan.specs.Keys.{is_required, lapse, stale, top_key}
use Rattle.yaml_scan.specs.State.{in_flow, lapse_key, on_level, puts, remove_key, save_key}
use Rattle.yaml_scan.specs.Bracket.{closes_level, fetch_flow_collection_end, fetch_flow_collection_start, fetch_flow_entry, has_level_room, implicit_open, scan_bracket, stack_bracket}
use Rattle.yaml_scan.specs.Value.{begins_pair, fetch_block_entry, fetch_key, takes_colon, value_by, value_with, value_without}
use Rattle.yaml_scan.specs.Document.{after_marker, fetch_byte_order_mark, fetch_directive, fetch_document_indicator, fetch_stream_end, forced, leave_blocks}
use Rattle.yaml_scan.specs.Choice.{choice, indicator}
use Rattle.yaml_scan.specs.Fetch.{fetch, fetch_anchor, fetch_block_scalar, fetch_flow_scalar, fetch_plain_scalar, fetch_tag}
use Rattle.yaml_scan.specs.Slots.{flat, note, slots}
use Rattle.yaml_scan.specs.Scan.{answer, answer_for, lent, outcome, run, scan, step, to_next_token, unrolled}

unfoldable pub all_open : ℕ
unfolding is_tail len_of is_scalar two three four by_len first char_bytes encode among is_z is_break is_breakz is_blank is_blank_or_breakz is_flow is_bom is_digit is_hex as_hex
    is_alpha is_word is_uri is_tag is_non_space is_anchor same none_left half_break over ends_line break_length skip_break is_marker run_of kind_bytes texts
    number_of style_number values_of record_of laid records ◌>>=◌ need before_read on_blank on_hash on_other gap_turn is_leading skip_gap blanks
    to_break comment_after blanks_and_comment top_ends unroll stack drop_for roll roll_at drop_non_ending top_key is_required stale lapse in_flow on_level save_key
    remove_key lapse_key puts plain_stops glue plain_text scan_plain_scalar looked_up named hex_number escape_of escape fold folds_to quoted_blank broken quoted_break
    quoted_char quoted_line quoted_text quoted_turn quoted_run fits_after scan_flow_scalar increment_of is_chomp chomping_of indicators largest
    content_column margin opens_content separator lines_on opening_turn content_turn own_break lines_after chomped content no_content block_content
    scan_block_scalar octet trailing code_point percent uri_run verbatim handled primary tag_texts scan_tag scan_anchor version_digits version_number
    version_directive tag_handle tag_prefix tag_directive parameters reserved_directive directive_of scan_directive has_level_room scan_bracket
    stack_bracket fetch_flow_collection_start closes_level implicit_open fetch_flow_collection_end fetch_flow_entry fetch_block_entry
    fetch_key takes_colon begins_pair value_with value_without value_by fetch_plain_scalar fetch_flow_scalar fetch_block_scalar fetch_tag
    fetch_anchor leave_blocks fetch_directive fetch_byte_order_mark after_marker fetch_document_indicator forced fetch_stream_end indicator choice fetch
    to_next_token unrolled step run scan note slots flat decode lent answer_for outcome answer
all_open = 0
