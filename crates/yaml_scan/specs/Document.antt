-- K3: what stands outside every block: directives, byte order marks, document markers, the end.
use Rattle.std.specs.Prelude.{◌+◌, Bool, false, not, true, List, [], ◌++◌, ◌∷◌, eqb, drop}
use Rattle.yaml_text.specs.declared.Mark.{Mark}
use Rattle.yaml_text.specs.Pick.{pick}
use Rattle.yaml_text.specs.Class.{is_breakz}
use Rattle.yaml_text.specs.Mark.{Place, here, look, over_bom, skip_by}
use Rattle.yaml_text.specs.Refusal.{Read, ◌>>=◌, got, need}
use Rattle.yaml_lexeme.specs.Token.{ByteOrderMark, DocumentEnd, DocumentStart, StreamEnd, empty_token}
use Rattle.yaml_lexeme.specs.Gap.{blanks_and_comment}
use Rattle.yaml_lexeme.specs.Directive.{scan_directive}
use Rattle.yaml_scan.specs.Keys.{is_required, top_key}
use Rattle.yaml_scan.specs.State.{Event, News, State, allow, at_place, block_ends, emit, ends_with, in_flow, mark_of, put, remove_key, rest_of, unroll_to, with_indents}

-- outside every block, without the candidate [B4]
unfoldable pub leave_blocks : State → State
leave_blocks s = remove_key (with_indents (unroll_to 0 s).indents s)

abbrev pub all_ends : State → List Event
all_ends s = block_ends (unroll_to 0 s).ended (mark_of s)

-- at column 0 and level 0; the directive's own break allows no simple key [B1]
unfoldable pub fetch_directive : State → Read News
fetch_directive s₀ = do
  let s = leave_blocks s₀
  l ← scan_directive s.place
  emit (all_ends s₀ ++ (put l.token ∷ [])) (at_place l.place true (allow false s))

-- at column 0 and level 0, which it leaves as they are; a simple key is allowed behind it [B3, I4]
unfoldable pub fetch_byte_order_mark : State → Read News
fetch_byte_order_mark s₀ = do
  let s = leave_blocks s₀
  let e = over_bom (mark_of s)
  emit (all_ends s₀ ++ (put (record { kind = ByteOrderMark; start = mark_of s; end = e }) ∷ []))
      (at_place (here e (drop 1 (rest_of s))) s.leading_whitespace (allow true s))

-- K3: what follows `...` on its line; 49: text
unfoldable pub after_marker : Bool → Place → Read Place
after_marker starts p =
    elim starts [
      | true ↦ got p
      | false ↦ blanks_and_comment p >>= λ e. need (is_breakz (look e)) 49 e.mark >>= λ _. got e
    ]

-- 47: a document marker in flow [B2]
unfoldable pub fetch_document_indicator : Bool → State → Read News
fetch_document_indicator starts s₀ = do
  _ ← need (not (in_flow s₀)) 47 (mark_of s₀)
  let s = leave_blocks s₀
  let e = skip_by 3 s.place
  p ← after_marker starts e
  emit (all_ends s₀ ++ (put (record { kind = pick starts DocumentStart DocumentEnd; start = mark_of s; end = e.mark }) ∷ []))
      (at_place p false (allow false s))

-- the end of the text forces a new line
unfoldable pub forced : Mark → Mark
forced m = pick (eqb m.col 0) m (record { index = m.index; line = m.line + 1; col = 0 })

-- 47: a bracket left open; then 41: a required key is pending [J5, J6]
unfoldable pub fetch_stream_end : State → Read News
fetch_stream_end s = do
  _ ← need (not (in_flow s)) 47 (mark_of s)
  let e = forced (mark_of s)
  _ ← need (not (is_required (top_key s.keys))) 41 e
  got (ends_with (block_ends (unroll_to 0 s).ended e ++ (put (empty_token StreamEnd e) ∷ [])))
