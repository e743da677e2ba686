-- K6: brackets and ','.
use Rattle.std.specs.Prelude.{◌+◌, Bool, ◌&&◌, false, not, true, List, [], ◌++◌, ◌∷◌, ltb, drop, length}
use Rattle.yaml_text.specs.Pick.{pick}
use Rattle.yaml_text.specs.Mark.{Place, skip_by}
use Rattle.yaml_text.specs.Refusal.{Read, ◌>>=◌, got, need}
use Rattle.yaml_lexeme.specs.Token.{FlowEntry, FlowMappingEnd, FlowMappingStart, FlowSequenceEnd, FlowSequenceStart, Kind, Lexeme, lexeme}
use Rattle.yaml_lexeme.specs.Gap.{blanks_and_comment}
use Rattle.yaml_scan.specs.Indent.{stack, top_ends}
use Rattle.yaml_scan.specs.declared.Candidate.TheVariants.{Absent}
use Rattle.yaml_scan.specs.declared.Level.{Level}
use Rattle.yaml_scan.specs.declared.Limits.{Limits}
use Rattle.yaml_scan.specs.State.{News, State, adjacent_here, allow, at_place, emit, emit_lexeme, empty_if, in_flow, mark_of, on_level, put, remove_key, save_key, with_indents, with_keys, with_levels}

-- 28
unfoldable pub has_level_room : Limits → State → Bool
has_level_room limits s = ltb (length s.levels) limits.levels

abbrev pub new_level : Bool → Level
new_level sequence = record { sequence = sequence; colon = false; question = false; implicit = false }

-- the character here, with the blanks and comment behind it
unfoldable pub scan_bracket : Kind → Place → Read Lexeme
scan_bracket k p = do
  e ← blanks_and_comment (skip_by 1 p)
  got (lexeme k p.mark e.mark e)

-- K6: at level 0, while the top entry ends in BlockEnd, a non-ending entry with indent + 1 is stacked [A4]
unfoldable pub stack_bracket : Limits → State → Read State
stack_bracket limits s =
    elim (not (in_flow s) && top_ends s.indents.entries) [
      | true ↦ stack limits.entries (mark_of s) (s.indents.indent + 1) false s.indents >>= λ i. got (with_indents i s)
      | false ↦ got s
    ]

-- K6: '[' or '{' saves a candidate and allows one. 28: the 256th flow level [A5]
unfoldable pub fetch_flow_collection_start : Limits → Bool → State → Read News
fetch_flow_collection_start limits sequence s₀ = do
  s ← stack_bracket limits (save_key s₀)
  _ ← need (has_level_room limits s) 28 (mark_of s)
  l ← scan_bracket (pick sequence FlowSequenceStart FlowMappingStart) s.place
  emit_lexeme l false (allow true (with_keys (Absent ∷ s.keys) (with_levels (new_level sequence ∷ s.levels) s)))

-- the latest open bracket is of this kind
unfoldable pub closes_level : Bool → List Level → Bool
closes_level sequence [] = false
closes_level sequence (l ∷ ls) = pick sequence l.sequence (not l.sequence)

-- K5: an implicit pair ends at ',' or ']'
unfoldable pub implicit_open : List Level → Bool
implicit_open [] = false
implicit_open (l ∷ ls) = l.implicit

-- K6: ']' or '}'. 47: not the latest open one's kind, or none is open [A3, C9]
unfoldable pub fetch_flow_collection_end : Bool → State → Read News
fetch_flow_collection_end sequence s₀ = do
  _ ← need (closes_level sequence s₀.levels) 47 (mark_of s₀)
  let s = remove_key s₀
  l ← scan_bracket (pick sequence FlowSequenceEnd FlowMappingEnd) s.place
  emit (empty_if (implicit_open s.levels) FlowMappingEnd (mark_of s) ++ (put l.token ∷ []))
      (adjacent_here (at_place l.place false (allow false (with_keys (drop 1 s.keys) (with_levels (drop 1 s.levels) s)))))

-- a new entry of the level: no ':' and no '?' came in it [C6]
abbrev pub new_entry : List Level → List Level
new_entry ls = on_level (λ l. new_level l.sequence) ls

-- K6: ',' in flow removes the candidate and allows one
unfoldable pub fetch_flow_entry : State → Read News
fetch_flow_entry s₀ = do
  let s = remove_key s₀
  l ← scan_bracket FlowEntry s.place
  emit (empty_if (implicit_open s.levels) FlowMappingEnd (mark_of s) ++ (put l.token ∷ []))
      (at_place l.place false (allow true (with_levels (new_entry s.levels) s)))
