-- K4: '-' and '?'. K5: ':'.
use Rattle.std.specs.Prelude.{◌+◌, ℕ, Bool, ◌&&◌, ◌||◌, false, not, true, List, [], ◌++◌, ◌∷◌, map, eqb}
use Rattle.yaml_text.specs.declared.Mark.{Mark}
use Rattle.yaml_text.specs.Pick.{pick}
use Rattle.yaml_text.specs.Class.{is_blank_or_breakz, is_flow, peek}
use Rattle.yaml_text.specs.Mark.{Place, along, edge_of, skip_by}
use Rattle.yaml_text.specs.Refusal.{Read, ◌>>=◌, need}
use Rattle.yaml_lexeme.specs.Token.{BlockEntry, BlockMappingStart, BlockSequenceStart, FlowMappingStart, Key, Kind, Lexeme, Value, empty_token, lexeme}
use Rattle.yaml_scan.specs.Indent.{Indents, Rolled, roll_at}
use Rattle.yaml_scan.specs.declared.Candidate.{Candidate}
use Rattle.yaml_scan.specs.declared.Candidate.TheVariants.{Absent, Possible}
use Rattle.yaml_scan.specs.Keys.{set_key, top_key}
use Rattle.yaml_scan.specs.declared.Level.{Level}
use Rattle.yaml_scan.specs.declared.Limits.{Limits}
use Rattle.yaml_scan.specs.State.{News, State, allow, at_place, emit, empty_if, in_flow, mark_of, on_level, put, put_before, remove_key, rest_of, with_indents, with_keys, with_levels}

-- the one character here
abbrev pub one_character : Kind → Place → Lexeme
one_character k p = lexeme k p.mark (along p.mark) (skip_by 1 p)

-- K4: rolling to the column of the mark m; 48 is here [A6]
abbrev pub roll_state : Limits → Mark → State → Read Rolled
roll_state limits m s = roll_at limits.entries (in_flow s) (mark_of s) (edge_of m) s.indents

-- K4: '-'. 46: in flow, or no simple key is allowed [D1, J4]
unfoldable pub fetch_block_entry : Limits → State → Read News
fetch_block_entry limits s₀ = do
  _ ← need (not (in_flow s₀) && s₀.simple_key_allowed) 46 (mark_of s₀)
  r ← roll_state limits (mark_of s₀) s₀
  let s = remove_key (with_indents r.indents s₀)
  let l = one_character BlockEntry s.place
  emit (empty_if r.starts BlockSequenceStart (mark_of s) ++ (put l.token ∷ [])) (at_place l.place false (allow true s))

-- '?' came in this entry
abbrev pub questioned : List Level → List Level
questioned ls = on_level (λ l. record { sequence = l.sequence; colon = l.colon; question = true; implicit = l.implicit }) ls

-- K4: '?'. 46: at level 0 no simple key is allowed [B9, B10, D3]
unfoldable pub fetch_key : Limits → State → Read News
fetch_key limits s₀ = do
  _ ← need (in_flow s₀ || s₀.simple_key_allowed) 46 (mark_of s₀)
  r ← roll_state limits (mark_of s₀) s₀
  let s = remove_key (with_indents r.indents s₀)
  let l = one_character Key s.place
  emit (empty_if r.starts BlockMappingStart (mark_of s) ++ (put l.token ∷ []))
      (at_place l.place false (allow (not (in_flow s)) (with_levels (questioned s.levels) s)))

-- K5: before blank, break or end; in flow, before a flow indicator or directly after a quoted scalar's or closing bracket's span [C1 to C3, D2]
unfoldable pub takes_colon : State → Bool
takes_colon s =
    let n = peek (rest_of s) 1 in
    is_blank_or_breakz n || (in_flow s && (is_flow n || eqb s.adjacent_value_allowed_at ((mark_of s).index + 1)))

-- K5: the first ':' of a sequence's entry, if no '?' came before it [C7, C8]
unfoldable pub begins_pair : List Level → Bool
begins_pair [] = false
begins_pair (l ∷ ls) = l.sequence && not l.colon && not l.question

-- ':' came in this entry
abbrev pub colon_seen : List Level → List Level
colon_seen ls =
    on_level (λ l. record { sequence = l.sequence; colon = true; question = l.question; implicit = l.implicit || begins_pair ls }) ls

abbrev pub kind_if : Bool → Kind → List Kind
kind_if b k = pick b (k ∷ []) []

-- K5: what goes in before a candidate: FlowMappingStart for a pair, BlockMappingStart where its column rolls, Key
abbrev pub before_key : Bool → Bool → List Kind
before_key pair starts = kind_if pair FlowMappingStart ++ kind_if starts BlockMappingStart ++ (Key ∷ [])

-- behind the ':', the candidate gone
abbrev pub valued : Bool → Indents → State → State
valued allowed i s =
    at_place (skip_by 1 s.place) false
    (allow allowed (with_indents i (with_keys (set_key Absent s.keys) (with_levels (colon_seen s.levels) s))))

-- K5: with a candidate, which is used up: an empty Key goes in before it, at its first character [C4, C5]
unfoldable pub value_with : Limits → ℕ → Mark → State → Read News
value_with limits n k s = do
  r ← roll_state limits k s
  let ts = map (λ (kind : Kind). empty_token kind k) (before_key (begins_pair s.levels) r.starts)
  emit (put_before n ts ∷ put (one_character Value s.place).token ∷ []) (valued false r.indents s)

-- K5: without. 46: at level 0 a simple key must be allowed
unfoldable pub value_without : Limits → State → Read News
value_without limits s = do
  _ ← need (in_flow s || s.simple_key_allowed) 46 (mark_of s)
  r ← roll_state limits (mark_of s) s
  let starts = empty_if (begins_pair s.levels) FlowMappingStart (mark_of s) ++ empty_if r.starts BlockMappingStart (mark_of s)
  emit (starts ++ (put (one_character Value s.place).token ∷ [])) (valued (not (in_flow s)) r.indents s)

unfoldable pub value_by : Limits → Candidate → State → Read News
value_by limits Absent s = value_without limits s
value_by limits (Possible required n k) s = value_with limits n k s

abbrev pub fetch_value : Limits → State → Read News
fetch_value limits s = value_by limits (top_key s.keys) s
