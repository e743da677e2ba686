-- Which tokens remove this level's candidate, in one table. It is right because of what each fetcher leaves of the candidates: where it says so, what
-- `remove_key` leaves; elsewhere what `save_key` does, or ':' used the candidate up.
use Rattle.std.specs.Prelude.{ℕ, Bool, ◌&&◌, ◌||◌, false, not, true, List, ◌∷◌, ◌≡◌, refl, drop}
use Rattle.yaml_text.specs.declared.Mark.{Mark}
use Rattle.yaml_text.specs.Pick.{pick}
use Rattle.yaml_text.specs.Mark.{skip_by}
use Rattle.yaml_text.specs.All.{All, all_any, all_bind, all_need, all_test, holds, not_read}
use Rattle.yaml_lexeme.specs.Token.{FlowEntry, FlowMappingEnd, FlowMappingStart, FlowSequenceEnd, FlowSequenceStart, Token}
use Rattle.yaml_lexeme.specs.Quoted.{scan_flow_scalar}
use Rattle.yaml_lexeme.specs.Block.{scan_block_scalar}
use Rattle.yaml_lexeme.specs.Tag.{scan_tag}
use Rattle.yaml_lexeme.specs.Anchor.{scan_anchor}
use Rattle.yaml_lexeme.specs.Directive.{scan_directive}
use Rattle.yaml_scan.specs.declared.Candidate.{Candidate}
use Rattle.yaml_scan.specs.declared.Candidate.TheVariants.{Absent, Possible}
use Rattle.yaml_scan.specs.declared.Choice.{Choice}
use Rattle.yaml_scan.specs.declared.Choice.TheVariants.{AtAnchor, AtBlock, AtByteOrderMark, AtColon, AtComma, AtDash, AtDirective, AtEnd, AtMarker, AtPlain, AtQuestion, AtQuoted, AtTag, BelowIndent, Closes, Opens, Stray}
use Rattle.yaml_scan.specs.declared.Limits.{Limits}
use Rattle.yaml_scan.specs.Indent.{drop_non_ending}
use Rattle.yaml_scan.specs.Keys.{set_key, top_key}
use Rattle.yaml_scan.specs.State.{Event, News, State, ends_with, goes_on, in_flow, mark_of, put_before, remove_key, save_key}
use Rattle.yaml_scan.specs.Bracket.{closes_level, fetch_flow_collection_end, fetch_flow_collection_start, fetch_flow_entry, scan_bracket}
use Rattle.yaml_scan.specs.Value.{fetch_block_entry, fetch_key, roll_state, value_by, value_with, value_without}
use Rattle.yaml_scan.specs.Document.{after_marker, fetch_byte_order_mark, fetch_directive, fetch_document_indicator, fetch_stream_end, forced, leave_blocks}
use Rattle.yaml_scan.specs.Fetch.{fetch, fetch_anchor, fetch_block_scalar, fetch_flow_scalar, fetch_plain_scalar, fetch_tag}
use Rattle.yaml_scan.specs.Fetches.{stack_bracket_is}

-- the token of this choice removes the candidate, unless another number comes before
unfoldable pub removes : Choice → State → Bool
removes AtDirective s = true
removes AtByteOrderMark s = true
-- 47
removes (AtMarker starts) s = not (in_flow s)
removes (Closes sequence) s = closes_level sequence s.levels
removes AtComma s = true
-- 46
removes AtDash s = not (in_flow s) && s.simple_key_allowed
removes AtQuestion s = in_flow s || s.simple_key_allowed
-- the others save one, use it up or leave it
removes AtEnd s = false
removes BelowIndent s = false
removes Stray s = false
removes (Opens sequence) s = false
removes AtColon s = false
removes AtTag s = false
removes AtPlain s = false
removes (AtAnchor alias) s = false
removes (AtBlock literal) s = false
removes (AtQuoted single) s = false

-- what became of this level's candidate at a token that says es and goes on in t; true: it was removed
pub data Became (s : State) (es : List Event) (t : State) : Bool → Type 0 where
  removed : t.keys ≡ (remove_key s).keys → Became s es t true
  -- with its level
  closed : t.keys ≡ drop 1 s.keys → t.levels ≡ drop 1 s.levels → Became s es t true
  -- it stays; or, where a simple key is allowed, this token's own stands in its place
  saved : t.keys ≡ (save_key s).keys → Became s es t false
  -- the same, below the level that this token opens
  opened : t.keys ≡ Absent ∷ (save_key s).keys → Became s es t false
  -- K5: ':' used it up: tokens go in before its own; or there was none
  used : {required : Bool} {n : ℕ} {k : Mark} {ts : List Token} {fs : List Event} → top_key s.keys ≡ Possible required n k → es ≡ put_before n ts ∷ fs → t.keys ≡ set_key Absent s.keys
      → Became s es t false
  none : top_key s.keys ≡ Absent → t.keys ≡ set_key Absent s.keys → Became s es t false

-- the table says what became of it
abbrev pub Told : Choice → State → News → Type 0
Told c s (goes_on es t) = Became s es t (removes c s)
Told c s (ends_with es) = removes c s ≡ false

opens_told : (limits : Limits) (sequence : Bool) (s : State) → All News (Told (Opens sequence) s) (fetch_flow_collection_start limits sequence s)
unfolding fetch_flow_collection_start removes
opens_told limits sequence s =
    all_bind _ (stack_bracket_is limits (save_key s))
    (λ t i. rw i.2 (all_need _ 28 _ _ (all_bind _ (all_any (scan_bracket (pick sequence FlowSequenceStart FlowMappingStart) (save_key s).place)) (λ l _. holds (opened refl)))))

value_told : (limits : Limits) (k : Candidate) (s : State) → top_key s.keys ≡ k → All News (Told AtColon s) (value_by limits k s)
unfolding value_by value_with value_without removes
value_told limits Absent s e = all_need _ 46 (mark_of s) _ (all_bind _ (all_any (roll_state limits (mark_of s) s)) (λ r _. holds (none e refl)))
value_told limits (Possible required n k) s e = all_bind _ (all_any (roll_state limits k s)) (λ r _. holds (used e refl refl))

-- the table names every removal, and no other token
pub removes_told : (limits : Limits) (c : Choice) (s : State) → All News (Told c s) (fetch limits c s)
unfolding fetch fetch_directive fetch_byte_order_mark fetch_document_indicator fetch_stream_end fetch_flow_collection_end fetch_flow_entry fetch_block_entry fetch_key fetch_tag
    fetch_plain_scalar fetch_anchor fetch_block_scalar fetch_flow_scalar leave_blocks remove_key removes
removes_told limits AtEnd s = all_need _ 47 (mark_of s) _ (all_need _ 41 (forced (mark_of s)) _ (holds refl))
removes_told limits AtDirective s = all_bind _ (all_any (scan_directive s.place)) (λ l _. holds (removed refl))
removes_told limits AtByteOrderMark s = holds (removed refl)
removes_told limits BelowIndent s = not_read
removes_told limits Stray s = not_read
removes_told limits (AtMarker starts) s =
    all_test _ 47 (mark_of s) _ (λ e. all_bind _ (all_any (after_marker starts (skip_by 3 s.place))) (λ p _. holds (rw e (removed refl))))
removes_told limits (Opens sequence) s = opens_told limits sequence s
removes_told limits (Closes sequence) s =
    all_test _ 47 (mark_of s) _ (λ e. all_bind _ (all_any (scan_bracket (pick sequence FlowSequenceEnd FlowMappingEnd) s.place)) (λ l _. holds (rw e (closed refl refl))))
removes_told limits AtComma s = all_bind _ (all_any (scan_bracket FlowEntry s.place)) (λ l _. holds (removed refl))
removes_told limits AtDash s =
    all_test _ 46 (mark_of s) _ (λ e. all_bind _ (all_any (roll_state limits (mark_of s) s)) (λ r _. holds (rw e (removed refl))))
removes_told limits AtQuestion s =
    all_test _ 46 (mark_of s) _ (λ e. all_bind _ (all_any (roll_state limits (mark_of s) s)) (λ r _. holds (rw e (removed refl))))
removes_told limits AtColon s = value_told limits (top_key s.keys) s refl
removes_told limits AtTag s = all_bind _ (all_any (scan_tag (in_flow s) s.place)) (λ l _. holds (saved refl))
removes_told limits AtPlain s = holds (saved refl)
removes_told limits (AtAnchor alias) s = all_bind _ (all_any (scan_anchor alias s.place)) (λ l _. holds (saved refl))
removes_told limits (AtBlock literal) s =
    let i = drop_non_ending s.indents.indent s.indents.entries in
    all_bind _ (all_any (scan_block_scalar literal i.indent s.place)) (λ l _. holds (saved refl))
removes_told limits (AtQuoted single) s =
    all_bind _ (all_any (scan_flow_scalar (in_flow s) single s.indents.indent s.place)) (λ l _. holds (saved refl))
