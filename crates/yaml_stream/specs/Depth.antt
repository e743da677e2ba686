-- The indent stack holds no more entries than the limit, in every state that steps come to (48).
use Rattle.std.specs.Prelude.{◌≤◌, ℕ, Bool, ◌&&◌, not, true, List, [], ◌∷◌, ◌≡◌, refl, leb, ltb, length}
use Rattle.std.proofs.Math.Bool.{false}
use Rattle.std.proofs.Common.{le_refl, arith, ltb-true}
use Rattle.yaml_text.specs.declared.Mark.{Mark}
use Rattle.yaml_text.specs.Mark.{edge_of}
use Rattle.yaml_text.specs.Refusal.{got}
use Rattle.yaml_text.specs.Test.{by_pick, by_test}
use Rattle.yaml_text.specs.All.{All, all_any, all_bind, all_need, holds, not_read}
use Rattle.yaml_scan.specs.declared.Candidate.{Candidate}
use Rattle.yaml_scan.specs.declared.Candidate.TheVariants.{Absent, Possible}
use Rattle.yaml_scan.specs.declared.Choice.{Choice}
use Rattle.yaml_scan.specs.declared.Choice.TheVariants.{AtAnchor, AtBlock, AtByteOrderMark, AtColon, AtComma, AtDash, AtDirective, AtEnd, AtMarker, AtPlain, AtQuestion, AtQuoted, AtTag, BelowIndent, Closes, Opens, Stray}
use Rattle.yaml_scan.specs.declared.Limits.{Limits}
use Rattle.yaml_scan.specs.Indent.{Entry, Indents, Rolled, drop_for, drop_non_ending, indents_of, roll, roll_at, stack, top_ends, unroll}
use Rattle.yaml_scan.specs.Keys.{top_key}
use Rattle.yaml_scan.specs.State.{Event, News, State, ends_with, goes_on, in_flow, lapse_key, mark_of, preceded, remove_key, save_key}
use Rattle.yaml_scan.specs.Bracket.{fetch_flow_collection_end, fetch_flow_collection_start, fetch_flow_entry, stack_bracket}
use Rattle.yaml_scan.specs.Value.{fetch_block_entry, fetch_key, value_by, value_with, value_without}
use Rattle.yaml_scan.specs.Choice.{choice}
use Rattle.yaml_scan.specs.Fetch.{fetch, fetch_anchor, fetch_block_scalar, fetch_flow_scalar, fetch_plain_scalar, fetch_tag}
use Rattle.yaml_scan.specs.Document.{fetch_byte_order_mark, fetch_directive, fetch_document_indicator, fetch_stream_end, leave_blocks}
use Rattle.yaml_scan.specs.Scan.{step, to_next_token, unrolled}

abbrev pub depth : State → ℕ
depth s = length s.indents.entries

-- the stack

pub unroll_depth : (edge i : ℕ) (es : List Entry) → length (unroll edge i es).indents.entries ≤ length es
unfolding unroll
unroll_depth edge i [] = le_refl _
unroll_depth edge i (e ∷ es) =
    by_test (ltb edge i)
    (λ k. rw (k, unroll) (omega (arith, unroll_depth edge e.old es)))
    (λ k. rw (k, unroll) (le_refl _))

drop_non_ending_depth : (i : ℕ) (es : List Entry) → length (drop_non_ending i es).entries ≤ length es
unfolding drop_non_ending
drop_non_ending_depth i [] = le_refl _
drop_non_ending_depth i (e ∷ es) =
    by_test e.ends
    (λ k. rw (k, drop_non_ending) (le_refl _))
    (λ k. rw (k, drop_non_ending) (omega (arith, drop_non_ending_depth e.old es)))

drop_for_depth : (edge i : ℕ) (es : List Entry) → length (drop_for edge i es).entries ≤ length es
unfolding drop_for
drop_for_depth edge i [] = le_refl _
drop_for_depth edge i (e ∷ es) =
    by_pick (λ (j : Indents). length j.entries ≤ length (e ∷ es)) (leb i edge && not e.ends) (indents_of e.old es) (indents_of i (e ∷ es)) (omega arith) (le_refl _)

stack_depth : (room : ℕ) (m : Mark) (new : ℕ) (ends : Bool) (i : Indents) → All Indents (λ j. length j.entries ≤ room) (stack room m new ends i)
unfolding stack
stack_depth room m new ends i =
    by_test (ltb (length i.entries) room)
    (λ k. rw (k, stack) (holds (ltb-true (length i.entries) room k)))
    (λ k. rw (k, stack) not_read)

roll_depth : (room : ℕ) (m : Mark) (edge : ℕ) (i : Indents) → length i.entries ≤ room → All Rolled (λ r. length r.indents.entries ≤ room) (roll room m edge i)
unfolding roll
roll_depth room m edge i h =
    let d = drop_for edge i.indent i.entries in
    let b : length d.entries ≤ room = omega (arith, drop_for_depth edge i.indent i.entries) in
    by_test (ltb d.indent edge)
    (λ k. rw (k, roll) (all_bind _ (stack_depth room m edge true d) (λ j f. holds f)))
    (λ k. rw (k, roll) (holds b))

roll_at_depth : (room : ℕ) (flow : Bool) (m : Mark) (edge : ℕ) (i : Indents) → length i.entries ≤ room → All Rolled (λ r. length r.indents.entries ≤ room) (roll_at room flow m edge i)
unfolding roll_at
roll_at_depth room true m edge i h = holds h
roll_at_depth room false m edge i h = roll_depth room m edge i h

-- a fetch

abbrev pub Shallow : ℕ → News → Type 0
Shallow room (goes_on es t) = depth t ≤ room
Shallow room (ends_with es) = Unit {0}

goes : {room : ℕ} (es : List Event) (t : State) → depth t ≤ room → All News (Shallow room) (got (goes_on es t))
goes {room} es t h = let k : Shallow room (goes_on es t) = h in holds k

pub saved_indents : (s : State) → (save_key s).indents ≡ s.indents
unfolding save_key
saved_indents s = by_pick (λ (t : State). t.indents ≡ s.indents) s.simple_key_allowed _ s refl refl

module _ (room : ℕ) (s : State) (h : depth s ≤ room) where
  saved_depth : depth (save_key s) ≤ room
  saved_depth = rw (saved_indents s) h

  remove_depth : depth (remove_key s) ≤ room
  unfolding remove_key
  remove_depth = h

  lapse_depth : All State (λ t. depth t ≤ room) (lapse_key s)
  unfolding lapse_key
  lapse_depth = by_test (in_flow s) (λ e. rw (e, lapse_key) (holds h)) (λ e. rw (e, lapse_key) (all_bind _ (all_any _) (λ k _. holds h)))

module _ (room : ℕ) (s : State) (h : depth s ≤ room) where
  -- the gap and the lapse
  pub gap_depth : All State (λ t. depth t ≤ room) (to_next_token s)
  unfolding to_next_token
  gap_depth = all_bind _ (all_any _) (λ g _. lapse_depth room _ h)

  pub unrolled_depth : length (unrolled s).indents.entries ≤ room
  unfolding unrolled
  unrolled_depth =
      by_test (in_flow s)
      (λ e. rw (e, unrolled) h)
      (λ e. rw (e, unrolled) (omega (arith, unroll_depth (edge_of (mark_of s)) s.indents.indent s.indents.entries)))

  leave_depth : depth (leave_blocks s) ≤ room
  unfolding leave_blocks
  leave_depth = remove_depth room _ (omega (arith, unroll_depth 0 s.indents.indent s.indents.entries))

  plain_shallow : All News (Shallow room) (fetch_plain_scalar s)
  unfolding fetch_plain_scalar
  plain_shallow = goes _ _ (saved_depth room s h)

  flow_scalar_shallow : (single : Bool) → All News (Shallow room) (fetch_flow_scalar single s)
  unfolding fetch_flow_scalar
  flow_scalar_shallow single = all_bind _ (all_any _) (λ l _. goes _ _ (saved_depth room s h))

  block_scalar_shallow : (literal : Bool) → All News (Shallow room) (fetch_block_scalar literal s)
  unfolding fetch_block_scalar
  block_scalar_shallow literal = all_bind _ (all_any _) (λ l _. goes _ _ (omega (arith, drop_non_ending_depth s.indents.indent s.indents.entries)))

  tag_shallow : All News (Shallow room) (fetch_tag s)
  unfolding fetch_tag
  tag_shallow = all_bind _ (all_any _) (λ l _. goes _ _ (saved_depth room s h))

  anchor_shallow : (alias : Bool) → All News (Shallow room) (fetch_anchor alias s)
  unfolding fetch_anchor
  anchor_shallow alias = all_bind _ (all_any _) (λ l _. goes _ _ (saved_depth room s h))

  directive_shallow : All News (Shallow room) (fetch_directive s)
  unfolding fetch_directive
  directive_shallow = all_bind _ (all_any _) (λ l _. goes _ _ leave_depth)

  byte_order_mark_shallow : All News (Shallow room) (fetch_byte_order_mark s)
  unfolding fetch_byte_order_mark
  byte_order_mark_shallow = goes _ _ leave_depth

  document_indicator_shallow : (starts : Bool) → All News (Shallow room) (fetch_document_indicator starts s)
  unfolding fetch_document_indicator
  document_indicator_shallow starts = all_need _ _ _ _ (all_bind _ (all_any _) (λ l _. goes _ _ leave_depth))

  ended_shallow : (es : List Event) → All News (Shallow room) (got (ends_with es))
  ended_shallow es = let k : Shallow room (ends_with es) = tt in holds k

  stream_end_shallow : All News (Shallow room) (fetch_stream_end s)
  unfolding fetch_stream_end
  stream_end_shallow = all_need _ _ _ _ (all_need _ _ _ _ (ended_shallow _))

  collection_end_shallow : (sequence : Bool) → All News (Shallow room) (fetch_flow_collection_end sequence s)
  unfolding fetch_flow_collection_end
  collection_end_shallow sequence = all_need _ _ _ _ (all_bind _ (all_any _) (λ l _. goes _ _ (remove_depth room s h)))

  flow_entry_shallow : All News (Shallow room) (fetch_flow_entry s)
  unfolding fetch_flow_entry
  flow_entry_shallow = all_bind _ (all_any _) (λ l _. goes _ _ (remove_depth room s h))

module _ (limits : Limits) (s : State) (h : depth s ≤ limits.entries) where
  bracket_depth : All State (λ t. depth t ≤ limits.entries) (stack_bracket limits s)
  unfolding stack_bracket
  bracket_depth =
      by_test (not (in_flow s) && top_ends s.indents.entries)
      (λ e. rw (e, stack_bracket) (all_bind _ (stack_depth limits.entries (mark_of s) _ false s.indents) (λ i k. holds k)))
      (λ e. rw (e, stack_bracket) (holds h))

  block_entry_shallow : All News (Shallow limits.entries) (fetch_block_entry limits s)
  unfolding fetch_block_entry
  block_entry_shallow =
      all_need _ _ _ _ (all_bind _ (roll_at_depth limits.entries _ _ _ s.indents h) (λ r k. goes _ _ (remove_depth limits.entries _ k)))

  key_shallow : All News (Shallow limits.entries) (fetch_key limits s)
  unfolding fetch_key
  key_shallow =
      all_need _ _ _ _ (all_bind _ (roll_at_depth limits.entries _ _ _ s.indents h) (λ r k. goes _ _ (remove_depth limits.entries _ k)))

  value_shallow : (c : Candidate) → All News (Shallow limits.entries) (value_by limits c s)
  unfolding value_by value_with value_without
  value_shallow Absent = all_need _ _ _ _ (all_bind _ (roll_at_depth limits.entries _ _ _ s.indents h) (λ r k. goes _ _ k))
  value_shallow (Possible required n m) = all_bind _ (roll_at_depth limits.entries _ _ _ s.indents h) (λ r k. goes _ _ k)

collection_start_shallow : (limits : Limits) (s : State) → depth s ≤ limits.entries → (sequence : Bool) → All News (Shallow limits.entries) (fetch_flow_collection_start limits sequence s)
unfolding fetch_flow_collection_start
collection_start_shallow limits s h sequence =
    all_bind _ (bracket_depth limits (save_key s) (saved_depth limits.entries s h)) (λ t k. all_need _ _ _ _ (all_bind _ (all_any _) (λ l _. goes _ _ k)))

fetch_shallow : (limits : Limits) (c : Choice) (s : State) → depth s ≤ limits.entries → All News (Shallow limits.entries) (fetch limits c s)
unfolding fetch
fetch_shallow limits AtEnd s h = stream_end_shallow limits.entries s h
fetch_shallow limits AtDirective s h = directive_shallow limits.entries s h
fetch_shallow limits AtByteOrderMark s h = byte_order_mark_shallow limits.entries s h
fetch_shallow limits BelowIndent s h = not_read
fetch_shallow limits Stray s h = not_read
fetch_shallow limits (AtMarker starts) s h = document_indicator_shallow limits.entries s h starts
fetch_shallow limits (Opens sequence) s h = collection_start_shallow limits s h sequence
fetch_shallow limits (Closes sequence) s h = collection_end_shallow limits.entries s h sequence
fetch_shallow limits AtComma s h = flow_entry_shallow limits.entries s h
fetch_shallow limits AtDash s h = block_entry_shallow limits s h
fetch_shallow limits AtQuestion s h = key_shallow limits s h
fetch_shallow limits AtColon s h = value_shallow limits s h (top_key s.keys)
fetch_shallow limits AtTag s h = tag_shallow limits.entries s h
fetch_shallow limits AtPlain s h = plain_shallow limits.entries s h
fetch_shallow limits (AtAnchor alias) s h = anchor_shallow limits.entries s h alias
fetch_shallow limits (AtBlock literal) s h = block_scalar_shallow limits.entries s h literal
fetch_shallow limits (AtQuoted single) s h = flow_scalar_shallow limits.entries s h single

-- a step

preceded_shallow : (room : ℕ) (es : List Event) (w : News) → Shallow room w → Shallow room (preceded es w)
preceded_shallow room es (goes_on fs t) h = h
preceded_shallow room es (ends_with fs) h = tt

pub step_shallow : (limits : Limits) (s : State) → depth s ≤ limits.entries → All News (Shallow limits.entries) (step limits s)
unfolding step
step_shallow limits s h =
    all_bind _ (gap_depth limits.entries s h)
    (λ t k. all_bind _ (fetch_shallow limits (choice _) _ (unrolled_depth limits.entries t k)) (λ w j. holds (preceded_shallow limits.entries _ w j)))
