-- K6: behind a bracket that opens at level 0 an entry of the indent stack ends no block, or none is open. So one block fewer is open than the limit has entries.
use Rattle.std.specs.Prelude.{◌≤◌, suc, ℕ, Bool, false, true, List, [], ◌∷◌, ◌≡◌, ltb, length}
use Rattle.std.proofs.Common.{◌∙◌, sym, arith, ltb-true}
use Rattle.std.proofs.Math.Path.{refl}
use Rattle.yaml_text.specs.declared.Mark.{Mark}
use Rattle.yaml_text.specs.Refusal.{got}
use Rattle.yaml_text.specs.Test.{by_pick, by_test, true_false}
use Rattle.yaml_text.specs.All.{All, all_any, all_bind, all_need, all_test, holds, not_read}
use Rattle.yaml_scan.specs.declared.Candidate.{Candidate}
use Rattle.yaml_scan.specs.declared.Candidate.TheVariants.{Absent, Possible}
use Rattle.yaml_scan.specs.declared.Choice.{Choice}
use Rattle.yaml_scan.specs.declared.Choice.TheVariants.{AtAnchor, AtBlock, AtByteOrderMark, AtColon, AtComma, AtDash, AtDirective, AtEnd, AtMarker, AtPlain, AtQuestion, AtQuoted, AtTag, BelowIndent, Closes, Opens, Stray}
use Rattle.yaml_scan.specs.declared.Level.{Level}
use Rattle.yaml_scan.specs.declared.Limits.{Limits}
use Rattle.yaml_scan.specs.Indent.{Entry, Indents, indents_of, stack, top_ends}
use Rattle.yaml_scan.specs.IndentLaws.{blocks_of, open_blocks}
use Rattle.yaml_scan.specs.Keys.{top_key}
use Rattle.yaml_scan.specs.State.{Event, News, State, ends_with, goes_on, in_flow, mark_of, on_level, remove_key, save_key}
use Rattle.yaml_scan.specs.Bracket.{closes_level, fetch_flow_collection_end, fetch_flow_collection_start, fetch_flow_entry, stack_bracket}
use Rattle.yaml_scan.specs.Value.{fetch_block_entry, fetch_key, value_by, value_with, value_without}
use Rattle.yaml_scan.specs.Fetch.{fetch, fetch_anchor, fetch_block_scalar, fetch_flow_scalar, fetch_plain_scalar, fetch_tag}
use Rattle.yaml_scan.specs.Document.{fetch_byte_order_mark, fetch_directive, fetch_document_indicator, fetch_stream_end, leave_blocks}
use Rattle.yaml_stream.specs.Depth.{depth, saved_indents}
use Rattle.yaml_stream.specs.Totals.{blocks_depth}

saved_levels : (s : State) → (save_key s).levels ≡ s.levels
unfolding save_key
saved_levels s = by_pick (λ (t : State). t.levels ≡ s.levels) s.simple_key_allowed _ s refl refl

same_flow : (s t : State) → t.levels ≡ s.levels → in_flow t ≡ in_flow s
unfolding in_flow
same_flow s t e = rw e

abbrev pub flow_in : List Level → Bool
flow_in ls = elim ls [ [] ↦ false | l ∷ ks ↦ true ]

-- a change of the current level leaves it there
pub level_flow : (f : Level → Level) (ls : List Level) → flow_in (on_level f ls) ≡ flow_in ls
unfolding on_level
level_flow f [] = refl
level_flow f (l ∷ ls) = refl

closes_flow : (sequence : Bool) (ls : List Level) → closes_level sequence ls ≡ true → flow_in ls ≡ true
unfolding closes_level
closes_flow sequence [] e = true_false (sym e)
closes_flow sequence (l ∷ ls) e = refl

-- the bracket's entry

-- where the top entry ends no block
top_open : (room : ℕ) (es : List Entry) → top_ends es ≡ false → length es ≤ room → 1 ≤ room → suc (open_blocks es) ≤ room
unfolding top_ends open_blocks
top_open room [] e h k = k
top_open room (x ∷ es) e h k = rw e (omega (arith, blocks_depth es))

stack_open : (room : ℕ) (m : Mark) (new : ℕ) (i : Indents) → All Indents (λ j. suc (blocks_of j) ≤ room) (stack room m new false i)
unfolding stack open_blocks
stack_open room m new i =
    by_test (ltb (length i.entries) room)
    (λ k. rw (k, stack) (holds {a = indents_of new (record { old = i.indent; ends = false } ∷ i.entries)} (omega (arith, ltb-true (length i.entries) room k, blocks_depth i.entries))))
    (λ k. rw (k, stack) not_read)

module _ (limits : Limits) (s : State) (deep : depth s ≤ limits.entries) (some : 1 ≤ limits.entries) (level_0 : in_flow s ≡ false) where
  bracket_open : All State (λ t. suc (blocks_of t.indents) ≤ limits.entries) (stack_bracket limits s)
  unfolding stack_bracket
  bracket_open =
      by_test (top_ends s.indents.entries)
      (λ e. rw (level_0, e, stack_bracket) (all_bind _ (stack_open limits.entries (mark_of s) _ s.indents) (λ i k. holds k)))
      (λ e. rw (level_0, e, stack_bracket) (holds (top_open limits.entries s.indents.entries e deep some)))

-- in flow behind the step, at level 0 before it: then it was a bracket
abbrev pub Opened : Limits → State → News → Type 0
Opened limits s (goes_on es t) = in_flow s ≡ false → in_flow t ≡ true → suc (blocks_of t.indents) ≤ limits.entries
Opened limits s (ends_with es) = Unit {0}

module _ (limits : Limits) (s : State) where
  -- as many levels as before
  shut : (es : List Event) (t : State) → in_flow t ≡ in_flow s → All News (Opened limits s) (got (goes_on es t))
  shut es t e = holds {a = goes_on es t} (λ f g. true_false (sym g ∙ e ∙ f))

  -- in flow before it
  within : {es : List Event} {t : State} → in_flow s ≡ true → All News (Opened limits s) (got (goes_on es t))
  within {es} {t} e = holds {a = goes_on es t} (λ f g. true_false (sym e ∙ f))

  same : (es : List Event) (t : State) → t.levels ≡ s.levels → All News (Opened limits s) (got (goes_on es t))
  same es t e = shut es t (same_flow s t e)

  plain_opened : All News (Opened limits s) (fetch_plain_scalar s)
  unfolding fetch_plain_scalar
  plain_opened = same _ _ (saved_levels s)

  flow_scalar_opened : (single : Bool) → All News (Opened limits s) (fetch_flow_scalar single s)
  unfolding fetch_flow_scalar
  flow_scalar_opened single = all_bind _ (all_any _) (λ l _. same _ _ (saved_levels s))

  block_scalar_opened : (literal : Bool) → All News (Opened limits s) (fetch_block_scalar literal s)
  unfolding fetch_block_scalar
  block_scalar_opened literal = all_bind _ (all_any _) (λ l _. same _ _ (saved_levels s))

  tag_opened : All News (Opened limits s) (fetch_tag s)
  unfolding fetch_tag
  tag_opened = all_bind _ (all_any _) (λ l _. same _ _ (saved_levels s))

  anchor_opened : (alias : Bool) → All News (Opened limits s) (fetch_anchor alias s)
  unfolding fetch_anchor
  anchor_opened alias = all_bind _ (all_any _) (λ l _. same _ _ (saved_levels s))

  directive_opened : All News (Opened limits s) (fetch_directive s)
  unfolding fetch_directive leave_blocks remove_key
  directive_opened = all_bind _ (all_any _) (λ l _. same _ _ refl)

  byte_order_mark_opened : All News (Opened limits s) (fetch_byte_order_mark s)
  unfolding fetch_byte_order_mark leave_blocks remove_key
  byte_order_mark_opened = same _ _ refl

  document_indicator_opened : (starts : Bool) → All News (Opened limits s) (fetch_document_indicator starts s)
  unfolding fetch_document_indicator leave_blocks remove_key
  document_indicator_opened starts = all_need _ _ _ _ (all_bind _ (all_any _) (λ p _. same _ _ refl))

  ended_opened : (es : List Event) → All News (Opened limits s) (got (ends_with es))
  ended_opened es = holds {a = ends_with es} tt

  stream_end_opened : All News (Opened limits s) (fetch_stream_end s)
  unfolding fetch_stream_end
  stream_end_opened = all_need _ _ _ _ (all_need _ _ _ _ (ended_opened _))

  collection_end_opened : (sequence : Bool) → All News (Opened limits s) (fetch_flow_collection_end sequence s)
  unfolding fetch_flow_collection_end in_flow
  collection_end_opened sequence =
      all_test _ _ _ _ (λ c. all_bind _ (all_any _) (λ l _. within (closes_flow sequence s.levels c)))

  flow_entry_opened : All News (Opened limits s) (fetch_flow_entry s)
  unfolding fetch_flow_entry remove_key in_flow
  flow_entry_opened = all_bind _ (all_any _) (λ l _. shut _ _ (level_flow _ s.levels))

  block_entry_opened : All News (Opened limits s) (fetch_block_entry limits s)
  unfolding fetch_block_entry remove_key
  block_entry_opened = all_need _ _ _ _ (all_bind _ (all_any _) (λ r _. same _ _ refl))

  key_opened : All News (Opened limits s) (fetch_key limits s)
  unfolding fetch_key remove_key in_flow
  key_opened = all_need _ _ _ _ (all_bind _ (all_any _) (λ r _. shut _ _ (level_flow _ s.levels)))

  value_opened : (c : Candidate) → All News (Opened limits s) (value_by limits c s)
  unfolding value_by value_with value_without in_flow
  value_opened Absent = all_need _ _ _ _ (all_bind _ (all_any _) (λ r _. shut _ _ (level_flow _ s.levels)))
  value_opened (Possible required n m) = all_bind _ (all_any _) (λ r _. shut _ _ (level_flow _ s.levels))

collection_start_opened : (limits : Limits) (s : State) → depth s ≤ limits.entries → 1 ≤ limits.entries → (sequence : Bool)
    → All News (Opened limits s) (fetch_flow_collection_start limits sequence s)
unfolding fetch_flow_collection_start
collection_start_opened limits s h k sequence =
    by_test (in_flow s)
    (λ e. all_bind _ (all_any _) (λ t _. all_need _ _ _ _ (all_bind _ (all_any _) (λ l _. within limits s e))))
    (λ e. all_bind _ (bracket_open limits (save_key s) (rw (saved_indents s) h) k (same_flow s (save_key s) (saved_levels s) ∙ e))
    (λ t b. all_need _ _ _ _ (all_bind _ (all_any _) (λ l _. outside b))))
  where
    outside : {es : List Event} {t : State} → suc (blocks_of t.indents) ≤ limits.entries → All News (Opened limits s) (got (goes_on es t))
    outside {es} {t} b = holds {a = goes_on es t} (λ f g. b)

pub fetch_opened : (limits : Limits) (c : Choice) (s : State) → depth s ≤ limits.entries → 1 ≤ limits.entries → All News (Opened limits s) (fetch limits c s)
unfolding fetch
fetch_opened limits AtEnd s h k = stream_end_opened limits s
fetch_opened limits AtDirective s h k = directive_opened limits s
fetch_opened limits AtByteOrderMark s h k = byte_order_mark_opened limits s
fetch_opened limits BelowIndent s h k = not_read
fetch_opened limits Stray s h k = not_read
fetch_opened limits (AtMarker starts) s h k = document_indicator_opened limits s starts
fetch_opened limits (Opens sequence) s h k = collection_start_opened limits s h k sequence
fetch_opened limits (Closes sequence) s h k = collection_end_opened limits s sequence
fetch_opened limits AtComma s h k = flow_entry_opened limits s
fetch_opened limits AtDash s h k = block_entry_opened limits s
fetch_opened limits AtQuestion s h k = key_opened limits s
fetch_opened limits AtColon s h k = value_opened limits s (top_key s.keys)
fetch_opened limits AtTag s h k = tag_opened limits s
fetch_opened limits AtPlain s h k = plain_opened limits s
fetch_opened limits (AtAnchor alias) s h k = anchor_opened limits s alias
fetch_opened limits (AtBlock literal) s h k = block_scalar_opened limits s literal
fetch_opened limits (AtQuoted single) s h k = flow_scalar_opened limits s single
