-- Behind steps that paused: what is held is read out as the state behind them, with what is pending then.
use Prim.Native.Nat.{◌+◌, ◌-◌, ◌<◌, ℕ}
use mathlib.Core.List.{List, ◌++◌}
use mathlib.Core.Path.{◌∙◌, ◌≡◌, ap, sym}
use native.Mathlib.Omega.{arith}
use lib.ListN.{drop, length, length-append, length-drop, length-set, set}
use lib.Seq.{get_or-append-add, get_or-drop, get_or-set_other, get_or-set_same, take_at}
use Rattle.yaml_scan.specs.declared.Limits.{Limits}
use Rattle.yaml_scan.specs.State as definition
use Rattle.stacks.specs.Stack.{stack_words}
use Rattle.events.specs.declared.Counts.{Counts}
use Rattle.states.specs.declared.State.{State}
use Rattle.states.specs.State.{state_of}
use Rattle.storing.specs.Step.{StepGiven}
use Rattle.stream_laws.specs.declared.Pending.{Pending}
use Rattle.driver.specs.Held.{counts_held, held_words, level_at, put_counts, put_pending, put_state, seen_held, until_at, word}
use Rattle.driver.proofs.Words.{stored_counts, stored_length, stored_other, stored_stacks, stored_state}
use Rattle.stream.proofs.Kept.{seen_by, seen_set}

module _ {limits : Limits} {text stacks : List ℕ} {state : State} {counts : Counts} (h h' : List ℕ) (base : ℕ) (w : Pending) (all : length h ≡ held_words)
    (g : StepGiven limits text stacks state counts) (long : length stacks ≡ stack_words)
    (e : h' ≡ put_pending (put_counts (put_state (stacks ++ drop stack_words h) state) counts) base w) where
  abbrev front : List ℕ
  front = stacks ++ drop stack_words h

  abbrev kept : List ℕ
  kept = put_counts (put_state front state) counts

  abbrev levelled : List ℕ
  levelled = set kept level_at w.level

  abbrev last_slot : ℕ
  last_slot = w.number - base

  abbrev t : definition.State
  t = state_of text stacks counts.count state

  front_length : length front ≡ held_words
  front_length = omega (arith, length-append stacks (drop stack_words h), length-drop stack_words h)

  kept_length : length kept ≡ held_words
  kept_length = stored_length g front front_length ∙ front_length

  -- the words before the counts

  front_word : (j : ℕ) → word front (stack_words + j) ≡ word h (stack_words + j)
  front_word j = ap (λ (k : ℕ). word front (k + j)) (sym long) ∙ get_or-append-add stacks (drop stack_words h) j 0 ∙ get_or-drop stack_words h j 0

  pub paused_other : (j : ℕ) → j < 3 → word h' (stack_words + j) ≡ word h (stack_words + j)
  paused_other j o =
      let i = stack_words + j in
      ap (λ (z : List ℕ). word z i) e ∙ get_or-set_other levelled until_at i last_slot 0 (λ f. omega arith) ∙ get_or-set_other kept level_at i w.level 0 (λ f. omega arith)
      ∙ stored_other g front front_length i (λ a b. omega arith) ∙ front_word j

  pub paused_level : word h' level_at ≡ w.level
  paused_level =
      ap (λ (z : List ℕ). word z level_at) e ∙ get_or-set_other levelled until_at level_at last_slot 0 (λ f. omega arith)
      ∙ get_or-set_same kept level_at w.level 0 (omega (arith, kept_length))

  pub paused_until : word h' until_at ≡ w.number - base
  paused_until = ap (λ (z : List ℕ). word z until_at) e ∙ get_or-set_same levelled until_at last_slot 0 (omega (arith, kept_length, length-set kept level_at w.level))

  -- the state

  pub paused_counts : counts_held text h' ≡ counts
  paused_counts =
      ap (λ (z : List ℕ). counts_held text z) e ∙ (seen_set limits text levelled until_at last_slot (omega arith) (omega arith)).counts
      ∙ (seen_set limits text kept level_at w.level (omega arith) (omega arith)).counts ∙ stored_counts g front front_length

  pub paused_seen : seen_held limits text h' ≡ t
  paused_seen =
      ap (λ (z : List ℕ). seen_held limits text z) e ∙ (seen_set limits text levelled until_at last_slot (omega arith) (omega arith)).seen
      ∙ (seen_set limits text kept level_at w.level (omega arith) (omega arith)).seen
      ∙ seen_by text (stored_stacks g front front_length ∙ take_at stacks (drop stack_words h) stack_words long) (stored_counts g front front_length) (stored_state g front front_length)
