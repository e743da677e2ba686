-- Words with more behind them than the stacks: what '[', '{' and ',' store leaves the rest.
use Prim.Native.Nat.{◌+◌, ◌<◌, ◌≤◌, ℕ}
use mathlib.Core.Bool.{Bool, ◌&&◌, false}
use mathlib.Core.List.{List}
use mathlib.Core.Path.{◌≡◌, refl}
use native.Mathlib.Omega.{arith}
use lib.Dec.{leb}
use Rattle.yaml_text.specs.Refusal.{refused}
use Rattle.yaml_text.specs.Test.{by_test}
use Rattle.yaml_scan.specs.declared.Candidate.TheVariants.{Absent}
use Rattle.yaml_scan.specs.declared.Limits.{Limits}
use Rattle.yaml_scan.specs.Bracket.{fetch_flow_collection_start, new_level}
use Rattle.stacks.specs.Frame.{level_of}
use Rattle.stacks.specs.Indent.{word_of}
use Rattle.stacks.specs.Stack.{entry_words}
use Rattle.stacks.proofs.Longer.{Longer, entries_longer, level_longer, pick_longer, put_key_longer, put_level_longer, set_longer}
use Rattle.states.specs.declared.State.{State}
use Rattle.states.specs.State.{state_of}
use Rattle.states.proofs.Longer.{removed_longer, saved_longer}
use Rattle.brackets.specs.Words.{bracket_words, comma_words, stacks_entry}
use Rattle.brackets.proofs.Levels.{start_deep, start_full}

module _ {x a b : List ℕ} (h : Longer x a b) (s : State) where
  entry_longer : s.indents.depth ≤ entry_words → stacks_entry a s ≡ stacks_entry b s
  unfolding stacks_entry
  entry_longer deep = rw ((entries_longer h).entries s.indents.depth deep)

  -- where there is room for a level more
  pub bracket_longer : s.indents.depth ≤ entry_words → s.flow_level < 255 → (sequence : Bool) (count : ℕ) → Longer x (bracket_words sequence a count s) (bracket_words sequence b count s)
  bracket_longer deep room sequence count =
      let k = saved_longer h s (omega arith) deep count in
      let l = pick_longer (stacks_entry b s) (set_longer k s.indents.depth (word_of s.indents.indent false) (omega arith)) k in
      rw (entry_longer deep)
      (put_level_longer (put_key_longer l (s.flow_level + 1) Absent (omega arith)) (s.flow_level + 1) (new_level sequence) (omega arith))

  pub comma_longer : s.flow_level ≤ 255 → Longer x (comma_words a s) (comma_words b s)
  comma_longer flow =
      rw (level_longer h s.flow_level flow) (put_level_longer (removed_longer h s flow) s.flow_level (new_level (level_of b s.flow_level).sequence) flow)

-- where there is none, a bracket is refused
pub start_no_room : (limits : Limits) (sequence : Bool) (text a : List ℕ) (count : ℕ) (s : State) → limits.levels ≤ s.flow_level
    → (k : ℕ) × (fetch_flow_collection_start limits sequence (state_of text a count s) ≡ refused k s.place.mark)
start_no_room limits sequence text a count s h =
    by_test (stacks_entry a s && leb limits.entries s.indents.depth)
    (λ t. (48, start_full limits sequence text a count s refl t))
    (λ t. (28, start_deep limits sequence text a count s refl t h))
