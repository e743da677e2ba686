-- Words with more behind them than the stacks: what '-', '?' and ':' store leaves the rest.
use Prim.Native.Nat.{◌≤◌, ℕ}
use mathlib.Core.List.{List}
use native.Mathlib.Omega.{arith}
use lib.Dec.{ltb}
use Rattle.yaml_text.specs.declared.Mark.{Mark}
use Rattle.yaml_text.specs.Mark.{edge_of}
use Rattle.yaml_scan.specs.declared.Candidate.{Candidate}
use Rattle.yaml_scan.specs.declared.Candidate.TheVariants.{Absent, Possible}
use Rattle.yaml_scan.specs.declared.Limits.{Limits}
use Rattle.stacks.specs.Frame.{key_of, level_of, put_level}
use Rattle.stacks.specs.Indent.{indents_seen}
use Rattle.stacks.specs.Stack.{entry_words}
use Rattle.stacks.proofs.Entries.{entries_length}
use Rattle.stacks.proofs.Longer.{Longer, entries_longer, key_longer, level_longer, pick_longer, put_key_longer, put_level_longer, rolled_longer}
use Rattle.states.specs.declared.State.{State}
use Rattle.states.proofs.Longer.{removed_longer}
use Rattle.indicators.specs.Words.{colon_of, colon_words, dash_words, pair_of, question_words, questioned_of, roll_words, words_by}

module _ {x a b : List ℕ} (h : Longer x a b) (limits : Limits) (s : State) (flow : s.flow_level ≤ 255) (deep : s.indents.depth ≤ entry_words) where
  roll_longer : (m : Mark) → Longer x (roll_words limits a m s) (roll_words limits b m s)
  unfolding roll_words
  roll_longer m =
      let n = entries_length b s.indents.depth in
      rw ((entries_longer h).entries s.indents.depth deep)
      (pick_longer (ltb 0 s.flow_level) h (rolled_longer h limits.entries (edge_of m) (indents_seen b s.indents) (omega arith)))

  pub dash_longer : Longer x (dash_words limits a s) (dash_words limits b s)
  dash_longer = removed_longer (roll_longer s.place.mark) s flow

  pub question_longer : Longer x (question_words limits a s) (question_words limits b s)
  question_longer = rw (level_longer h s.flow_level flow) (put_level_longer dash_longer s.flow_level (questioned_of (level_of b s.flow_level)) flow)

  -- the level's data, whatever else was stored
  stored_longer : {u v : List ℕ} → Longer x u v
      → let l = level_of a s.flow_level in let k = level_of b s.flow_level in
      Longer x (put_level u s.flow_level (colon_of l (pair_of s.flow_level l))) (put_level v s.flow_level (colon_of k (pair_of s.flow_level k)))
  stored_longer g =
      let k = level_of b s.flow_level in
      rw (level_longer h s.flow_level flow) (put_level_longer g s.flow_level (colon_of k (pair_of s.flow_level k)) flow)

  by_longer : (k : Candidate) → Longer x (words_by k limits a s) (words_by k limits b s)
  unfolding words_by
  by_longer Absent = stored_longer (roll_longer s.place.mark)
  by_longer (Possible required n m) = stored_longer (put_key_longer (roll_longer m) s.flow_level Absent flow)

  pub colon_longer : Longer x (colon_words limits a s) (colon_words limits b s)
  colon_longer = rw (key_longer h s.flow_level flow) (by_longer (key_of b s.flow_level))
