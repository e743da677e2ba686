-- The entry of a bracket: K6's test is made before the candidate is saved, which changes neither levels nor entries, so it is the definition's.
use Prim.Native.Nat.{◌+◌, ◌<◌, ◌≤◌, ℕ}
use mathlib.Core.Bool.{Bool, ◌&&◌, false, not, true}
use mathlib.Core.List.{List}
use mathlib.Core.Path.{◌∙◌, ◌≡◌, sym}
use native.Mathlib.Omega.{arith}
use lib.Dec.{leb}
use lib.ListN.{length, set}
use borrow.Author.Tests.{le-ltb, leb-false, leb-true, lt-ltb}
use Rattle.yaml_text.specs.Refusal.{◌>>=◌, got, refused}
use Rattle.yaml_text.specs.Test.{true_false}
use Rattle.yaml_scan.specs.declared.Limits.{Limits}
use Rattle.yaml_scan.specs.Bracket.{stack_bracket}
use Rattle.yaml_scan.specs.Indent.{stack, top_ends}
use Rattle.yaml_scan.specs.State.{in_flow, mark_of, with_indents}
use Rattle.yaml_scan.specs.State as definition
use Rattle.stacks.specs.declared.indent.Indents.{Indents}
use Rattle.stacks.specs.Indent.{entries_of, word_of}
use Rattle.stacks.specs.Roll.{one_more}
use Rattle.stacks.specs.Stack.{entry_words}
use Rattle.stacks.proofs.Entries.{entries_push}
use Rattle.stacks.proofs.Frames.{frames_stay_same}
use Rattle.stacks.proofs.Rolls.{stack_got}
use Rattle.states.specs.declared.State.{State}
use Rattle.brackets.specs.Words.{EntryFits, StacksBracket, bracket_indents, stacks_entry}

-- the code's test

module _ (a : List ℕ) (s : State) where
  pub entry_flow : 0 < s.flow_level → false ≡ stacks_entry a s
  unfolding stacks_entry
  entry_flow h = rw (lt-ltb 0 s.flow_level h)

  pub entry_top : {b : Bool} → s.flow_level ≤ 0 → b ≡ top_ends (entries_of a s.indents.depth) → b ≡ stacks_entry a s
  unfolding stacks_entry
  entry_top h q = q ∙ rw (le-ltb 0 s.flow_level h)

-- the definition's, by what it comes to

module _ (limits : Limits) (x : definition.State) where
  pub stacks_full : (entry : Bool) → (not (in_flow x) && top_ends x.indents.entries) ≡ entry → (entry && leb limits.entries (length x.indents.entries)) ≡ true
      → stack_bracket limits x ≡ refused 48 (mark_of x)
  unfolding stack_bracket stack ◌>>=◌
  stacks_full true q h = rw (q, stack_bracket, le-ltb _ _ (leb-true _ _ h), stack)
  stacks_full false q h = true_false (sym h)

  pub stacks_room : (entry : Bool) → (not (in_flow x) && top_ends x.indents.entries) ≡ entry → (entry && leb limits.entries (length x.indents.entries)) ≡ false
      → stack_bracket limits x ≡ got (with_indents (bracket_indents entry x.indents) x)
  unfolding stack_bracket stack bracket_indents ◌>>=◌
  stacks_room true q h = rw (q, stack_bracket, lt-ltb _ _ (leb-false _ _ h), stack)
  stacks_room false q h = rw (q, stack_bracket)

-- what the code stacks

module _ {limits : Limits} {entry : Bool} {a : List ℕ} {s : State} (h : EntryFits limits entry a s) where
  pub entry_fits : entry ≡ true → s.indents.depth < limits.entries
  entry_fits q = leb-false limits.entries s.indents.depth (rw q at h.room)

  pub entry_most : entry ≡ true → s.indents.depth < entry_words
  entry_most q = let l = entry_fits q in omega (arith, h.lent.entries_most)

  pub stacks_one : {e : List ℕ} {r : Indents} → entry ≡ true
      → (r ≡ one_more (s.indents.indent + 1) s.indents) × (e ≡ set a s.indents.depth (word_of s.indents.indent false)) → StacksBracket limits entry a e s r
  unfolding bracket_indents
  stacks_one q p =
      let d : s.indents.depth < length a = (let l = entry_most q in omega (arith, h.lent.room)) in
      let g = stack_got a limits.entries s.place.mark (s.indents.indent + 1) false s.indents h.lent.entries_most h.lent.room (entry_fits q) h.low.indent (omega (arith, h.low.indent)) in
      rw (p.0, p.1)
      (record {
        words = rw q;
        same = rw (q, entries_push a s.indents.depth s.indents.indent false d h.low.indent);
        frames = g.frames;
        low = g.low;
      })

  pub stacks_none : entry ≡ false → StacksBracket limits entry a a s s.indents
  unfolding bracket_indents
  stacks_none q = record { words = rw q; same = rw q; frames = frames_stay_same a; low = h.low }
