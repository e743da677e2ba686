-- Rolling to a mark's column: in flow nothing rolls, at level 0 `roll` does, and only the entries change.
use Prim.Native.Nat.{◌+◌, ◌<◌, ◌≤◌, ℕ}
use mathlib.Core.Bool.{false}
use mathlib.Core.List.{List}
use mathlib.Core.Path.{◌≡◌, sym}
use native.Mathlib.Omega.{arith}
use borrow.Author.Tests.{le-ltb, lt-ltb}
use Rattle.std.specs.Prelude.{Result, Ok, Err}
use Rattle.yaml_text.specs.declared.Mark.{Mark}
use Rattle.yaml_text.specs.declared.Refusal.{Refusal}
use Rattle.yaml_scan.specs.declared.Limits.{Limits}
use Rattle.yaml_scan.specs.Indent.{roll_at}
use Rattle.yaml_scan.specs.State.{remove_key, with_indents}
use Rattle.yaml_scan.specs.Value.{roll_state}
use Rattle.stacks.specs.declared.indent.Indents.{Indents}
use Rattle.stacks.specs.declared.indent.Rolled.{Rolled}
use Rattle.stacks.specs.Frame.{FramesStay, frame_keys}
use Rattle.stacks.specs.Indent.{indents_seen}
use Rattle.stacks.specs.Roll.{Rolls, rolled_seen}
use Rattle.stacks.specs.Stack.{entry_words}
use Rattle.stacks.proofs.Frames.{frames_stay_same}
use Rattle.stacks.proofs.Rolls.{roll_kept}
use Rattle.states.specs.declared.State.{State}
use Rattle.states.specs.Fetch.{Ready}
use Rattle.states.specs.Key.{Removes}
use Rattle.states.specs.Seen.{in_flow_seen}
use Rattle.states.specs.State.{s_with_indents, state_of}
use Rattle.indicators.specs.Indicator.{KeptRolled, Rollable, RollsAt}
use Rattle.indicators.specs.Words.{roll_words}

pub rollable : {limits : Limits} {text a : List ℕ} {s : State} → Ready limits text a s → Rollable limits a s.place.mark s
rollable y = record { low = y.low; lent = y.lent; col = omega (arith, y.stands) }

kept_by : {a e : List ℕ} {room edge : ℕ} {m : Mark} {i : Indents} (r : Result Rolled Refusal) → Rolls a e room m edge i r → KeptRolled a e r
kept_by (Ok o) w = tt
kept_by (Err f) w = roll_kept w

module _ {limits : Limits} {a : List ℕ} {m : Mark} {s : State} (h : Rollable limits a m s) where
  pub rolls_flow : 0 < s.flow_level → RollsAt limits a a m s (Ok (record { starts = false; indents = s.indents }))
  unfolding roll_at roll_words
  rolls_flow f =
      let t = lt-ltb 0 s.flow_level f in
      record { same = rw (t, roll_at); words = rw t; kept = tt; frames = frames_stay_same a; low = h.low }

  pub rolls_block : {e : List ℕ} {r : Result Rolled Refusal} → s.flow_level ≤ 0 → Rolls a e limits.entries s.place.mark (m.col + 1) s.indents r → RollsAt limits a e m s r
  unfolding roll_at roll_words
  rolls_block {r = r} f w =
      let t = le-ltb 0 s.flow_level f in
      record {
        same = rw (t, roll_at) w.same;
        words = rw t w.words;
        kept = kept_by r w;
        frames = w.frames;
        low = w.low;
      }

-- what the definition sees of it
pub roll_seen : {limits : Limits} {a e : List ℕ} {m : Mark} {s : State} {r : Result Rolled Refusal} (text : List ℕ) (count : ℕ) → RollsAt limits a e m s r
    → roll_state limits m (state_of text a count s) ≡ rolled_seen e r
roll_seen {a = a} {s = s} text count h = rw (in_flow_seen text a count s) (sym h.same)

-- and then without the candidate
pub removed_seen : {a b e : List ℕ} {s : State} (i : Indents) → FramesStay a b → Removes b e s → i.depth ≤ entry_words → (text : List ℕ) (count : ℕ)
    → state_of text e count (s_with_indents s i) ≡ remove_key (with_indents (indents_seen b i) (state_of text a count s))
unfolding remove_key frame_keys
removed_seen {s = s} i f w h text count =
    rw (w.sets.keys, w.sets.levels s.flow_level, w.sets.entries.entries i.depth h, f.keys s.flow_level, f.levels s.flow_level)
