-- What the definition sees of a state.
use Rattle.std.specs.Prelude.{◌+◌, ◌≤◌, suc, zero, ℕ, Bool, false, not, true, List, [], ◌∷◌, ◌≡◌, refl, eqb, ltb, get_or}
use Rattle.std.proofs.Common.{sym, arith, lt-ltb, ltb-false, ltb-true, ne_eqb}
use Rattle.yaml_text.specs.Test.{by_test}
use Rattle.yaml_scan.specs.declared.Level.{Level}
use Rattle.yaml_scan.specs.Keys.{top_key}
use Rattle.yaml_scan.specs.State.{in_flow, with_indents}
use Rattle.stacks.specs.declared.indent.Indents.{Indents}
use Rattle.stacks.specs.Stack.{entry_words, frame_at}
use Rattle.stacks.specs.Indent.{EntriesStay, indents_seen}
use Rattle.stacks.specs.Frame.{FramesStay, frame_keys, frame_levels, key_at, key_of}
use Rattle.stacks.specs.Most.{at_most_fits}
use Rattle.states.specs.declared.State.{State}
use Rattle.states.specs.State.{key_mark, state_of}

some_level : List Level → Bool
some_level ls = elim ls [ [] ↦ false | l ∷ ls ↦ true ]

some_seen : (stacks : List ℕ) (d : ℕ) → some_level (frame_levels stacks d) ≡ ltb 0 d
unfolding some_level frame_levels
some_seen stacks zero = refl
some_seen stacks (suc d) = sym (lt-ltb 0 (suc d) (omega arith))

pub level_zero : (d : ℕ) → not (ltb 0 d) ≡ eqb d 0
level_zero d =
    by_test (ltb 0 d)
    (λ e. let l = ltb-true 0 d e in rw (e, ne_eqb d 0 (omega arith)))
    (λ e. let l = ltb-false 0 d e in let z : d ≡ 0 = omega arith in rw z)

module _ (text stacks : List ℕ) (count : ℕ) (s : State) where
  pub in_flow_seen : in_flow (state_of text stacks count s) ≡ ltb 0 s.flow_level
  unfolding in_flow some_level
  in_flow_seen = some_seen stacks s.flow_level

-- the candidate of the current level
pub top_seen : (stacks : List ℕ) (d : ℕ) → top_key (frame_keys stacks (suc d)) ≡ key_of stacks d
unfolding top_key frame_keys
top_seen stacks d = refl

-- whatever the words hold, a candidate's column is one of a text
pub key_low : (stacks : List ℕ) (d : ℕ) → (key_mark (key_of stacks d)).col ≤ 1_048_576
unfolding key_mark key_at
key_low stacks d =
    by_test (eqb (get_or stacks (frame_at d) 0) 0)
    (λ e. rw e (omega arith))
    (λ e. rw e (at_most_fits 1_048_576 (get_or stacks (frame_at d + 4) 0)))

-- entries that stay, and frames that stay, are seen as before

pub entries_seen : {a e : List ℕ} (i : Indents) → EntriesStay a e → i.depth ≤ entry_words → indents_seen e i ≡ indents_seen a i
entries_seen i w h = rw (w.entries i.depth h)

pub frames_seen : {a e : List ℕ} → FramesStay a e → (text : List ℕ) (count : ℕ) (s : State)
    → state_of text e count s ≡ with_indents (indents_seen e s.indents) (state_of text a count s)
frames_seen w text count s = rw (w.keys (suc s.flow_level), w.levels s.flow_level)
