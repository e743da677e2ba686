-- Laws of the candidate: when it is required, when it is stale, how it is saved and how it goes. Its frame is stored, and the rest stays.
use Prim.Native.Nat.{◌+◌, ◌-◌, ◌<◌, ◌≤◌, ℕ}
use Rattle.std.specs.Prelude.{Ok, Err}
use mathlib.Core.Bool.{Bool, false, true}
use mathlib.Core.List.{List, ◌∷◌}
use mathlib.Core.Path.{◌∙◌, ◌≡◌, ap, sym}
use native.Mathlib.Omega.{arith}
use lib.Dec.{ltb}
use borrow.Author.Tests.{eq-eqb, le-ltb, lt-ltb, ltb-false, ltb-true, ne_eqb}
use Rattle.yaml_text.specs.declared.Mark.{Mark}
use Rattle.yaml_text.specs.Refusal.{◌>>=◌, got, need}
use Rattle.yaml_text.specs.Test.{by_test}
use Rattle.yaml_scan.specs.declared.Candidate.{Candidate}
use Rattle.yaml_scan.specs.declared.Candidate.TheVariants.{Absent, Possible}
use Rattle.yaml_scan.specs.Indent.{top_ends}
use Rattle.yaml_scan.specs.Keys.{lapse, stale, top_key}
use Rattle.yaml_scan.specs.State.{lapse_key, remove_key, save_key, with_keys}
use Rattle.stacks.specs.Stack.{entry_words}
use Rattle.stacks.specs.Frame.{SetsKey, frame_keys, key_of}
use Rattle.stacks.specs.Indent.{entries_of}
use Rattle.stacks.proofs.Entries.{entries_stay_same}
use Rattle.states.specs.declared.State.{State}
use Rattle.states.specs.State.{required_of, state_of}
use Rattle.states.specs.Seen.{in_flow_seen}
use Rattle.states.specs.Key.{Lapses, Removes, Saves, lapsed_seen, lapsed_words, lapses_at, removed_words, saved_words}

-- a candidate's age

module _ (k m : Mark) where
  pub stale_line : k.line < m.line → true ≡ stale k m
  unfolding stale
  stale_line h = rw (lt-ltb k.line m.line h)

  pub stale_none : m.line ≤ k.line → m.index < k.index → false ≡ stale k m
  unfolding stale
  stale_none h i = rw (le-ltb k.line m.line h, le-ltb (k.index + 1024) m.index (omega arith))

  pub stale_by : m.line ≤ k.line → k.index ≤ m.index → ltb 1024 (m.index - k.index) ≡ stale k m
  unfolding stale
  stale_by h i =
      rw (le-ltb k.line m.line h)
      (by_test (ltb 1024 (m.index - k.index))
      (λ e. let l = ltb-true 1024 (m.index - k.index) e in e ∙ sym (lt-ltb (k.index + 1024) m.index (omega arith)))
      (λ e. let l = ltb-false 1024 (m.index - k.index) e in e ∙ sym (le-ltb (k.index + 1024) m.index (omega arith))))

-- a candidate here

module _ (stacks : List ℕ) (s : State) where
  pub required_flow : 0 < s.flow_level → false ≡ required_of stacks s
  unfolding required_of
  required_flow h = rw (lt-ltb 0 s.flow_level h)

  pub required_apart : s.flow_level ≤ 0 → (s.indents.indent ≡ s.place.mark.col + 1 → ⊥) → false ≡ required_of stacks s
  unfolding required_of
  required_apart h n = rw (le-ltb 0 s.flow_level h, ne_eqb s.indents.indent (s.place.mark.col + 1) n)

  pub required_by : s.flow_level ≤ 0 → s.indents.indent ≡ s.place.mark.col + 1 → top_ends (entries_of stacks s.indents.depth) ≡ required_of stacks s
  unfolding required_of
  required_by h e = rw (le-ltb 0 s.flow_level h, eq-eqb s.indents.indent (s.place.mark.col + 1) e)

-- another candidate in the frame is another one in the state

pub key_seen : {a e : List ℕ} {k : Candidate} (s : State) → SetsKey a e s.flow_level k → s.indents.depth ≤ entry_words → (text : List ℕ) (count : ℕ)
    → state_of text e count s ≡ with_keys (k ∷ frame_keys a s.flow_level) (state_of text a count s)
key_seen s w h text count = rw (w.keys, w.levels s.flow_level, w.entries.entries s.indents.depth h)

-- it is saved

module _ (a : List ℕ) (count : ℕ) (s : State) where
  pub saves_allowed : {e : List ℕ} {b : Bool} → s.indents.depth ≤ entry_words → s.simple_key_allowed ≡ true → b ≡ required_of a s
      → SetsKey a e s.flow_level (Possible b count s.place.mark) → Saves a e count s
  unfolding saved_words save_key required_of frame_keys
  saves_allowed h t f w =
      record {
        words = w.words ∙ rw (t, f);
        same = λ text. key_seen s w h text count ∙ rw (in_flow_seen text a count s, f, t);
        entries = w.entries;
      }

  pub saves_not : s.simple_key_allowed ≡ false → Saves a a count s
  unfolding saved_words save_key
  saves_not t = record { words = rw t; same = λ text. rw t; entries = entries_stay_same a }

-- it goes

module _ (a : List ℕ) (s : State) where
  pub removes : {e : List ℕ} → s.indents.depth ≤ entry_words → SetsKey a e s.flow_level Absent → Removes a e s
  unfolding removed_words remove_key frame_keys
  removes h w = record { words = w.words; same = λ text count. key_seen s w h text count; sets = w }

  pub lapses_flow : 0 < s.flow_level → Lapses a a s (Ok tt)
  unfolding lapsed_words lapsed_seen lapse_key
  lapses_flow h =
      let t = lt-ltb 0 s.flow_level h in
      record {
        words = rw t;
        same = λ text count. rw (in_flow_seen text a count s, t, lapse_key);
        entries = entries_stay_same a;
      }

  module _ (h : s.flow_level ≤ 0) where
    outside : (text : List ℕ) (count : ℕ) → lapse_key (state_of text a count s)
        ≡ lapse s.place.mark (key_of a s.flow_level) >>= λ k. got (with_keys (k ∷ frame_keys a s.flow_level) (state_of text a count s))
    unfolding lapse_key top_key frame_keys
    outside text count = rw (in_flow_seen text a count s, le-ltb 0 s.flow_level h, lapse_key)

    stays : lapses_at s.place.mark (key_of a s.flow_level) ≡ false → lapse s.place.mark (key_of a s.flow_level) ≡ got (key_of a s.flow_level)
        → Lapses a a s (Ok tt)
    unfolding lapsed_words lapsed_seen frame_keys ◌>>=◌
    stays t f =
        record {
          words = rw (le-ltb 0 s.flow_level h, t);
          same = λ text count. sym (outside text count ∙ rw f);
          entries = entries_stay_same a;
        }

    pub lapses_none : key_of a s.flow_level ≡ Absent → Lapses a a s (Ok tt)
    unfolding lapses_at lapse
    lapses_none f = stays (rw f) (rw f)

    module _ (required : Bool) (n : ℕ) (k : Mark) (f : key_of a s.flow_level ≡ Possible required n k) where
      pub lapses_fresh : stale k s.place.mark ≡ false → Lapses a a s (Ok tt)
      unfolding lapses_at lapse
      lapses_fresh t = stays (rw (f, t)) (rw (f, lapse, t))

      module _ (t : stale k s.place.mark ≡ true) where
        pub lapses_refused : required ≡ true → Lapses a a s (Err (record { number = 41; mark = s.place.mark }))
        unfolding lapsed_words lapses_at lapsed_seen lapse need ◌>>=◌
        lapses_refused q =
            record {
              words = rw (le-ltb 0 s.flow_level h, f, t, q);
              same = λ text count. sym (outside text count ∙ rw (f, lapse, t, q));
              entries = entries_stay_same a;
            }

        pub lapses_stale : {e : List ℕ} → required ≡ false → Removes a e s → Lapses a e s (Ok tt)
        unfolding lapsed_words lapses_at lapsed_seen lapse need remove_key frame_keys ◌>>=◌
        lapses_stale q w =
            record {
              words = w.words ∙ rw (le-ltb 0 s.flow_level h, f, t, q);
              same = λ text count. sym (outside text count ∙ rw (f, lapse, t, q) (sym (ap got (w.same text count))));
              entries = w.sets.entries;
            }
