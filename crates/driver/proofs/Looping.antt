-- The loop's turns: from where it stands a step is made, then it is asked whether to go on; each of the ways out is one of its contract's.
use Prim.Native.Nat.{◌+◌, ◌<◌, ◌^◌, ◌≤◌, suc, ℕ}
use mathlib.Core.Bool.{Bool}
use mathlib.Core.List.{List, [], ◌++◌}
use mathlib.Core.Path.{◌∙◌, ◌≡◌, ap, refl, sym}
use Rattle.std.specs.Prelude.{Ok, Err}
use native.Mathlib.Omega.{arith}
use lib.ListN.{drop, length}
use lib.Seq.{drop_at, length_front, length-take-le, take_at}
use Rattle.yaml_text.specs.declared.Refusal.{Refusal}
use Rattle.yaml_text.specs.PlaceLaws.{left}
use Rattle.yaml_scan.specs.declared.Limits.{Limits}
use Rattle.yaml_scan.specs.State.{Event}
use Rattle.yaml_scan.specs.Scan.{step}
use Rattle.chars.specs.View.{view}
use Rattle.stacks.specs.Frame.{frame_keys, levels_length}
use Rattle.stacks.specs.Most.{at_most, at_most_fits}
use Rattle.stacks.specs.Stack.{stack_words}
use Rattle.events.specs.declared.Counts.{Counts}
use Rattle.states.specs.declared.State.{State}
use Rattle.states.specs.State.{state_of}
use Rattle.sink.specs.Stored.{CountsBehind, stored_none}
use Rattle.storing.specs.Step.{StepGiven, step_left}
use Rattle.driver.specs.declared.Outcome.TheVariants.{Ready, Scanned}
use Rattle.driver.specs.declared.Stepped.TheVariants.{Ends, On, Refused}
use Rattle.stream_laws.specs.declared.Pending.{Pending}
use Rattle.stream_laws.specs.Driven.{Halt, go_on, noted, pause, refuse, test_of}
use Rattle.driver.specs.Drives.{Drives, drives}
use Rattle.driver.specs.Held.{Modest, base_at, counts_held, held_words, level_at, pending_held, put_counts, put_pending, put_state, put_until, stacks_held, state_held, word}
use Rattle.driver.specs.Step.{StepDone}
use Rattle.driver.proofs.Words.{held_given}
use Rattle.driver.proofs.Halts.{Fits, HaltFits, test_fits}
use Rattle.driver.proofs.Driven.{behind_none, counts_are}
use Rattle.driver.proofs.Driving.{Driving, Halting, all_driven, driving_less, driving_low, driving_on}
use Rattle.driver.proofs.Leaving.{LengthsKept, Loaded, driving_ends, driving_stops, drives_ready, drives_scanned, drives_stopped, halting_asks, halting_fits, halting_on, halting_pauses, halting_stops, loaded_drives, test_at}

-- where the loop stands
pub record Looping (limits : Limits) (one : Bool) (text h₀ l₀ b₀ : List ℕ) (base : ℕ) (s₀ : State) (n₀ : Counts) (w₀ : Pending) (h l b : List ℕ) (t : State) (n : Counts) (w : Pending) : Type 0 where
  pub kept : LengthsKept h₀ l₀ b₀ h l b
  pub long : length h ≡ held_words
  pub loaded : Loaded limits text h₀ s₀ n₀ base w₀
  pub low : base ≤ n₀.count
  pub fits : Fits base n w
  pub driving : Driving limits text (test_at one (length b₀) base) (drives limits one text (length b₀) h₀) base n₀ l₀ b₀ w (stacks_held h) l b t n

-- behind a step that was made from that flow level
pub record Asking (limits : Limits) (one : Bool) (text h₀ l₀ b₀ : List ℕ) (base : ℕ) (s₀ : State) (n₀ : Counts) (w₀ : Pending) (level : ℕ) (h l b : List ℕ) (t : State) (n : Counts) (w : Pending) : Type 0 where
  pub kept : LengthsKept h₀ l₀ b₀ h l b
  pub long : length h ≡ held_words
  pub loaded : Loaded limits text h₀ s₀ n₀ base w₀
  pub low : base ≤ n₀.count
  pub fits : Fits base n w
  pub level_low : level ≤ 255
  pub halting : Halting limits text (test_at one (length b₀) base) (drives limits one text (length b₀) h₀) base n₀ l₀ b₀ w level (stacks_held h) l b t n

module _ {limits : Limits} (text : List ℕ) (modest : Modest limits) (short : length text ≤ 1_048_576) (one : Bool) (h l b : List ℕ) (long : length h ≡ held_words)
    {s : State} {n : Counts} {base : ℕ} {w : Pending} (state_is : s ≡ state_held limits text h) (counts_is : n ≡ counts_held text h)
    (base_is : base ≡ at_most n.count (word h base_at)) (pending_is : w ≡ pending_held h base n) where
  start_loaded : Loaded limits text h s n base w
  start_loaded = record { state_is = state_is; counts_is = counts_is; base_is = rw counts_is at base_is; pending_is = pending_is }

  start_given : StepGiven limits text (stacks_held h) s n
  start_given = rw (state_is, counts_is) (held_given h modest short long)

  start_low : base ≤ n.count
  start_low = rw base_is (at_most_fits n.count (word h base_at))

  start_fits : Fits base n w
  start_fits = rw pending_is (record { least = omega arith; within = start_low; low = at_most_fits 255 (word h level_at); fewer = omega arith })

  pub looping_start : Looping limits one text h l b base s n w h l b s n w
  looping_start =
      record {
        kept = record { behind_kept = refl; held_kept = refl; words_kept = refl; bytes_kept = refl };
        long = long;
        loaded = start_loaded;
        low = start_low;
        fits = start_fits;
        driving = record {
          said = [];
          whole = loaded_drives one (length b) h start_loaded ∙ behind_none (all_driven limits text (test_at one (length b) base) w (state_of text (stacks_held h) n.count s) n);
          stored = stored_none base n l b;
          given = start_given;
        };
      }

fits_more : {base : ℕ} {n m : Counts} {w : Pending} {es : List Event} → Fits base n w → CountsBehind n m es → Fits base m w
fits_more {n = n} {m} {es = es} f c =
    let p : m.put_in ≡ n.put_in + noted es = ap (λ (k : Counts). k.put_in) (counts_are c) in
    record { least = f.least; within = omega (arith, f.within, c.count); low = f.low; fewer = omega (arith, f.fewer) }

module _ {limits : Limits} {one : Bool} {text h₀ l₀ b₀ : List ℕ} {base : ℕ} {s₀ : State} {n₀ : Counts} {w₀ : Pending} {h l b : List ℕ} {t : State} {n : Counts} {w : Pending}
    (i : Looping limits one text h₀ l₀ b₀ base s₀ n₀ w₀ h l b t n w) where
  -- what a step asks for
  pub looping_gives : StepGiven limits text (stacks_held h) t n × (base ≤ n.count)
  looping_gives = (i.driving.given, driving_low limits text (test_at one (length b₀) base) i.low i.driving)

  -- what is left of the text falls; v: the state behind the step, put together anew
  pub looping_less : {e z l' b' : List ℕ} {u v : State} {m : Counts} → v ≡ u → StepDone limits text e (step limits (state_of text (stacks_held h) n.count t)) base n l b z l' b' (On u m)
      → left (view text v.place) < left (view text t.place)
  looping_less e q = rw e (driving_less limits text (test_at one (length b₀) base) i.low i.driving q)

module _ {limits : Limits} {one : Bool} {text h₀ l₀ b₀ : List ℕ} {base : ℕ} {s₀ : State} {n₀ : Counts} {w₀ : Pending} {h l b : List ℕ} {t : State} {n : Counts} {w : Pending}
    (i : Looping limits one text h₀ l₀ b₀ base s₀ n₀ w₀ h l b t n w) (e : List ℕ) where
  -- the stacks came back as e
  abbrev after : List ℕ
  after = e ++ drop stack_words h

  after_length : length e ≡ stack_words → length after ≡ length h
  after_length long = length_front h e stack_words (long ∙ sym (length-take-le stack_words h (omega (arith, i.long))))

  kept_on : {l' b' : List ℕ} → length e ≡ stack_words → length l' ≡ length l → length b' ≡ length b → LengthsKept h₀ l₀ b₀ after l' b'
  kept_on long p q =
      record {
        behind_kept = drop_at e (drop stack_words h) stack_words long ∙ i.kept.behind_kept;
        held_kept = after_length long ∙ i.kept.held_kept;
        words_kept = p ∙ i.kept.words_kept;
        bytes_kept = q ∙ i.kept.bytes_kept;
      }

  module _ {l' b' : List ℕ} (p : length l' ≡ length l) (q : length b' ≡ length b) where
    pub looping_asks : {z : List ℕ} {u v : State} {m : Counts} → v ≡ u → StepDone limits text e (step limits (state_of text (stacks_held h) n.count t)) base n l b z l' b' (On u m)
        → Asking limits one text h₀ l₀ b₀ base s₀ n₀ w₀ t.flow_level after l' b' v m w
    looping_asks anew d =
        let r = i.driving.given.ready in
        rw anew
        (record {
          kept = kept_on d.kept p q;
          long = after_length d.kept ∙ i.long;
          loaded = i.loaded;
          low = i.low;
          fits = fits_more i.fits d.answers.counts;
          level_low = omega (arith, r.deep, r.lent);
          halting = rw (take_at e (drop stack_words h) stack_words d.kept) (driving_on limits text (test_at one (length b₀) base) i.low i.driving d);
        })

    pub looping_ends : {z : List ℕ} {m : Counts} → StepDone limits text e (step limits (state_of text (stacks_held h) n.count t)) base n l b z l' b' (Ends m)
        → Drives limits one text h₀ l₀ b₀ after l' b' (Ok (Scanned m))
    looping_ends d = drives_scanned one h₀ l₀ b₀ after l' b' i.loaded (kept_on d.kept p q) (driving_ends i.low i.driving d)

    pub looping_stops : {h' : List ℕ} {f : Refusal} → h' ≡ put_until after base w
        → StepDone limits text e (step limits (state_of text (stacks_held h) n.count t)) base n l b (step_left (state_of text (stacks_held h) n.count t) b n.used) l' b' (Refused f)
        → Drives limits one text h₀ l₀ b₀ h' l' b' (Err f)
    looping_stops {h'} held d = drives_stopped one h₀ l₀ b₀ h' l' b' i.loaded (driving_stops i.low i.driving (kept_on d.kept p q) held d)

module _ {limits : Limits} {one : Bool} {text h₀ l₀ b₀ : List ℕ} {base : ℕ} {s₀ : State} {n₀ : Counts} {w₀ : Pending} {level : ℕ} {h l b : List ℕ} {t : State} {n : Counts} {w : Pending}
    (a : Asking limits one text h₀ l₀ b₀ base s₀ n₀ w₀ level h l b t n w) where
  -- what the code's test says
  abbrev says : Halt
  says = test_of one (length b) base w level (frame_keys (stacks_held h) (suc t.flow_level)) t.flow_level t.place.mark n

  as_seen : {x : Halt} → x ≡ says → x ≡ test_at one (length b₀) base w level (state_of text (stacks_held h) n.count t) n
  as_seen q = q ∙ rw (levels_length (stacks_held h) t.flow_level, a.kept.bytes_kept)

  says_fits : {x : Halt} → x ≡ says → HaltFits base n x
  says_fits q =
      rw q
      (test_fits base n a.halting.more one (length b) w level (frame_keys (stacks_held h) (suc t.flow_level)) t.flow_level t.place.mark a.fits a.level_low
      (halting_fits a.low a.halting).2)

  -- what the test asks for
  pub asking_asks : (w.level ≤ 255) × (level ≤ 255) × (base < n.count) × (w.number ≤ n.count) × (w.put_in ≤ n.put_in) × (n.count + n.put_in < 2 ^ 32)
  asking_asks = halting_asks a.low a.halting a.fits a.level_low

  -- and holding where it ends
  pub asking_holds : {v : Pending} → pause v ≡ says
      → (t.place.at < 2 ^ 32) × (t.indents.depth < 2 ^ 32) × (t.flow_level < 2 ^ 32) × (v.level < 2 ^ 32) × (base ≤ v.number)
  asking_holds q =
      let f = halting_fits a.low a.halting in
      let g = says_fits q in
      (f.0, f.1, omega (arith, f.2), omega (arith, g.low), g.least)

  pub asking_on : {v : Pending} → go_on v ≡ says → Looping limits one text h₀ l₀ b₀ base s₀ n₀ w₀ h l b t n v
  asking_on q =
      record { kept = a.kept; long = a.long; loaded = a.loaded; low = a.low; fits = says_fits q; driving = halting_on a.low a.halting (as_seen q) }

  pub asking_stops : {h' : List ℕ} {f : Refusal} → h' ≡ put_until h base w → refuse f.number f.mark ≡ says → Drives limits one text h₀ l₀ b₀ h' l b (Err f)
  asking_stops {h'} held q = drives_stopped one h₀ l₀ b₀ h' l b a.loaded (halting_stops a.low a.halting a.kept held (as_seen q))

  pub asking_pauses : {h' : List ℕ} {v : Pending} → h' ≡ put_pending (put_counts (put_state h t) n) base v → pause v ≡ says → Drives limits one text h₀ l₀ b₀ h' l b (Ok Ready)
  asking_pauses {h'} held q =
      drives_ready one h₀ l₀ b₀ h' l b a.loaded
      (halting_pauses a.low a.halting h refl a.kept.behind_kept (length-take-le stack_words h (omega (arith, a.long))) (says_fits q).low held (as_seen q))
