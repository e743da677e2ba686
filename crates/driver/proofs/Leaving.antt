-- Where the loop is left: what was stored and what is held then is what its contract says.
use Prim.Native.Nat.{◌+◌, ◌-◌, ◌<◌, ◌^◌, ◌≤◌, ℕ}
use mathlib.Core.Bool.{Bool}
use mathlib.Core.List.{List, ◌++◌, append-nil}
use mathlib.Core.Path.{◌∙◌, ◌≡◌, ap, refl, sym}
use Rattle.std.specs.Prelude.{Ok, Err}
use native.Mathlib.Omega.{arith}
use lib.ListN.{drop, length, length-set, set, take, take-append-drop}
use lib.Seq.{drop-set-add}
use Rattle.yaml_text.specs.declared.Refusal.{Refusal}
use Rattle.yaml_text.specs.Refusal.{got, refused}
use Rattle.yaml_scan.specs.declared.Limits.{Limits}
use Rattle.yaml_scan.specs.State.{Event, ends_with}
use Rattle.yaml_scan.specs.State as definition
use Rattle.yaml_scan.specs.Scan.{step, to_next_token}
use Rattle.stacks.specs.Stack.{stack_words}
use Rattle.events.specs.declared.Counts.{Counts}
use Rattle.states.specs.declared.State.{State}
use Rattle.states.specs.State.{state_of}
use Rattle.sink.specs.Stored.{CountsWithin, Stored, stored_then}
use Rattle.storing.specs.Step.{events_of, step_left}
use Rattle.driver.specs.declared.Outcome.TheVariants.{Ready, Scanned}
use Rattle.driver.specs.declared.Stepped.TheVariants.{Ends, Refused}
use Rattle.stream_laws.specs.declared.Pending.{Pending}
use Rattle.stream_laws.specs.Driven.{Driven, Test, behind_events, driven, go_on, pause, refuse, stops, test_of}
use Rattle.driver.specs.Drives.{Drives, EndsAs, PausesAs, StopsAs, base_held, drives}
use Rattle.driver.specs.Held.{counts_held, pending_held, put_counts, put_pending, put_state, put_until, stacks_held, state_held, until_at}
use Rattle.driver.specs.Step.{StepDone}
use Rattle.driver.proofs.Halts.{Fits}
use Rattle.driver.proofs.Driving.{Driving, Halting, all_driven, left_front, nothing_stored}

-- what was loaded
pub record Loaded (limits : Limits) (text h : List ℕ) (s : State) (n : Counts) (base : ℕ) (w : Pending) : Type 0 where
  pub state_is : s ≡ state_held limits text h
  pub counts_is : n ≡ counts_held text h
  pub base_is : base ≡ base_held text h
  pub pending_is : w ≡ pending_held h base n

abbrev pub test_at : Bool → ℕ → ℕ → Test
test_at one room base w level t m = test_of one room base w level t.keys (length t.levels) (definition.mark_of t) m

pub loaded_drives : {limits : Limits} {text : List ℕ} {s : State} {n : Counts} {base : ℕ} {w : Pending} (one : Bool) (room : ℕ) (h : List ℕ) → Loaded limits text h s n base w
    → drives limits one text room h ≡ all_driven limits text (test_at one room base) w (state_of text (stacks_held h) n.count s) n
loaded_drives one room h k = rw (k.pending_is, k.state_is, k.base_is, k.counts_is)

-- the words held behind the stacks stay, and all lengths
pub record LengthsKept (h₀ l₀ b₀ h l b : List ℕ) : Type 0 where
  pub behind_kept : drop stack_words h ≡ drop stack_words h₀
  pub held_kept : length h ≡ length h₀
  pub words_kept : length l ≡ length l₀
  pub bytes_kept : length b ≡ length b₀

-- up to where tokens can be given is held behind the stacks

until_behind : (h : List ℕ) (base : ℕ) (w : Pending) → drop stack_words (put_until h base w) ≡ set (drop stack_words h) 3 (w.number - base)
until_behind h base w = drop-set-add stack_words h 3 (w.number - base)

until_held : (h₀ h : List ℕ) (base : ℕ) (w : Pending) → drop stack_words h ≡ drop stack_words h₀ → drop stack_words (put_until h base w) ≡ drop stack_words (put_until h₀ base w)
until_held h₀ h base w e = until_behind h base w ∙ ap (λ (z : List ℕ). set z 3 (w.number - base)) e ∙ sym (until_behind h₀ base w)

-- a refusal behind steps that are stored: the bytes used then stay
stops_as : {d : Driven} {base : ℕ} {n₀ n : Counts} {l₀ b₀ h₀ h h' l b b' : List ℕ} {w : Pending} {es : List Event} {f : Refusal} → d ≡ stops es w f.number f.mark
    → Stored base n₀ n l₀ b₀ l b es → take n.used b' ≡ take n.used b → LengthsKept h₀ l₀ b₀ h l b' → h' ≡ put_until h base w → StopsAs d base n₀ f h₀ l₀ b₀ h' l b'
stops_as {base = base} {n = n} {h₀ = h₀} {h} {b = b} {w = w} {es} same stored texts k held =
    record {
      said = es;
      pending = w;
      counts = n;
      bytes = b;
      same = same;
      stored = stored;
      texts = texts;
      held = ap (λ (z : List ℕ). drop stack_words z) held ∙ until_held h₀ h base w k.behind_kept;
      held_length = ap length held ∙ length-set h until_at (w.number - base) ∙ k.held_kept;
      words_length = k.words_kept;
      bytes_length = k.bytes_kept;
    }

module _ {limits : Limits} {text : List ℕ} {test : Test} {d : Driven} {base : ℕ} {n₀ : Counts} {l₀ b₀ : List ℕ} (low : base ≤ n₀.count) {w : Pending} where
  -- in a step

  module _ {stacks l b : List ℕ} {t : State} {n : Counts} (g : Driving limits text test d base n₀ l₀ b₀ w stacks l b t n) where
    abbrev x : definition.State
    x = state_of text stacks n.count t

    pub driving_ends : {e z l' b' : List ℕ} {m : Counts} → StepDone limits text e (step limits x) base n l b z l' b' (Ends m) → EndsAs d base n₀ m l₀ b₀ l' b'
    unfolding driven
    driving_ends {l' = l'} {b' = b'} {m} q =
        let a = q.answers in
        by_events (events_of (step limits x)) a.same (record { words = q.words; bytes = a.bytes; counts = a.counts }) a.few
      where
        by_events : (es : List Event) → step limits x ≡ got (ends_with es) → Stored base n m l b l' b' es → CountsWithin m 1_048_577 → EndsAs d base n₀ m l₀ b₀ l' b'
        by_events es same stored few = record { said = g.said ++ es; same = g.whole ∙ rw same; stored = stored_then low g.stored stored; few = few }

    pub driving_stops : {e l' b' h₀ h h' : List ℕ} {f : Refusal} → LengthsKept h₀ l₀ b₀ h l' b' → h' ≡ put_until h base w
        → StepDone limits text e (step limits x) base n l b (step_left x b n.used) l' b' (Refused f) → StopsAs d base n₀ f h₀ l₀ b₀ h' l' b'
    unfolding driven
    driving_stops {l' = l'} {f = f} k held q =
        let a = q.answers in
        let e : l' ≡ l = q.words ∙ sym (nothing_stored base l (n.count - base) n.used a.same) in
        stops_as {n = n} {b = b} {w = w} (g.whole ∙ by_step a.same) (rw e g.stored) (ap (λ (z : List ℕ). take n.used z) a.bytes ∙ left_front (to_next_token x) b n.used) k held
      where
        by_step : step limits x ≡ refused f.number f.mark → behind_events g.said (all_driven limits text test w x n) ≡ stops g.said w f.number f.mark
        by_step same = rw same (ap (λ (es : List Event). stops es w f.number f.mark) (append-nil g.said))

  -- behind one

  module _ {level : ℕ} {stacks l b : List ℕ} {t : State} {n : Counts} (a : Halting limits text test d base n₀ l₀ b₀ w level stacks l b t n) where
    abbrev y : definition.State
    y = state_of text stacks n.count t

    -- what the test asks for
    pub halting_asks : Fits base n w → level ≤ 255
        → (w.level ≤ 255) × (level ≤ 255) × (base < n.count) × (w.number ≤ n.count) × (w.put_in ≤ n.put_in) × (n.count + n.put_in < 2 ^ 32)
    halting_asks f h =
        let g = a.given in
        (f.low, h, a.more, f.within, f.fewer, omega (arith, g.few, g.short, g.ready.stands))

    -- and what holding the state asks for
    pub halting_fits : (t.place.at < 2 ^ 32) × (t.indents.depth < 2 ^ 32) × (t.flow_level ≤ 255)
    halting_fits =
        let g = a.given in
        let r = g.ready in
        (omega (arith, g.short, r.stands), omega (arith, r.low, r.lent), omega (arith, r.deep, r.lent))

    pub halting_on : {v : Pending} → go_on v ≡ test w level y n → Driving limits text test d base n₀ l₀ b₀ v stacks l b t n
    halting_on q = record { said = a.said; whole = a.whole ∙ rw (← q); stored = a.stored; given = a.given }

    pub halting_stops : {h₀ h h' : List ℕ} {f : Refusal} → LengthsKept h₀ l₀ b₀ h l b → h' ≡ put_until h base w → refuse f.number f.mark ≡ test w level y n
        → StopsAs d base n₀ f h₀ l₀ b₀ h' l b
    halting_stops k held q = stops_as {n = n} {b = b} {w = w} (a.whole ∙ rw (← q)) a.stored refl k held

    pub halting_pauses : {h₀ h' : List ℕ} {v : Pending} (h : List ℕ) → stacks ≡ stacks_held h → drop stack_words h ≡ drop stack_words h₀ → length stacks ≡ stack_words → v.level ≤ 255
        → h' ≡ put_pending (put_counts (put_state h t) n) base v → pause v ≡ test w level y n → PausesAs limits text d base n₀ h₀ l₀ b₀ h' l b
    halting_pauses {h₀} {v = v} h front behind long low held q =
        record {
          said = a.said;
          pending = v;
          stacks = stacks;
          state = t;
          counts = n;
          same = a.whole ∙ rw (← q);
          stored = a.stored;
          given = a.given;
          kept = long;
          low = low;
          held = held ∙ ap (λ (z : List ℕ). put_pending (put_counts (put_state z t) n) base v) (sym (take-append-drop stack_words h) ∙ joined (sym front) behind);
        }
      where
        joined : take stack_words h ≡ stacks → drop stack_words h ≡ drop stack_words h₀ → take stack_words h ++ drop stack_words h ≡ stacks ++ drop stack_words h₀
        joined e f = rw (e, f)

-- the numbers that were loaded are those that were held

module _ {limits : Limits} (one : Bool) {text : List ℕ} (h l b h' l' b' : List ℕ) {s : State} {n : Counts} {base : ℕ} {w : Pending} (k : Loaded limits text h s n base w) where
  pub drives_scanned : {m : Counts} → LengthsKept h l b h' l' b' → EndsAs (drives limits one text (length b) h) base n m l b l' b' → Drives limits one text h l b h' l' b' (Ok (Scanned m))
  drives_scanned e q = (rw (k.base_is, k.counts_is) at q, e.behind_kept, e.held_kept)

  pub drives_stopped : {f : Refusal} → StopsAs (drives limits one text (length b) h) base n f h l b h' l' b' → Drives limits one text h l b h' l' b' (Err f)
  drives_stopped q = rw (k.base_is, k.counts_is) at q

  pub drives_ready : PausesAs limits text (drives limits one text (length b) h) base n h l b h' l' b' → Drives limits one text h l b h' l' b' (Ok Ready)
  drives_ready q = rw (k.base_is, k.counts_is) at q
