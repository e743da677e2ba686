-- The loop: the steps that were stored, and what those from here come to, are what all steps come to.
use Prim.Native.Nat.{◌-◌, ◌<◌, ◌≤◌, suc, ℕ}
use mathlib.Core.List.{List, [], ◌++◌, append-nil, map}
use mathlib.Core.Path.{◌∙◌, ◌≡◌, ap, refl}
use native.Mathlib.Omega.{arith}
use lib.Dec.{ltb}
use lib.ListN.{length, replicate, take}
use lib.Seq.{length-take-le, take_all, take_at}
use borrow.Author.Tests.{ltb-false, ltb-true}
use Rattle.yaml_text.specs.declared.Mark.{Mark}
use Rattle.yaml_text.specs.declared.Refusal.{Refusal}
use Rattle.yaml_text.specs.Refusal.{Read, got, refused}
use Rattle.yaml_text.specs.All.{all_got}
use Rattle.yaml_text.specs.PlaceLaws.{left}
use Rattle.yaml_text.specs.Test.{by_pick, by_test}
use Rattle.yaml_scan.specs.declared.Limits.{Limits}
use Rattle.yaml_scan.specs.Choice.{choice}
use Rattle.yaml_scan.specs.State.{Event, News, counting, goes_on, with_indents}
use Rattle.yaml_scan.specs.State as definition
use Rattle.yaml_scan.specs.Scan.{step, unrolled}
use Rattle.yaml_scan.proofs.Runs.{step_news}
use Rattle.yaml_stream.proofs.Alone.{step_last}
use Rattle.yaml_stream.specs.Stream.{counted_from}
use Rattle.chars.specs.View.{view}
use Rattle.rooms.specs.Room.{cleared}
use Rattle.events.specs.declared.Counts.{Counts}
use Rattle.events.specs.Event.{laid_events}
use Rattle.stacks.specs.Frame.{levels_length}
use Rattle.stacks.specs.Stack.{stack_words}
use Rattle.states.specs.declared.State.{State}
use Rattle.states.specs.Refused.{has_text}
use Rattle.states.specs.State.{state_of}
use Rattle.sink.specs.EventsStored.{store_events, store_laid}
use Rattle.sink.specs.Stored.{Stored, stored_then}
use Rattle.storing.specs.Step.{StepGiven, StepRefused, events_of, way_left}
use Rattle.driver.specs.declared.Stepped.TheVariants.{On, Refused}
use Rattle.stream_laws.specs.declared.Pending.{Pending}
use Rattle.stream_laws.specs.Driven.{Driven, Test, after_halt, behind_events, counts_after, driven}
use Rattle.driver.specs.Step.{StepDone}
use Rattle.driver.proofs.Driven.{behind_halt, counts_are, driven_enough}

-- a step that is refused stores nothing

pub nothing_stored : (base : ℕ) (l : List ℕ) (slot used : ℕ) {d : Read News} {k : ℕ} {m : Mark} → d ≡ refused k m → l ≡ store_events l slot used (map (counted_from base) (events_of d))
unfolding events_of store_laid laid_events
nothing_stored base l slot used i = rw i

pub refused_done : {limits : Limits} {text e : List ℕ} {d : Read News} {base : ℕ} {n : Counts} (l : List ℕ) {b z b' : List ℕ} {f : Refusal} → length e ≡ stack_words → StepRefused d z b' f
    → StepDone limits text e d base n l b z l b' (Refused f)
refused_done {base = base} {n = n} l long h = record { answers = h; kept = long; words = nothing_stored base l (n.count - base) n.used h.same }

-- and of the lent bytes those used before stay then

cleared_front : (l : List ℕ) (n : ℕ) → take n (cleared l n) ≡ take n l
cleared_front l n =
    by_test (ltb (length l) n)
    (λ q.
    let i = ltb-true (length l) n q in
    let e : length l - n ≡ 0 = omega arith in
    let f = take_all n l (omega arith) in
    rw (e, f) (take_append_nil l n ∙ f))
    (λ q. take_at (take n l) (replicate (length l - n) 0) n (length-take-le n l (ltb-false (length l) n q)))
  where
    take_append_nil : (l : List ℕ) (k : ℕ) → take k (l ++ []) ≡ take k l
    take_append_nil l k = rw (append-nil l)

pub left_front : (d : Read definition.State) (b : List ℕ) (used : ℕ) → take used (way_left d b used) ≡ take used b
unfolding way_left
left_front (refused n m) b used = refl
left_front (got x) b used =
    by_pick (λ (z : List ℕ). take used z ≡ take used b) (has_text (choice (counting (unrolled x).ended (with_indents (unrolled x).indents x)))) (cleared b used) b (cleared_front b used) refl

-- the flow level is how many levels the definition sees

-- one step of those

step_driven : (limits : Limits) (test : Test) (k : ℕ) (w : Pending) (s : definition.State) (n : Counts) {es : List Event} {y : definition.State} {m : Counts}
    → step limits s ≡ got (goes_on es y) → m ≡ counts_after n es
    → driven limits test (suc k) w s n ≡ after_halt (test w (length s.levels) y m) es w y m (λ v t j. driven limits test k v t j)
unfolding driven
step_driven limits test k w s n same e = rw (same, e)

module _ (limits : Limits) (text : List ℕ) (test : Test) where
  -- with so much of a budget as there are characters left, and one more
  abbrev pub all_driven : Pending → definition.State → Counts → Driven
  all_driven w s n = driven limits test (suc (left s.place)) w s n

  -- all steps, which come to d, are those that were stored, and those from t with its stacks, where w is pending
  pub record Driving (d : Driven) (base : ℕ) (n₀ : Counts) (l₀ b₀ : List ℕ) (w : Pending) (stacks l b : List ℕ) (t : State) (n : Counts) : Type 0 where
    pub said : List Event
    pub whole : d ≡ behind_events said (all_driven w (state_of text stacks n.count t) n)
    pub stored : Stored base n₀ n l₀ b₀ l b said
    pub given : StepGiven limits text stacks t n

  -- and the test behind the last of them, which was made from that flow level, is still to be asked
  pub record Halting (d : Driven) (base : ℕ) (n₀ : Counts) (l₀ b₀ : List ℕ) (w : Pending) (level : ℕ) (stacks l b : List ℕ) (t : State) (n : Counts) : Type 0 where
    pub said : List Event
    pub whole : d ≡ after_halt (test w level (state_of text stacks n.count t) n) said w (state_of text stacks n.count t) n all_driven
    pub stored : Stored base n₀ n l₀ b₀ l b said
    pub given : StepGiven limits text stacks t n
    pub more : base < n.count

  module _ {d : Driven} {base : ℕ} {n₀ : Counts} {l₀ b₀ : List ℕ} {w : Pending} {stacks l b : List ℕ} {t : State} {n : Counts} (low : base ≤ n₀.count)
      (g : Driving d base n₀ l₀ b₀ w stacks l b t n) where
    abbrev x : definition.State
    x = state_of text stacks n.count t

    pub driving_low : base ≤ n.count
    driving_low = omega (arith, g.stored.counts)

    -- one step more
    pub driving_on : {e z l' b' : List ℕ} {u : State} {m : Counts} → StepDone limits text e (step limits x) base n l b z l' b' (On u m)
        → Halting d base n₀ l₀ b₀ w t.flow_level e l' b' u m
    driving_on {e} {l' = l'} {b'} {u} {m} q =
        let a = q.answers in
        by_events (events_of (step limits x)) a.same (record { words = q.words; bytes = a.bytes; counts = a.counts }) a.given
      where
        by_events : (es : List Event) → step limits x ≡ got (goes_on es (state_of text e m.count u)) → Stored base n m l b l' b' es → StepGiven limits text e u m
            → Halting d base n₀ l₀ b₀ w t.flow_level e l' b' u m
        by_events es same stored given =
            let y = state_of text e m.count u in
            let less = (all_got (step_news [] limits x) same).takes in
            let last = all_got (step_last 0 limits x) same in
            record {
              said = g.said ++ es;
              whole =
                  g.whole ∙ ap (λ (o : Driven). behind_events g.said o) (step_driven limits test (left (view text t.place)) w x n same (counts_are stored.counts))
                  ∙ behind_halt (test w (length x.levels) y m) g.said es w y m (λ v u j. driven limits test (left (view text t.place)) v u j) all_driven (λ v. driven_enough limits test (left (view text t.place)) v y m less)
                  ∙ ap (λ (k : ℕ). after_halt (test w k y m) (g.said ++ es) w y m all_driven) (levels_length stacks t.flow_level);
              stored = stored_then low g.stored stored;
              given = given;
              more = omega (arith, driving_low, last.1.numbered, last.2);
            }

    -- what is left of the text falls
    pub driving_less : {e z l' b' : List ℕ} {u : State} {m : Counts} → StepDone limits text e (step limits x) base n l b z l' b' (On u m)
        → left (view text u.place) < left (view text t.place)
    driving_less q = (all_got (step_news [] limits x) q.answers.same).takes
