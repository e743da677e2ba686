-- Steps one after the other: more of a budget than characters left changes nothing, since each step takes one.
use Prim.Native.Nat.{◌+◌, ◌<◌, suc, zero, ℕ}
use mathlib.Core.List.{List, [], ◌++◌, ◌∷◌, append_assoc}
use mathlib.Core.Path.{◌∙◌, ◌≡◌, ap, refl, sym}
use native.Mathlib.Nat.{not-suc-le-zero}
use native.Mathlib.Omega.{arith}
use lib.Dec.{ltb}
use lib.ListN.{length}
use borrow.Author.Tests.{ltb-false, ltb-true}
use Rattle.yaml_text.specs.Refusal.{Read, got, refused}
use Rattle.yaml_text.specs.Test.{by_test}
use Rattle.yaml_text.specs.PlaceLaws.{left}
use Rattle.yaml_scan.specs.declared.Limits.{Limits}
use Rattle.yaml_scan.specs.State.{Event, News, State, ends_with, goes_on, put, put_before, puts}
use Rattle.yaml_scan.specs.SlotLaws.{total}
use Rattle.yaml_scan.specs.Scan.{Outcome, after_events, after_step, run, scanned, step, stopped}
use Rattle.yaml_scan.specs.Scan as scans
use Rattle.yaml_scan.specs.Budget.{on_news}
use Rattle.yaml_scan.proofs.Runs.{step_news}
use Rattle.events.specs.declared.Counts.{Counts}
use Rattle.sink.specs.Stored.{CountsBehind}
use Rattle.stream_laws.specs.declared.Pending.{Pending}
use Rattle.stream_laws.specs.Driven.{Driven, Halt, Test, after_halt, after_news, behind_events, counts_after, driven, ends, go_on, noted, pause, pauses, refuse, spent, stops}

pub behind_none : (d : Driven) → d ≡ behind_events [] d
behind_none (ends es) = refl
behind_none (pauses es w t) = refl
behind_none (stops es w k m) = refl
behind_none spent = refl

pub behind_twice : (es fs : List Event) (d : Driven) → behind_events es (behind_events fs d) ≡ behind_events (es ++ fs) d
behind_twice es fs (ends gs) = ap ends (sym (append_assoc es fs gs))
behind_twice es fs (pauses gs w t) = ap (λ (x : List Event). pauses x w t) (sym (append_assoc es fs gs))
behind_twice es fs (stops gs w k m) = ap (λ (x : List Event). stops x w k m) (sym (append_assoc es fs gs))
behind_twice es fs spent = refl

-- events before what is said behind a step; what comes then is the same
pub behind_halt : (x : Halt) (es fs : List Event) (w : Pending) (t : State) (m : Counts) (go on : Pending → State → Counts → Driven) → ((v : Pending) → go v t m ≡ on v t m)
    → behind_events es (after_halt x fs w t m go) ≡ after_halt x (es ++ fs) w t m on
behind_halt (go_on v) es fs w t m go on e = rw (e v) (behind_twice es fs (on v t m))
behind_halt (pause v) es fs w t m go on e = refl
behind_halt (refuse k p) es fs w t m go on e = refl

halt_same : (x : Halt) (es : List Event) (w : Pending) (t : State) (m : Counts) (go on : Pending → State → Counts → Driven) → ((v : Pending) → go v t m ≡ on v t m)
    → after_halt x es w t m go ≡ after_halt x es w t m on
halt_same (go_on v) es w t m go on e = rw (e v)
halt_same (pause v) es w t m go on e = refl
halt_same (refuse k p) es w t m go on e = refl

module _ (limits : Limits) (test : Test) where
  -- one more changes nothing
  driven_stable : (k : ℕ) (w : Pending) (s : State) (n : Counts) → left s.place < k → driven limits test (suc k) w s n ≡ driven limits test k w s n
  unfolding driven
  driven_stable zero w s n h = absurd (not-suc-le-zero h)
  driven_stable (suc k) w s n h =
      on_news
      (λ r. after_news test w (length s.levels) n (λ v t m. driven limits test (suc k) v t m) r ≡ after_news test w (length s.levels) n (λ v t m. driven limits test k v t m) r)
      (step_news [] limits s)
      (λ es t i. halt_same (test w (length s.levels) t (counts_after n es)) es w t (counts_after n es) (λ v u j. driven limits test (suc k) v u j) (λ v u j. driven limits test k v u j) (λ v. driven_stable k v t (counts_after n es) (omega (arith, i.takes))))
      (λ _ _. refl) (λ _ _. refl)

  pub driven_enough : (k : ℕ) (w : Pending) (s : State) (n : Counts) → left s.place < k → driven limits test k w s n ≡ driven limits test (suc (left s.place)) w s n
  driven_enough zero w s n h = absurd (not-suc-le-zero h)
  driven_enough (suc k) w s n h =
      by_test (ltb (left s.place) k)
      (λ e. let i = ltb-true (left s.place) k e in driven_stable k w s n i ∙ driven_enough k w s n i)
      (λ e. let i = ltb-false (left s.place) k e in let j : k ≡ left s.place = omega arith in ap (λ (j : ℕ). driven limits test (suc j) w s n) j)

-- counts

noted_total : (es : List Event) → total es ≡ puts es + noted es
unfolding total puts noted
noted_total [] = refl
noted_total (put t ∷ es) = let e = noted_total es in omega arith
noted_total (put_before k ts ∷ es) = let e = noted_total es in omega arith

-- they are told by the events
pub counts_are : {n m : Counts} {es : List Event} → CountsBehind n m es → m ≡ counts_after n es
counts_are {n} {m} {es} c =
    let e : m.put_in ≡ n.put_in + noted es = omega (arith, c, noted_total es) in
    rw (← c.count, ← e, ← c.used)

-- where nothing is asked behind a step, they come to what the definition's run comes to

-- that is this outcome
abbrev pub AsRun : Driven → Outcome → Type 0
AsRun (ends es) o = o ≡ scanned es
AsRun (pauses es w t) o = ⊥
AsRun (stops es w k m) o = o ≡ stopped k m
AsRun spent o = o ≡ scans.spent

behind_run : (es : List Event) (d : Driven) (o : Outcome) → AsRun d o → AsRun (behind_events es d) (after_events es o)
behind_run es (ends fs) o e = rw e
behind_run es (pauses fs w t) o e = e
behind_run es (stops fs w k m) o e = rw e
behind_run es spent o e = rw e

pub driven_run : (limits : Limits) (k : ℕ) (w : Pending) (s : State) (n : Counts) → AsRun (driven limits (λ v level t m. go_on v) k w s n) (run limits k s)
unfolding driven run
driven_run limits zero w s n = refl
driven_run limits (suc k) w s n = by_news (step limits s) (λ t m. driven_run limits k w t m)
  where
    by_news : (r : Read News) → ((t : State) (m : Counts) → AsRun (driven limits (λ v level u j. go_on v) k w t m) (run limits k t))
        → AsRun (after_news (λ v level t m. go_on v) w (length s.levels) n (λ v t m. driven limits (λ v level u j. go_on v) k v t m) r) (after_step r (λ t. run limits k t))
    by_news (got (goes_on es t)) f = behind_run es (driven limits (λ v level u j. go_on v) k w t (counts_after n es)) (run limits k t) (f t (counts_after n es))
    by_news (got (ends_with es)) f = refl
    by_news (refused j m) f = refl
