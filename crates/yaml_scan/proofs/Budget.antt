-- Theorems about specs/Budget, and what rests on them.
use Rattle.std.specs.Prelude.{◌/◌, ◌<◌, suc, zero, ℕ, List, [], ◌∷◌, ◌≡◌, refl, ltb, length}
use Rattle.std.proofs.Common.{◌∙◌, ap, le_refl, not-suc-le-zero, arith, ltb-false, ltb-true}
use Rattle.yaml_text.specs.Mark.{origin}
use Rattle.yaml_text.specs.Test.{by_test}
use Rattle.yaml_text.specs.DecodeLaws.{NoNul}
use Rattle.yaml_text.specs.PlaceLaws.{left}
use Rattle.yaml_lexeme.specs.Token.{StreamStart, Token, empty_token, texts}
use Rattle.yaml_lexeme.specs.Record.{record_words}
use Rattle.yaml_scan.specs.declared.Limits.{Limits}
use Rattle.yaml_scan.specs.State.{Event, State, put}
use Rattle.yaml_scan.specs.Slots.{tokens_of}
use Rattle.yaml_scan.specs.Scan.{Outcome, after_events, after_step, answer, answer_for, begin, lent, outcome, run, scan, scanned, spent, stopped}
use Rattle.yaml_scan.specs.Candidates.{GivenToken, Placed, Sound, fresh, given, placed_append}
use Rattle.yaml_scan.proofs.Runs.{step_news}
use Rattle.yaml_scan.specs.Budget.{on_news, Ends, outcome_by, Decided, PlacedIn, begin_sound}

after_events_end : (es : List Event) (o : Outcome) → Ends o → Ends (after_events es o)
after_events_end es (scanned fs) h = tt
after_events_end es (stopped n m) h = tt
after_events_end es spent h = h

pub run_ends : (limits : Limits) (k : ℕ) (s : State) → left s.place < k → Ends (run limits k s)
unfolding run
run_ends limits zero s h = absurd (not-suc-le-zero h)
run_ends limits (suc k) s h =
    on_news (λ r. Ends (after_step r (λ t. run limits k t))) (step_news [] limits s)
    (λ es t i. after_events_end es (run limits k t) (run_ends limits k t (omega (arith, i.takes)))) (λ _ _. tt) (λ _ _. tt)

-- one more changes nothing
pub run_stable : (limits : Limits) (k : ℕ) (s : State) → left s.place < k → run limits (suc k) s ≡ run limits k s
unfolding run
run_stable limits zero s h = absurd (not-suc-le-zero h)
run_stable limits (suc k) s h =
    on_news (λ r. after_step r (λ t. run limits (suc k) t) ≡ after_step r (λ t. run limits k t)) (step_news [] limits s)
    (λ es t i. ap (λ (o : Outcome). after_events es o) (run_stable limits k t (omega (arith, i.takes)))) (λ _ _. refl) (λ _ _. refl)

-- so any budget above the characters left gives the same
pub run_enough : (limits : Limits) (k : ℕ) (s : State) → left s.place < k → run limits k s ≡ run limits (suc (left s.place)) s
run_enough limits zero s h = absurd (not-suc-le-zero h)
run_enough limits (suc k) s h =
    by_test (ltb (left s.place) k)
    (λ e. let i = ltb-true (left s.place) k e in run_stable limits k s i ∙ run_enough limits k s i)
    (λ e. let i = ltb-false (left s.place) k e in let j : k ≡ left s.place = omega arith in ap (λ (n : ℕ). run limits (suc n) s) j)

-- no scan runs out of its budget
pub scan_ends : (limits : Limits) (cs : List ℕ) → Ends (scan limits cs)
unfolding scan
scan_ends limits cs = after_events_end (put (empty_token StreamStart origin) ∷ []) (run limits (suc (length cs)) (begin cs)) (run_ends limits (suc (length cs)) (begin cs) (le_refl _))

pub outcome_ends : (limits : Limits) (bytes : List ℕ) → Ends (outcome limits bytes)
outcome_ends limits bytes = outcome_by Ends limits bytes (λ cs _. scan_ends limits cs) (λ _ _. tt)

lent_decided : (ts : List Token) (w b : ℕ) → Decided (lent ts w b).verdict
unfolding lent
lent_decided ts w b =
    by_test (ltb (w / record_words) (length ts))
    (λ e. rw (e, lent) tt)
    (λ e. by_test (ltb b (length (texts ts))) (λ f. rw (e, f, lent) tt) (λ f. rw (e, f, lent) tt))

outcome_decided : (o : Outcome) (w b : ℕ) → Ends o → Decided (answer_for o w b).verdict
unfolding answer_for
outcome_decided (scanned es) w b h = lent_decided (tokens_of es) w b
outcome_decided (stopped n m) w b h = tt
outcome_decided spent w b h = h

pub answer_decided : (limits : Limits) (bytes : List ℕ) (words_room bytes_room : ℕ) → Decided (answer limits bytes words_room bytes_room).verdict
unfolding answer
answer_decided limits bytes w b = outcome_decided (outcome limits bytes) w b (outcome_ends limits bytes)

after_events_placed : (gs : List GivenToken) (es : List Event) (o : Outcome) → Placed gs es → PlacedIn (given gs es) o → PlacedIn gs (after_events es o)
after_events_placed gs es (scanned fs) h k = placed_append gs es fs h k
after_events_placed gs es (stopped n m) h k = tt
after_events_placed gs es spent h k = tt

pub run_placed : (limits : Limits) (k : ℕ) (gs : List GivenToken) (s : State) → Sound gs s → PlacedIn gs (run limits k s)
unfolding run
run_placed limits zero gs s h = tt
run_placed limits (suc k) gs s h =
    on_news (λ r. PlacedIn gs (after_step r (λ t. run limits k t))) (step_news gs limits s)
    (λ es t i. let j = i.sound h in after_events_placed gs es (run limits k t) j.0 (run_placed limits k (given gs es) t j.1))
    (λ es i. i h) (λ _ _. tt)

pub scan_placed : (limits : Limits) (cs : List ℕ) → NoNul cs → PlacedIn [] (scan limits cs)
unfolding scan given Placed
scan_placed limits cs h =
    after_events_placed [] (put (empty_token StreamStart origin) ∷ []) (run limits (suc (length cs)) (begin cs)) tt
    (run_placed limits (suc (length cs)) (fresh origin ∷ []) (begin cs) (begin_sound cs h))

pub outcome_placed : (limits : Limits) (bytes : List ℕ) → PlacedIn [] (outcome limits bytes)
outcome_placed limits bytes = outcome_by (PlacedIn []) limits bytes (λ cs d. scan_placed limits cs d.no_nul) (λ _ _. tt)
