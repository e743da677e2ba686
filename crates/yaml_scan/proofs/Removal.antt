-- Theorems about specs/Removal, and what rests on them.
use Rattle.std.specs.Prelude.{suc, zero, ℕ, true, List, [], ◌∷◌, ◌≡◌, refl, length}
use Rattle.std.proofs.Common.{ap, sym}
use Rattle.yaml_text.specs.Mark.{origin}
use Rattle.yaml_text.specs.Refusal.{Read, ◌>>=◌, got}
use Rattle.yaml_text.specs.Test.{by_test, true_false}
use Rattle.yaml_text.specs.All.{All, all_bind, all_both, all_got, all_weak, holds, not_read}
use Rattle.yaml_text.specs.DecodeLaws.{NoNul}
use Rattle.yaml_lexeme.specs.Token.{StreamStart, empty_token}
use Rattle.yaml_scan.specs.declared.Limits.{Limits}
use Rattle.yaml_scan.specs.Keys.{is_required, top_key}
use Rattle.yaml_scan.specs.State.{Event, News, State, block_ends, ends_with, goes_on, in_flow, mark_of, preceded, put, remove_key}
use Rattle.yaml_scan.specs.Choice.{choice}
use Rattle.yaml_scan.specs.Fetch.{fetch_next}
use Rattle.yaml_scan.specs.Scan.{Outcome, after_events, after_step, begin, run, scan, step, to_next_token, unrolled}
use Rattle.yaml_scan.specs.ChoiceLaws.{choice_says}
use Rattle.yaml_scan.proofs.ChoiceLaws.{fetch_news}
use Rattle.yaml_scan.specs.Fetches.{Fetched}
use Rattle.yaml_scan.specs.Runs.{StepsReach, here, then_step}
use Rattle.yaml_scan.specs.Budget.{on_news}
use Rattle.yaml_scan.specs.Steps.{unrolled_state}
use Rattle.yaml_scan.specs.Removes.{removes}
use Rattle.yaml_scan.specs.Required.{BeforeToken, BetweenSteps, KeepsBetween, to_next_token_ahead}
use Rattle.yaml_scan.proofs.Required.{fetch_keeps}
use Rattle.yaml_scan.specs.Removal.{remove_or_refuse, not_refused, ask, step_asking, run_asking, scan_asking}

abbrev Goes : News → Type 0
Goes (goes_on es t) = BetweenSteps t
Goes (ends_with es) = Unit {0}

fetch_goes : (limits : Limits) (s : State) → BeforeToken s → All News Goes (fetch_next limits s)
fetch_goes limits s h =
    all_weak by_news (all_both (fetch_keeps limits (choice s) s (choice_says s)) (fetch_news [] limits (choice s) s (choice_says s)))
  where
    by_news : (w : News) → KeepsBetween s w × Fetched [] s w → Goes w
    by_news (goes_on es t) k = k.0 k.1.0 h
    by_news (ends_with es) k = tt

-- the ends of blocks change the indents and the count
unrolled_ahead : (s : State) → BeforeToken s → BeforeToken (unrolled_state s)
unfolding in_flow
unrolled_ahead s h = record { held = h.held; waits = h.waits; no_nul = h.no_nul }

step_goes : (limits : Limits) (s : State) → BetweenSteps s → All News Goes (step limits s)
unfolding step
step_goes limits s h =
    all_bind _ (to_next_token_ahead s h)
    (λ t a. all_bind _ (fetch_goes limits (unrolled_state t) (unrolled_ahead t a)) (λ w g. holds (behind (block_ends (unrolled t).ended (mark_of t)) w g)))
  where
    behind : (es : List Event) (w : News) → Goes w → Goes (preceded es w)
    behind es (goes_on fs t) g = g
    behind es (ends_with fs) g = tt

reached_between : {limits : Limits} {s : State} {es : List Event} {t : State} → BetweenSteps s → StepsReach limits s es t → BetweenSteps t
reached_between h here = h
reached_between {limits} h (then_step {t = t} r e) = all_got (step_goes limits t (reached_between h r)) e

begin_between : (cs : List ℕ) → NoNul cs → BetweenSteps (begin cs)
unfolding top_key is_required
begin_between cs n = record { held = tt; waits = λ _ r. true_false (sym r); no_nul = n }

-- in every state that a run reaches: where the next token removes the candidate, 01's rule does not refuse
pub never_met : {limits : Limits} {cs : List ℕ} {es : List Event} {s t : State} → NoNul cs → StepsReach limits (begin cs) es s → to_next_token s ≡ got t
    → removes (choice (unrolled_state t)) (unrolled_state t) ≡ true → remove_or_refuse (unrolled_state t) ≡ got (remove_key (unrolled_state t))
never_met {cs = cs} {s = s} {t = t} n r e =
    not_refused (unrolled_state t) (unrolled_ahead t (all_got (to_next_token_ahead s (reached_between (begin_between cs n) r)) e))

ask_got : {B : Type 0} (s : State) (r : Read B) → BeforeToken s → (ask s >>= λ _. r) ≡ r
unfolding ask ◌>>=◌
ask_got s r h = by_test (removes (choice s) s) (λ e. rw (e, not_refused s h e)) (λ e. rw e)

-- one reader before another
bind_same : {A B : Type 0} {P : A → Type 0} {r : Read A} (f g : A → Read B) → All A P r → ((a : A) → P a → f a ≡ g a) → (r >>= f) ≡ (r >>= g)
unfolding ◌>>=◌
bind_same f g (holds {a = x} h) k = k x h
bind_same f g not_read k = refl

step_same : (limits : Limits) (s : State) → BetweenSteps s → step_asking limits s ≡ step limits s
unfolding step_asking step
step_same limits s h = bind_same _ _ (to_next_token_ahead s h) (λ t a. ask_got (unrolled_state t) _ (unrolled_ahead t a))

run_same : (limits : Limits) (k : ℕ) (s : State) → BetweenSteps s → run_asking limits k s ≡ run limits k s
unfolding run_asking run
run_same limits zero s h = refl
run_same limits (suc k) s h =
    rw (step_same limits s h)
    (on_news (λ r. after_step r (λ t. run_asking limits k t) ≡ after_step r (λ t. run limits k t)) (step_goes limits s h)
    (λ es t g. ap (λ (o : Outcome). after_events es o) (run_same limits k t g)) (λ _ _. refl) (λ _ _. refl))

pub scan_same : (limits : Limits) (cs : List ℕ) → NoNul cs → scan_asking limits cs ≡ scan limits cs
unfolding scan_asking scan
scan_same limits cs n =
    ap (λ (o : Outcome). after_events (put (empty_token StreamStart origin) ∷ []) o) (run_same limits (suc (length cs)) (begin cs) (begin_between cs n))
