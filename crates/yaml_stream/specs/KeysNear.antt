-- In the run of an accepted text whose list is orderly, few tokens stand behind one that may still be a key: the tokens said so far are in the list, one behind another,
-- and what goes in before one that is no possible key went in already. So behind a possible key its list goes on as StillKeys says, and Orderly says that few are left.
use Prim.Native.Nat.{suc, ℕ}
use Rattle.std.specs.Prelude.{◌≡◌, ltb}
use mathlib.Core.List.{List, [], ◌++◌, ◌∷◌, append_assoc}
use Rattle.std.proofs.Common.{◌∙◌, ap, sym}
use Rattle.std.proofs.Math.Path.{refl}
use native.Mathlib.Omega.{arith}
use Rattle.std.proofs.Math.ListN.{length}
use Rattle.yaml_text.specs.declared.Mark.{Mark}
use Rattle.yaml_text.specs.Mark.{origin}
use Rattle.yaml_text.specs.Refusal.{Read, got, refused}
use Rattle.yaml_text.specs.Decode.{decode}
use Rattle.yaml_text.specs.PlaceLaws.{left}
use Rattle.yaml_text.specs.Test.{by_test}
use Rattle.yaml_text.specs.All.{all_got}
use Rattle.yaml_lexeme.specs.Token.{StreamStart, Token, empty_token}
use Rattle.yaml_scan.specs.declared.Limits.{Limits}
use Rattle.yaml_scan.specs.State.{Event, State, goes_on, put}
use Rattle.yaml_scan.specs.Scan.{Outcome, after_events, begin, outcome, run, scan, scanned, spent, step, stopped}
use Rattle.yaml_scan.specs.Runs.{StepsReach, here, then_step}
use Rattle.yaml_scan.proofs.Runs.{step_news}
use Rattle.yaml_scan.proofs.Budget.{run_enough}
use Rattle.theorems.specs.Accepted.{Accepts}

-- the run from a state to the text's end

abbrev pub run_from : Limits → State → Outcome
run_from limits s = run limits (suc (left s.place)) s

pub run_on : (limits : Limits) (s t : State) (es : List Event) → step limits s ≡ got (goes_on es t) → run_from limits s ≡ after_events es (run_from limits t)
unfolding run
run_on limits s t es e = rw (e, run) (ap (λ (o : Outcome). after_events es o) (run_enough limits (left s.place) t (all_got (step_news [] limits s) e).takes))

after_none : (o : Outcome) → o ≡ after_events [] o
after_none (scanned es) = refl
after_none (stopped n m) = refl
after_none spent = refl

after_both : (es fs : List Event) (o : Outcome) → after_events es (after_events fs o) ≡ after_events (es ++ fs) o
after_both es fs (scanned gs) = ap scanned (sym (append_assoc es fs gs))
after_both es fs (stopped n m) = refl
after_both es fs spent = refl

after_scanned : (es fs : List Event) (o : Outcome) → after_events es o ≡ scanned fs → (gs : List Event) × (o ≡ scanned gs) × (fs ≡ es ++ gs)
after_scanned es fs (scanned gs) e = (gs, refl, cc)
after_scanned es fs (stopped n m) e = let z : ◌≡◌ {A = ℕ} 0 1 = cc in absurd (omega arith)
after_scanned es fs spent e = let z : ◌≡◌ {A = ℕ} 0 1 = cc in absurd (omega arith)

reached_run : {limits : Limits} {s t : State} {es : List Event} → StepsReach limits s es t → run_from limits s ≡ after_events es (run_from limits t)
reached_run {limits} {s} here = after_none (run_from limits s)
reached_run {limits} (then_step {es = es} {fs = fs} {t = t} {u = u} r e) =
    reached_run r ∙ ap (λ (o : Outcome). after_events es o) (run_on limits t u fs e) ∙ after_both es fs (run_from limits u)

abbrev pub stream_start : Token
stream_start = empty_token StreamStart origin

-- the characters of an accepted text, and its run from the first of them, which says its events
pub record AcceptedRun (limits : Limits) (bytes : List ℕ) (es : List Event) : Type 0 where
  pub text : List ℕ
  pub decoded : decode 0 origin bytes ≡ got text
  pub runs : after_events (put stream_start ∷ []) (run_from limits (begin text)) ≡ scanned es

pub accepted_run : {limits : Limits} {bytes : List ℕ} {ts : List Token} (a : Accepts limits bytes ts) → AcceptedRun limits bytes a.events
unfolding outcome scan
accepted_run {limits} {bytes} a =
    by_test (ltb limits.bytes (length bytes))
    (λ b. not_stopped 1 origin (rw (b, outcome) at a.accepted))
    (λ b. by_text (decode 0 origin bytes) refl (rw (b, outcome) at a.accepted))
  where
    not_stopped : {A : Type 0} (n : ℕ) (m : Mark) → stopped n m ≡ scanned a.events → A
    not_stopped n m f = let z : ◌≡◌ {A = ℕ} 0 1 = cc in absurd (omega arith)

    by_text : (r : Read (List ℕ)) → decode 0 origin bytes ≡ r → elim r [ got cs ↦ scan limits cs | refused n m ↦ stopped n m ] ≡ scanned a.events
        → AcceptedRun limits bytes a.events
    by_text (got cs) d f = record { text = cs; decoded = d; runs = f }
    by_text (refused n m) d f = not_stopped n m f

-- its events: those up to a state, and those from there on
pub run_rest : {limits : Limits} {bytes : List ℕ} {all es : List Event} {t : State} (a : AcceptedRun limits bytes all) → StepsReach limits (begin a.text) es t
    → (fs : List Event) × (run_from limits t ≡ scanned fs) × (all ≡ put stream_start ∷ (es ++ fs))
run_rest {limits} {all = all} {es = es} {t = t} a r =
    let e = ap (λ (o : Outcome). after_events (put stream_start ∷ []) o) (reached_run r) ∙ after_both (put stream_start ∷ []) es (run_from limits t) in
    after_scanned (put stream_start ∷ es) all (run_from limits t) (sym e ∙ a.runs)

-- what a run puts in

-- the slots grow

-- the walk along the slots

-- token n is a possible key, and x; ys have become zs
