-- The run once more, with what it said before a rule was broken.
use Rattle.std.specs.Prelude.{◌≤◌, suc, zero, ℕ, false, true, List, [], ◌++◌, ◌∷◌, ◌≡◌, refl, ltb, length}
use Rattle.std.proofs.Common.{◌∙◌, ap, arith}
use Rattle.yaml_text.specs.declared.Mark.{Mark}
use Rattle.yaml_text.specs.Mark.{origin}
use Rattle.yaml_text.specs.Refusal.{Read, got, refused}
use Rattle.yaml_text.specs.Decode.{decode}
use Rattle.yaml_text.specs.Test.{by_test}
use Rattle.yaml_lexeme.specs.Token.{StreamStart, Token, empty_token}
use Rattle.yaml_scan.specs.declared.Limits.{Limits}
use Rattle.yaml_scan.specs.State.{Event, News, State, ends_with, goes_on, put}
use Rattle.yaml_scan.specs.Scan.{Outcome, after_events, after_step, begin, outcome, run, scan, scanned, spent, step, stopped}
use Rattle.yaml_scan.specs.Slots.{tokens_of}
use Rattle.yaml_scan.specs.Budget.{on_news}
use Rattle.yaml_stream.specs.Kept.{From, Names, NotesAt, NotesFrom, notes_both, step_names}

-- how a run ends
pub data Close : Type 0 where
  at_end : Close
  at_rule : ℕ → Mark → Close
  -- out of budget
  unclosed : Close

pub record Tale : Type 0 where
  pub events : List Event
  pub close : Close

abbrev pub tale_of : List Event → Close → Tale
tale_of es c = record { events = es; close = c }

abbrev pub after_told : List Event → Tale → Tale
after_told es t = tale_of (es ++ t.events) t.close

abbrev pub in_step : Read News → (State → Tale) → Tale
in_step (got (goes_on es s)) go = after_told es (go s)
in_step (got (ends_with es)) go = tale_of es at_end
in_step (refused n m) go = tale_of [] (at_rule n m)

unfoldable pub tale : Limits → ℕ → State → Tale
tale limits zero s = tale_of [] unclosed
tale limits (suc k) s = in_step (step limits s) (λ t. tale limits k t)

abbrev pub text_tale : Limits → List ℕ → Tale
text_tale limits cs = after_told (put (empty_token StreamStart origin) ∷ []) (tale limits (suc (length cs)) (begin cs))

abbrev pub told_of : Limits → Read (List ℕ) → Tale
told_of limits (got cs) = text_tale limits cs
told_of limits (refused n m) = tale_of [] (at_rule n m)

-- of a text
unfoldable pub told : Limits → List ℕ → Tale
told limits bytes =
    elim (ltb limits.bytes (length bytes)) [
      | true ↦ tale_of [] (at_rule 1 origin)
      | false ↦ told_of limits (decode 0 origin bytes)
    ]

-- the list that the rules have built: up to StreamEnd, or before the broken one
abbrev pub built : Limits → List ℕ → List Token
built limits bytes = tokens_of (told limits bytes).events

-- it is the definition's run

abbrev pub outcome_of : List Event → Close → Outcome
outcome_of es at_end = scanned es
outcome_of es (at_rule n m) = stopped n m
outcome_of es unclosed = spent

after_outcome : (es fs : List Event) (c : Close) → after_events es (outcome_of fs c) ≡ outcome_of (es ++ fs) c
after_outcome es fs at_end = refl
after_outcome es fs (at_rule n m) = refl
after_outcome es fs unclosed = refl

-- a run that was scanned to its end
pub closes_as : (c : Close) (fs es : List Event) → outcome_of fs c ≡ scanned es → (c ≡ at_end) × (fs ≡ es)
closes_as at_end fs es e = (refl, cc)
closes_as (at_rule n m) fs es e = let z : ◌≡◌ {A = ℕ} 0 1 = cc in absurd (omega arith)
closes_as unclosed fs es e = let z : ◌≡◌ {A = ℕ} 0 1 = cc in absurd (omega arith)

-- a case by what a step answers
by_news : (Q : Read News → Type 0) → ((es : List Event) (s : State) → Q (got (goes_on es s))) → ((es : List Event) → Q (got (ends_with es))) → ((n : ℕ) (m : Mark) → Q (refused n m))
    → (r : Read News) → Q r
by_news Q f g k (got (goes_on es s)) = f es s
by_news Q f g k (got (ends_with es)) = g es
by_news Q f g k (refused n m) = k n m

pub run_tale : (limits : Limits) (k : ℕ) (s : State) → run limits k s ≡ outcome_of (tale limits k s).events (tale limits k s).close
unfolding run tale
run_tale limits zero s = refl
run_tale limits (suc k) s =
    by_news (λ r. after_step r (λ t. run limits k t) ≡ outcome_of (in_step r (λ t. tale limits k t)).events (in_step r (λ t. tale limits k t)).close)
    (λ es t. ap (λ (o : Outcome). after_events es o) (run_tale limits k t) ∙ after_outcome es (tale limits k t).events (tale limits k t).close)
    (λ _. refl) (λ _ _. refl) (step limits s)

pub outcome_told : (limits : Limits) (bytes : List ℕ) → outcome limits bytes ≡ outcome_of (told limits bytes).events (told limits bytes).close
unfolding outcome told scan
outcome_told limits bytes =
    by_test (ltb limits.bytes (length bytes))
    (λ e. rw (e, outcome, told))
    (λ e. rw (e, outcome, told) (by_text (decode 0 origin bytes)))
  where
    by_text : (r : Read (List ℕ)) → elim r [ got cs ↦ scan limits cs | refused n m ↦ stopped n m ] ≡ outcome_of (told_of limits r).events (told_of limits r).close
    by_text (got cs) =
        let s : Event = put (empty_token StreamStart origin) in
        let t = tale limits (suc (length cs)) (begin cs) in
        ap (λ (o : Outcome). after_events (s ∷ []) o) (run_tale limits (suc (length cs)) (begin cs)) ∙ after_outcome (s ∷ []) t.events t.close
    by_text (refused n m) = refl

-- tokens are put in only before those of which P holds, where it holds of what the candidates name and of all later tokens
pub tale_names : (P : ℕ → Type 0) (limits : Limits) (k : ℕ) (s : State) → ((j : ℕ) → s.count ≤ j → P j) → Names P s.keys → NotesAt P (tale limits k s).events
unfolding tale
tale_names P limits zero s b h = tt
tale_names P limits (suc k) s b h =
    on_news (λ r. NotesAt P (in_step r (λ t. tale limits k t)).events) (step_names P limits s b h)
    (λ es t i. notes_both P es (tale limits k t).events i.0 (tale_names P limits k t (λ j c. b j (omega (arith, i.2))) i.1)) (λ es i. i) (λ _ _. tt)

-- from number n on, where the candidates name tokens from there on
pub tale_notes : (n : ℕ) (limits : Limits) (k : ℕ) (s : State) → n ≤ s.count → From n s.keys → NotesFrom n (tale limits k s).events
unfolding NotesFrom
tale_notes n limits k s b h = tale_names (λ j. n ≤ j) limits k s (λ j i. omega arith) h
