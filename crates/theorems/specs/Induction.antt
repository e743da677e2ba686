-- What holds of the events of every run: it is enough to show it of each gap, of each move and of the end, from behind.
use Prim.Native.Nat.{suc, zero, ℕ}
use Rattle.std.specs.Prelude.{List, [], ◌++◌, ◌∷◌, ◌≡◌, refl, length}
use Rattle.std.proofs.Common.{append_assoc}
use Rattle.yaml_text.specs.Mark.{origin}
use Rattle.yaml_text.specs.All.{All}
use Rattle.yaml_text.specs.DecodeLaws.{Decodes}
use Rattle.yaml_lexeme.specs.Token.{StreamStart, empty_token}
use Rattle.yaml_scan.specs.declared.Limits.{Limits}
use Rattle.yaml_scan.specs.State.{Event, News, State, block_ends, ends_with, goes_on, mark_of, preceded, put}
use Rattle.yaml_scan.specs.Scan.{Outcome, after_events, after_step, begin, outcome, run, scan, scanned, spent, step, stopped, unrolled}
use Rattle.yaml_scan.specs.Budget.{on_news, outcome_by}
use Rattle.yaml_scan.specs.Moves.{Moves}
use Rattle.yaml_scan.specs.Steps.{Gapped, Takes, unrolled_state}
use Rattle.yaml_scan.proofs.Steps.{step_by}

-- of what was scanned
abbrev pub OfOutcome : (List Event → Type 0) → Outcome → Type 0
OfOutcome P (scanned es) = P es
OfOutcome P (stopped n m) = Unit {0}
OfOutcome P spent = Unit {0}

-- with events before them
pub after_good : (P Q : List Event → Type 0) (es : List Event) (o : Outcome) → ((fs : List Event) → P fs → Q (es ++ fs)) → OfOutcome P o → OfOutcome Q (after_events es o)
after_good P Q es (scanned fs) f h = f fs h
after_good P Q es (stopped n m) f h = tt
after_good P Q es spent f h = tt

-- the events es of a scan of the bytes: StreamStart, and what comes from the first character on
pub record ScanOf (Good : State → List Event → Type 0) (bytes : List ℕ) (es : List Event) : Type 0 where
  pub text : List ℕ
  pub decodes : Decodes 0 bytes text
  pub further : List Event
  pub whole : es ≡ put (empty_token StreamStart origin) ∷ further
  pub good : Good (begin text) further

-- of a step: what holds of what comes behind it holds with it
abbrev pub Leads : (State → List Event → Type 0) → State → News → Type 0
Leads Good s (goes_on es u) = (fs : List Event) → Good u fs → Good s (es ++ fs)
Leads Good s (ends_with es) = Good s es

-- Good: of what comes from a state between two steps; Ready: from a state behind the gap and the ends of blocks
module _ (limits : Limits) (Good Ready : State → List Event → Type 0)
    (gap : (s t : State) (fs : List Event) → Gapped s t → Ready (unrolled_state t) fs → Good s (block_ends (unrolled t).ended (mark_of t) ++ fs))
    (move : (s u : State) (es fs : List Event) → Moves s (goes_on es u) → Takes s (goes_on es u) → Good u fs → Ready s (es ++ fs))
    (last : (s : State) (es : List Event) → Moves s (ends_with es) → Ready s es) where
  pub step_leads : (s : State) → All News (Leads Good s) (step limits s)
  step_leads s = step_by limits s by_news
    where
      by_news : (t : State) → Gapped s t → (w : News) → Moves (unrolled_state t) w → Takes (unrolled_state t) w
          → Leads Good s (preceded (block_ends (unrolled t).ended (mark_of t)) w)
      by_news t g (goes_on es u) m k = λ fs h. rw append_assoc (gap s t (es ++ fs) g (move (unrolled_state t) u es fs m k h))
      by_news t g (ends_with es) m k = gap s t es g (last (unrolled_state t) es m)

  run_good : (k : ℕ) (s : State) → OfOutcome (Good s) (run limits k s)
  unfolding run
  run_good zero s = tt
  run_good (suc k) s =
      on_news (λ r. OfOutcome (Good s) (after_step r (λ u. run limits k u))) (step_leads s)
      (λ es u h. after_good (Good u) (Good s) es (run limits k u) h (run_good k u)) (λ es h. h) (λ _ _. tt)

  scan_good : (bytes cs : List ℕ) → Decodes 0 bytes cs → OfOutcome (ScanOf Good bytes) (scan limits cs)
  unfolding scan
  scan_good bytes cs d =
      after_good (Good (begin cs)) (ScanOf Good bytes) (put (empty_token StreamStart origin) ∷ []) (run limits (suc (length cs)) (begin cs))
      (λ fs h. record { text = cs; decodes = d; further = fs; whole = refl; good = h }) (run_good (suc (length cs)) (begin cs))

  pub outcome_good : (bytes : List ℕ) (es : List Event) → outcome limits bytes ≡ scanned es → ScanOf Good bytes es
  outcome_good bytes es e = rw e at (outcome_by (OfOutcome (ScanOf Good bytes)) limits bytes (λ cs d. scan_good bytes cs d) (λ _ _. tt))
