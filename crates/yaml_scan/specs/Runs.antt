-- What a step and a run keep: each step takes a character or ends the run, and in every state that a run reaches the candidates are known.
use Rattle.std.specs.Prelude.{◌<◌, ◌≤◌, suc, zero, ℕ, false, List, [], ◌++◌, ◌∷◌, ◌⊎◌, ◌≡◌, refl, length}
use Rattle.std.proofs.Common.{inl, inr, ap, arith, lt-ltb}
use Rattle.yaml_text.specs.declared.Mark.{Mark}
use Rattle.yaml_text.specs.Class.{is_z, peek}
use Rattle.yaml_text.specs.Refusal.{got}
use Rattle.yaml_text.specs.Test.{by_test, true_false}
use Rattle.yaml_text.specs.All.{All, all_need, holds}
use Rattle.yaml_text.specs.PlaceLaws.{FurtherOn, left}
use Rattle.yaml_scan.specs.declared.Candidate.{Candidate}
use Rattle.yaml_scan.specs.declared.Candidate.TheVariants.{Absent, Possible}
use Rattle.yaml_scan.specs.Keys.{lapse, stale}
use Rattle.yaml_scan.specs.declared.Limits.{Limits}
use Rattle.yaml_scan.specs.State.{Event, News, State, block_ends, ends_with, goes_on, puts}
use Rattle.yaml_scan.specs.Scan.{step}
use Rattle.yaml_scan.specs.Candidates.{GivenToken, Over, Placed, ReadyState, Sound, given}

-- the gap and the lapse

pub still_over : (m m' : Mark) (k : Candidate) → m.line ≤ m'.line → Over m k → Over m' k
still_over m m' Absent h o = tt
still_over m m' (Possible required n k) h o = omega arith

-- behind the lapse a candidate is gone, or it is the same and its line is not over
pub lapsed : (m : Mark) (k : Candidate) → All Candidate (λ c. (c ≡ Absent) ⊎ ((c ≡ k) × (Over m k → ⊥))) (lapse m k)
unfolding lapse stale
lapsed m Absent = holds (inl refl)
lapsed m (Possible required n k) =
    by_test (stale k m)
    (λ e. rw (e, lapse) (all_need _ 41 m _ (holds (inl refl))))
    (λ e. rw (e, lapse) (holds (inr (refl, λ o. true_false (rw (lt-ltb k.line m.line o) at e)))))

-- one token

-- it takes a character, or ends the run
abbrev pub TakesOrEnds : List GivenToken → State → News → Type 0
TakesOrEnds gs s (goes_on es t) = (left t.place < left s.place) × FurtherOn s.place t.place × (ReadyState gs s → Placed gs es × Sound (given gs es) t)
TakesOrEnds gs s (ends_with es) = ReadyState gs s → Placed gs es

-- where it is not the end, a character is there
pub some_left : (cs : List ℕ) → is_z (peek cs 0) ≡ false → 1 ≤ length cs
unfolding is_z
some_left [] e = true_false e
some_left (c ∷ cs) e = omega arith

-- a step

-- from the state s, after the tokens gs, on to the state t
pub record GoesTo (gs : List GivenToken) (s : State) (es : List Event) (t : State) : Type 0 where
  pub takes : left t.place < left s.place
  pub onward : FurtherOn s.place t.place
  pub sound : Sound gs s → Placed gs es × Sound (given gs es) t

abbrev pub Stepped : List GivenToken → State → News → Type 0
Stepped gs s (goes_on es t) = GoesTo gs s es t
Stepped gs s (ends_with es) = Sound gs s → Placed gs es

pub puts_ends : (n : ℕ) (m : Mark) → puts (block_ends n m) ≡ n
unfolding puts
puts_ends zero m = refl
puts_ends (suc n) m = ap suc (puts_ends n m)

-- a run

-- t is a state that the steps from s come to, es what they say
pub data StepsReach (limits : Limits) (s : State) : List Event → State → Type 0 where
  here : StepsReach limits s [] s
  then_step : {es fs : List Event} {t u : State} → StepsReach limits s es t → step limits t ≡ got (goes_on fs u) → StepsReach limits s (es ++ fs) u

pub record Reached (gs : List GivenToken) (s : State) (es : List Event) (t : State) : Type 0 where
  pub onward : FurtherOn s.place t.place
  pub placed : Placed gs es
  pub sound : Sound (given gs es) t
