-- The first half of a step: the way to the next token.
use Rattle.std.specs.Prelude.{◌+◌, ◌≤◌, ℕ, List, ◌≡◌}
use Rattle.std.proofs.Common.{arith}
use Rattle.yaml_text.specs.declared.Refusal.{Refusal}
use Rattle.yaml_text.specs.Refusal.{◌>>=◌}
use Rattle.yaml_scan.specs.declared.Limits.{Limits}
use Rattle.yaml_scan.specs.Fetch.{fetch_next}
use Rattle.yaml_scan.specs.Scan.{step}
use Rattle.events.specs.declared.Counts.{Counts}
use Rattle.states.specs.declared.State.{State}
use Rattle.states.specs.State.{state_of}
use Rattle.choices.specs.Advance.{AdvancesTo, Stops}
use Rattle.sink.specs.Stored.{within_more}
use Rattle.storing.specs.Step.{StepGiven, StepRefused, behind_ends, step_left, token_left, way_left}

-- the definition's step from s is one token from t, behind the ends of blocks
pub step_arrives : {limits : Limits} {text a e : List ℕ} {s t : State} {ended : ℕ} (count : ℕ) → AdvancesTo limits text a e s t ended
    → behind_ends ended t.place.mark (fetch_next limits (state_of text e (count + ended) t)) ≡ step limits (state_of text a count s)
unfolding step ◌>>=◌
step_arrives count a = rw (a.found count, a.left count)

-- and so are the lent bytes, where it is refused
pub left_arrives : {limits : Limits} {text a e : List ℕ} {s t : State} {ended : ℕ} (count : ℕ) (b : List ℕ) (used : ℕ) → AdvancesTo limits text a e s t ended
    → token_left (state_of text e (count + ended) t) b used ≡ step_left (state_of text a count s) b used
unfolding way_left
left_arrives count b used a = rw (a.found count, a.left count)

-- or it is refused on the way
pub step_stops : (limits : Limits) {text a e : List ℕ} {s : State} {f : Refusal} (n : Counts) (b : List ℕ) → Stops text a e s f.number f.mark
    → StepRefused (step limits (state_of text a n.count s)) (step_left (state_of text a n.count s) b n.used) b f
unfolding step way_left ◌>>=◌
step_stops limits n b h = record { same = rw (h.same n.count); bytes = rw (h.same n.count) }

module _ {limits : Limits} {text a e : List ℕ} {s t : State} {ended : ℕ} {n : Counts} (w : AdvancesTo limits text a e s t ended) (h : StepGiven limits text a s n) where
  -- at most 255 blocks end
  pub arrives_few : ended ≤ 255
  arrives_few = omega (arith, w.few, h.ready.low.deep, h.ready.lent.entries_most)

  pub arrives_given : StepGiven limits text e t n
  arrives_given = record { short = h.short; ready = w.ready; few = within_more w.onward h.few }
