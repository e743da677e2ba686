-- The calls: what each tells, the count, the budget; and that the calls together say what the reader makes of the tokens that the stream gives.
use Prim.Native.Nat.{◌+◌, suc, ℕ}
use Rattle.std.specs.Prelude.{List, [], ◌∷◌, ◌≡◌, length}
use Rattle.std.proofs.Math.Path.{refl}
use Rattle.yaml_text.specs.declared.Mark.{Mark}
use Rattle.yaml_scan.specs.declared.Limits.{Limits}
use Rattle.yaml_stream.specs.Stream.{Heard, Stream}
use Rattle.yaml_job.specs.declared.Closing.{Closing}
use Rattle.yaml_job.specs.declared.Closing.TheVariants.{Done, NotDone}
use Rattle.yaml_job.specs.declared.JobAnswer.{JobAnswer}
use Rattle.yaml_job.specs.declared.JobAnswer.TheVariants.{Closed, Lost, Seed}
use Rattle.yaml_job.specs.declared.Met.{Met}
use Rattle.yaml_job.specs.declared.ShapePlace.{ShapePlace}
use Rattle.yaml_job.specs.Job.{JobCalled, Talk, closed, closes, job_call, job_called, reading, talk}
use Rattle.yaml_job.specs.Reads.{End, Judgement, ends_done, judged, stops, unread}

-- one call

-- n seeds were handed over before it
pub data JobTells (n : ℕ) : JobCalled → Type 0 where
  tells_seed : {x : Stream} {p : ShapePlace} {m : Met} {v : ℕ} → JobTells n (job_called (Seed v (suc n)) (reading x p m (suc n)))
  tells_done : JobTells n (closes (Done n))
  tells_not : {r : ℕ} {k : Mark} → JobTells n (closes (NotDone r k n))
  tells_lost : {x : Stream} {p : ShapePlace} {m : Met} → JobTells n (job_called Lost (reading x p m n))

-- and each later call says the same
pub closed_again : (limits : Limits) (room : ℕ) (c : Closing) → job_call limits room (closed c) ≡ closes c
unfolding job_call
closed_again limits room c = refl

-- the running count

abbrev pub Counts : ℕ → List (ℕ × ℕ) → Type 0
Counts n [] = Unit {0}
Counts n (s ∷ ss) = (s.1 ≡ suc n) × Counts (suc n) ss

abbrev pub count_of : Closing → ℕ
count_of (Done n) = n
count_of (NotDone r k n) = n

-- behind n seeds: each seed's count is that of the seeds handed over with it, a closing record's that of all
pub record CountsAll (n : ℕ) (r : Talk) : Type 0 where
  pub each : Counts n r.handed
  pub all : (c : Closing) → r.last ≡ Closed c → count_of c ≡ n + length r.handed

-- the budget: what is left of the shape has fewer tokens, each time that no seed is handed over

-- all calls

abbrev pub answer_of : ℕ → End → JobAnswer
answer_of n ends_done = Closed (Done n)
answer_of n (stops r k) = Closed (NotDone r k n)
answer_of n unread = Lost

-- these seeds, counted behind n others, and the end
unfoldable pub talk_of : ℕ → List ℕ → End → Talk
talk_of n [] e = talk [] (answer_of n e)
talk_of n (v ∷ vs) e = let r = talk_of (suc n) vs e in talk ((v, suc n) ∷ r.handed) r.last

abbrev pub HasEnded : End → Type 0
HasEnded e = e ≡ unread → ⊥

abbrev pub judge : ShapePlace → Met → Heard → Judgement
judge p m h = judged p m h.tokens h.last
