-- The answer of a call of the job reader as two and seven numbers, for callers that have no enums; and from them back to the job.
use Rattle.std.specs.Prelude.{◌≤◌, ℕ, List, [], ◌∷◌, ◌⊎◌, ◌≡◌, get_or}
use Rattle.std.proofs.Common.{inl, inr, ⊎_elim, arith}
use Rattle.std.proofs.Math.Path.{refl}
use Rattle.yaml_lexeme.specs.Record.{mark_in}
use Rattle.yaml_scan.specs.Scan.{standard}
use Rattle.yaml_job.specs.declared.Closing.{Closing}
use Rattle.yaml_job.specs.declared.Closing.TheVariants.{Done, NotDone}
use Rattle.yaml_job.specs.declared.JobAnswer.{JobAnswer}
use Rattle.yaml_job.specs.declared.JobAnswer.TheVariants.{Closed, Lost, Seed}
use Rattle.yaml_job.specs.Done.{JobDone}
use Rattle.job.specs.JobHolds.{JobPromises}
use Rattle.job.specs.JobRun.{JobGave, run_done, run_not_lost, run_number}

-- a seed's value and the running count; zeros where none was handed over
unfoldable pub seed_numbers : JobAnswer → List ℕ
seed_numbers (Seed v n) = v ∷ n ∷ []
seed_numbers (Closed c) = 0 ∷ 0 ∷ []
seed_numbers Lost = 0 ∷ 0 ∷ []

-- 1, done, and the count; or 2, not done, the count, the refusal's number and mark, and 0
unfoldable pub closed_numbers : Closing → List ℕ
closed_numbers (Done n) = 1 ∷ n ∷ 0 ∷ 0 ∷ 0 ∷ 0 ∷ 0 ∷ []
closed_numbers (NotDone r k n) = 2 ∷ n ∷ r ∷ k.index ∷ k.line ∷ k.col ∷ 0 ∷ []

-- all zero where a seed was handed over. A job is never lost that began with a state of zeros; where another is, that is not done, without a number
unfoldable pub closing_numbers : JobAnswer → List ℕ
closing_numbers (Seed v n) = 0 ∷ 0 ∷ 0 ∷ 0 ∷ 0 ∷ 0 ∷ 0 ∷ []
closing_numbers (Closed c) = closed_numbers c
closing_numbers Lost = 2 ∷ 0 ∷ 0 ∷ 0 ∷ 0 ∷ 0 ∷ 0 ∷ []

-- the promise of the call, its answer in the numbers ss and cs
abbrev pub JobContinues : List ℕ → List ℕ → List ℕ → List ℕ → List ℕ → List ℕ → List ℕ → List ℕ → List ℕ → Type 0
JobContinues text st l b st' l' b' ss cs =
    (a : JobAnswer) × (ss ≡ seed_numbers a) × (cs ≡ closing_numbers a) × JobPromises standard text st l b st' l' b' a

-- what the numbers say of a call behind a run from a state of zeros, which handed these seeds over
module _ {text l b st l₁ b₁ : List ℕ} {seeds : List (ℕ × ℕ)} (g : JobGave standard text l b seeds st l₁ b₁) (st' l' b' ss cs : List ℕ) where
  abbrev Promised : JobAnswer → Type 0
  Promised a = JobPromises standard text st l₁ b₁ st' l' b' a

  -- 0: the next seed, with its count
  abbrev pub GaveSeed : Type 0
  GaveSeed = (get_or cs 0 0 ≡ 0) × (ss ≡ get_or ss 0 0 ∷ get_or ss 1 0 ∷ []) × Promised (Seed (get_or ss 0 0) (get_or ss 1 0))

  -- 1: done. 01 accepts the text, its list is of the shape whole, and its seeds are those handed over
  abbrev pub SaidDone : Type 0
  SaidDone = (get_or cs 0 0 ≡ 1) × JobDone standard text (get_or cs 1 0) seeds × Promised (Closed (Done (get_or cs 1 0)))

  -- 2: not done. The refusal is the job's, and has a number
  abbrev pub SaidNot : Type 0
  SaidNot = (get_or cs 0 0 ≡ 2) × (1 ≤ get_or cs 2 0) × Promised (Closed (NotDone (get_or cs 2 0) (mark_in cs 3) (get_or cs 1 0)))

  by_answer : (a : JobAnswer) → ss ≡ seed_numbers a → cs ≡ closing_numbers a → Promised a → GaveSeed ⊎ (SaidDone ⊎ SaidNot)
  unfolding seed_numbers closing_numbers closed_numbers
  by_answer (Seed v n) e f p = rw (e, f) (inl (refl, refl, p))
  by_answer (Closed (Done n)) e f p = rw f (inr (inl (refl, run_done g p, p)))
  by_answer (Closed (NotDone r k n)) e f p = rw f (inr (inr (refl, run_number g p, p)))
  by_answer Lost e f p = absurd (run_not_lost g p)

  module _ (p : JobContinues text st l₁ b₁ st' l' b' ss cs) where
    -- one of the three
    pub one_of : GaveSeed ⊎ (SaidDone ⊎ SaidNot)
    one_of = by_answer p.0 p.1 p.2 p.3

    pub gave_seed : get_or cs 0 0 ≡ 0 → GaveSeed
    gave_seed e = ⊎_elim (λ h. h) (λ h. absurd (⊎_elim (λ d. omega (arith, d.0)) (λ n. omega (arith, n.0)) h)) one_of

    pub said_done : get_or cs 0 0 ≡ 1 → SaidDone
    said_done e = ⊎_elim (λ h. absurd (omega (arith, h.0))) (λ h. ⊎_elim (λ d. d) (λ n. absurd (omega (arith, n.0))) h) one_of

    pub said_not : get_or cs 0 0 ≡ 2 → SaidNot
    said_not e = ⊎_elim (λ h. absurd (omega (arith, h.0))) (λ h. ⊎_elim (λ d. absurd (omega (arith, d.0))) (λ n. n) h) one_of
