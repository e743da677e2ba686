-- What holds before each call: the calls so far handed i seeds over.
use Rattle.std.specs.Prelude.{◌+◌, ◌<◌, ℕ, List, [], ◌++◌, ◌∷◌, ◌≡◌, refl, length, replicate}
use Rattle.std.proofs.Common.{◌∙◌, ap, arith, length-append}
use Rattle.yaml_scan.specs.Scan.{standard}
use Rattle.yaml_job.specs.declared.Closing.{Closing}
use Rattle.yaml_job.specs.declared.JobAnswer.{JobAnswer}
use Rattle.yaml_job.specs.declared.JobAnswer.TheVariants as answer
use Rattle.yaml_job.specs.Job.{Talk}
use Rattle.job.specs.JobHolds.{JobPromises}
use Rattle.job.specs.JobRun.{JobGave, JobRun, job_gave, more, none, run_follows, run_not_lost}
use Rattle.job.specs.Own.{job_words}
use Rattle.jobs.specs.Closes.{Closes, most_calls}
use Rattle.jobs.specs.Few.{seeds_few}

pub record On (text st₀ l₀ b₀ st l b : List ℕ) (i : ℕ) : Type 0 where
  pub seeds : List (ℕ × ℕ)
  pub run : JobRun standard text st₀ l₀ b₀ seeds st l b
  pub count : length seeds ≡ i
  pub same_words : length l ≡ length l₀
  pub same_bytes : length b ≡ length b₀

pub on_begin : (text st l b : List ℕ) → On text st l b st l b 0
on_begin text st l b = record { seeds = []; run = none; count = refl; same_words = refl; same_bytes = refl }

module _ {text st₀ l₀ b₀ st l b : List ℕ} {i : ℕ} (o : On text st₀ l₀ b₀ st l b i) where
  pub on_more : {st' l' b' : List ℕ} {a : JobAnswer} {v m i' : ℕ} → JobPromises standard text st l b st' l' b' a → a ≡ answer.Seed v m → length l' ≡ length l → length b' ≡ length b
      → i' ≡ i + 1 → On text st₀ l₀ b₀ st' l' b' i'
  on_more {v = v} {m = m} p e f g j = record {
    seeds = o.seeds ++ ((v, m) ∷ []);
    run = more o.run g (rw e at p);
    count = omega (arith, length-append o.seeds ((v, m) ∷ []), o.count);
    same_words = f ∙ o.same_words;
    same_bytes = g ∙ o.same_bytes;
  }

  module _ (zeros : st₀ ≡ replicate job_words 0) where
    gave : JobGave standard text l₀ b₀ o.seeds st l b
    gave = job_gave zeros o.run

    pub on_few : i < most_calls
    on_few = omega (arith, seeds_few gave, o.count)

    pub on_closed : {st' l' b' : List ℕ} {a : JobAnswer} {c : Closing} → JobPromises standard text st l b st' l' b' a → a ≡ answer.Closed c → Closes text (length l₀) (length b₀) c
    on_closed p e = ap (λ (t : Talk). t.last) (run_follows gave (rw e at p) tt most_calls (seeds_few gave))

    pub on_lost : {st' l' b' : List ℕ} {a : JobAnswer} → JobPromises standard text st l b st' l' b' a → a ≡ answer.Lost → ⊥
    on_lost p e = run_not_lost gave (rw e at p)
