-- No more seeds come than a text has tokens, of which each of its characters pays for two: so many calls come to the end of every job.
use Rattle.std.specs.Prelude.{◌<◌, ◌≤◌, ℕ, List, ◌≡◌, ltb, length}
use Rattle.std.proofs.Common.{◌∙◌, ap, sym, add-zero, arith, ltb-false, ltb-true}
use Rattle.yaml_text.specs.Test.{by_test}
use Rattle.yaml_scan.specs.Scan.{standard}
use Rattle.yaml_stream.specs.Calls.{built_few}
use Rattle.yaml_stream.specs.Tale.{built}
use Rattle.yaml_job.specs.declared.JobAnswer.TheVariants.{Closed, Lost}
use Rattle.yaml_job.specs.Job.{Talk, follow, job}
use Rattle.yaml_job.proofs.Done.{job_closes}
use Rattle.job.specs.JobRun.{JobGave}
use Rattle.jobs.specs.Closes.{most_calls}

few_built : (text : List ℕ) → length (built standard text) < most_calls
few_built text = omega (arith, built_few standard text)

-- calls that all handed a seed over, and so came to no end
unended : {text l b st' l' b' : List ℕ} {ss : List (ℕ × ℕ)} → JobGave standard text l b ss st' l' b' → (follow standard (length b) (length ss) (job standard text (length l))).last ≡ Lost
unfolding follow
unended {text} {l} {b} {ss = ss} g =
    ap (λ (k : ℕ). (follow standard (length b) k (job standard text (length l))).last) (sym (add-zero (length ss))) ∙ ap (λ (t : Talk). t.last) (g.says 0)

pub seeds_few : {text l b st' l' b' : List ℕ} {ss : List (ℕ × ℕ)} → JobGave standard text l b ss st' l' b' → length ss < most_calls
seeds_few {text} {l} {b} {ss = ss} g = by_test (ltb (length ss) most_calls) (ltb-true (length ss) most_calls) (λ e. absurd (too_many (ltb-false (length ss) most_calls e)))
  where
    too_many : most_calls ≤ length ss → ⊥
    too_many h =
        let c = job_closes standard text (length l) (length b) (length ss) (omega (arith, few_built text)) in
        let e : Closed c.0 ≡ Lost = sym c.1 ∙ unended g in
        let z : ◌≡◌ {A = ℕ} 0 1 = cc in omega arith
