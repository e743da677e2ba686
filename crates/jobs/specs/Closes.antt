-- How the job of a text closes, and what handing its seeds over promises.
use Rattle.std.specs.Prelude.{ℕ, List, ◌≡◌, Result, Ok, Err}
use Rattle.yaml_scan.specs.Scan.{standard}
use Rattle.yaml_job.specs.declared.Closing.{Closing}
use Rattle.yaml_job.specs.declared.JobAnswer.TheVariants as answer
use Rattle.yaml_job.specs.Job.{follow, job}
use Rattle.jobs.specs.declared.hand.Unhanded.{Unhanded}
use Rattle.jobs.specs.declared.hand.Unhanded.TheVariants.{Lost, Unwritten}

-- so many calls come to the end of every job
abbrev pub most_calls : ℕ
most_calls = 2_097_156

-- with so many words and bytes lent
abbrev pub Closes : List ℕ → ℕ → ℕ → Closing → Type 0
Closes text words room c = (follow standard room most_calls (job standard text words)).last ≡ answer.Closed c

-- the closing record is the definition's; no job is lost
abbrev pub Tells : List ℕ → ℕ → ℕ → Result Closing Unhanded → Type 0
Tells text words room (Ok c) = Closes text words room c
Tells text words room (Err (Unwritten e)) = Unit {0}
Tells text words room (Err Lost) = ⊥
