-- Theorems about specs/Examples, and what rests on them.
use Rattle.std.proofs.Common.{ap}
use Rattle.yaml_scan.specs.Scan.{standard}
use Rattle.yaml_job.specs.Job.{Talk}
use Rattle.yaml_job.specs.Done.{JobDone}
use Rattle.yaml_job.proofs.Done.{done_means}
use Rattle.yaml_job.specs.Examples.{ample, read_job, in_braces, more}

-- the text in braces once more: its list is accepted and of the shape
pub of_the_shape : JobDone standard in_braces 2 (read_job in_braces).handed
of_the_shape = done_means standard in_braces ample 99 3 2 (ap (λ (t : Talk). t.last) more)
