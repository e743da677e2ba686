-- The reader in the state says whether the job is closed.
use Rattle.std.proofs.Common.{◌∙◌, sym}
use Rattle.yaml_scan.specs.Scan.{standard}
use Rattle.job.specs.JobLaws.{ended_told}
use Rattle.job.proofs.next_seed.Goals as goal

pub returns-in-Ended : goal.returns-in-Ended
returns-in-Ended c =
    let s = c.args in
    ended_told standard s.text.now s.state.now s.words.now s.bytes.now
    c.in-Ended.c (sym c.reader_in.ensures ∙ c.in-Ended.is)
