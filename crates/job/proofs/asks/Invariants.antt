use Rattle.std.proofs.Common.{◌-◌, ◌≡◌}
use Rattle.yaml_scan.specs.Scan.{standard}
use Rattle.yaml_job.specs.Job.{most_asked}
use Rattle.job.specs.Asks.{AsksOn}
use Rattle.job.proofs.asks.Given as goal

abbrev pub invariant-loop : goal.invariant-loop
invariant-loop l =
    (l.at.count ≡ l.s.count)
    × AsksOn standard l.text l.initial.held l.initial.words l.initial.bytes l.s.place l.s.met l.s.count most_asked l.held l.words l.bytes l.at.place l.at.met (most_asked - l.counter)
