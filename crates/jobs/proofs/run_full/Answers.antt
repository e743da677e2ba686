-- A room that is longer than a sheet may be, or nothing.
use Rattle.jobs.specs.Status.{long, nothing, unread}
use Rattle.jobs.proofs.run_full.Goals as goal

pub returns-then-text-gt-MOST_TEXT : goal.returns-then-text-gt-MOST_TEXT
returns-then-text-gt-MOST_TEXT c = long c.if-text-gt-MOST_TEXT.true c.run_text.ensures

pub returns : goal.returns
returns c = nothing unread
