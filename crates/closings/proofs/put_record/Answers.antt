-- Two texts stored one behind another are one text.
use native.Mathlib.Omega.{arith}
use Rattle.closings.proofs.Lines.{done_written, not_done_written}
use Rattle.closings.proofs.put_record.Goals as goal

pub returns-in-Done : goal.returns-in-Done
returns-in-Done c =
    let p = c.put_front-n.ensures in
    let q = c.put_numbers.ensures in
    record { written = done_written _ c.in-Done.is p q.written; upper_bound = omega (arith, p.behind, q.upper_bound) }

pub returns-in-NotDone : goal.returns-in-NotDone
returns-in-NotDone c =
    let p = c.put_front-n-in-NotDone.ensures in
    let q = c.put_numbers-in-NotDone.ensures in
    record { written = not_done_written _ c.in-NotDone.is c.column-col.ensures p q.written; upper_bound = omega (arith, p.behind, q.upper_bound) }
