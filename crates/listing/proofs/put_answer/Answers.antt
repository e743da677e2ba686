-- An acceptance is a line with T and D and the lines of its records behind it; a refusal is one line.
use native.Mathlib.Omega.{arith}
use Rattle.listing.proofs.Answered.{accepted_fit, accepted_lines, refused_lines}
use Rattle.listing.proofs.put_answer.Goals as goal

pub put_records-requires : goal.put_records-requires
put_records-requires c = (omega arith, accepted_fit _ _ _ c.in-Ok.is c.requires)

pub returns-in-Ok : goal.returns-in-Ok
returns-in-Ok c =
    let e = c.in-Ok.is in
    let h = accepted_fit _ _ _ e c.requires in
    let p = c.put_numbers-next.ensures in
    let q = c.put_records.ensures in
    record { written = accepted_lines _ c.args.words.now e p.written q.written; upper_bound = omega (arith, h, p.upper_bound, q.upper_bound) }

pub returns-in-Err : goal.returns-in-Err
returns-in-Err c =
    let p = c.put_numbers.ensures in
    record { written = refused_lines _ c.args.words.now c.in-Err.is p.written; upper_bound = omega (arith, p.upper_bound) }
