-- The entry's answer is the definition's for these rooms, and what it accepts fits in them, so `put_answer` writes its listing.
use native.Mathlib.Omega.{arith}
use Rattle.printing.specs.Listing.{sheet}
use Rattle.printing.specs.Rooms.{in_rooms}
use Rattle.listing.proofs.Answered.{answered_lines}
use Rattle.listing.proofs.list.Goals as goal

pub put_answer-requires : goal.put_answer-requires
put_answer-requires c =
    let h = (in_rooms sheet c.args.text.now _ _ c.scan_with-a.ensures).words in
    omega (arith, c.scan_with-a.auto.words)

pub returns : goal.returns
returns c =
    let r = c.scan_with-a in
    let p = c.put_answer.ensures in
    record { written = answered_lines r.result c.args.text.now _ _ r.ensures p.written; upper_bound = omega (arith, p.upper_bound, r.auto.words) }
