-- The entry's answer is the definition's, so what is written behind the text is the definition's answer; its length follows from what fits in the rooms.
use native.Mathlib.Omega.{arith}
use Rattle.replay.proofs.Answered.{accepted_fits, accepted_line, refused_line}
use Rattle.replay.proofs.put_vector.Goals as goal

pub put_accepted-requires : goal.put_accepted-requires
put_accepted-requires c =
    let r = c.scan in
    let h = accepted_fits _ c.args.text.now _ _ _ _ _ r.ensures c.in-Ok.is in
    omega (arith, h, r.auto.words, r.auto.bytes, c.put_head-n.ensures.value, c.requires)

pub returns-in-Ok : goal.returns-in-Ok
returns-in-Ok c =
    let a = c.args in
    let s = c.scan in
    let e = c.in-Ok.is in
    let h = c.put_head-n.ensures in
    let p = c.put_accepted.ensures in
    record {
      written = accepted_line _ a.text.now _ _ _ _ s.ensures e h.written p.written;
      upper_bound = omega (arith, accepted_fits _ a.text.now _ _ _ _ _ s.ensures e, h.value, p.upper_bound);
    }

pub returns-in-Err : goal.returns-in-Err
returns-in-Err c =
    let a = c.args in
    let s = c.scan in
    let e = c.in-Err.is in
    let h = c.put_head-n.ensures in
    let p = c.put_refused.ensures in
    record { written = refused_line _ a.text.now _ _ _ _ s.ensures e h.written p.written; upper_bound = omega (arith, h.value, p.upper_bound) }
