-- Two texts stored one behind another are one text.
use native.Mathlib.Omega.{arith}
use Rattle.vectors.proofs.Lines.{refused_written}
use Rattle.vectors.proofs.write.put_refused.Goals as goal

pub returns : goal.returns
returns c =
    let p = c.put_text-n.ensures in
    let q = c.put_numbers.ensures in
    record { written = refused_written _ _ _ _ _ _ _ p q.written; upper_bound = omega (arith, p.behind, q.upper_bound) }
