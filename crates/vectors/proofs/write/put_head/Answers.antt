-- Two texts stored one behind another are one text.
use native.Mathlib.Omega.{arith}
use Rattle.vectors.proofs.Lines.{head_written}
use Rattle.vectors.proofs.write.put_head.Goals as goal

pub returns : goal.returns
returns c =
    let p = c.put_hex-n.ensures in
    let q = c.put_text.ensures in
    record { written = head_written _ _ _ c.args.text.now _ _ p.written q; value = omega (arith, p.value, q.behind) }
