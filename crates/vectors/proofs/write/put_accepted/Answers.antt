-- Five texts stored one behind another are one text.
use mathlib.Core.Path.{refl}
use native.Mathlib.Omega.{arith}
use lib.ListN.{length-take}
use Rattle.vectors.proofs.Lines.{accepted_written}
use Rattle.vectors.proofs.write.put_accepted.Goals as goal

pub returns : goal.returns
returns c =
    let a = c.args in
    let p = c.put_text-a.ensures in
    let q = c.put_numbers-b.ensures in
    let r = c.put_rows-c.ensures in
    let s = c.put_hex-e.ensures in
    let u = c.put_text.ensures in
    record {
      written = accepted_written a.words.now a.bytes.now a.t a.d refl p q.written r.written s.written u;
      upper_bound = omega (arith, p.behind, q.upper_bound, r.upper_bound, s.value, u.behind, length-take a.d a.bytes.now);
    }
