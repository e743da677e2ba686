-- A turn writes one byte; what is left to write are the bytes left.
use native.Mathlib.Omega.{arith}
use lib.ListN.{get_or}
use Rattle.printing.specs.Written.{writing_ends, writing_more, writing_starts}
use Rattle.vectors.proofs.Lines.{byte_written, hex_end, hex_more}
use Rattle.vectors.proofs.write.put_hex.Goals as goal

pub loop-b-init : goal.loop-b-init
loop-b-init c = (omega arith, writing_starts)

pub figure-requires : goal.figure-requires
figure-requires c = omega (arith, c.type_inv.bytes c.loop-b.b-index)

pub figure-requires-in-loop-b : goal.figure-requires-in-loop-b
figure-requires-in-loop-b c = omega arith

pub loop-b-preserved : goal.loop-b-preserved
loop-b-preserved c =
    let l = c.loop-b in
    let a = c.args in
    let w = byte_written _ _ _ l.next (get_or a.bytes.now l.b-index 0) _ _ c.figure.ensures c.put.ensures c.figure-in-loop-b.ensures c.put-in-loop-b.ensures in
    (omega arith, writing_more l.invariant.1 (hex_more a.bytes.now l.b-index c.loop-b-test.true) w)

pub returns : goal.returns
returns c =
    let l = c.loop-b in
    let a = c.args in
    record {
      written = writing_ends (rw (hex_end a.bytes.now l.b-index c.loop-b-test.false) at l.invariant.1);
      value = omega arith;
    }
