-- A turn writes one number with the byte behind it; what is left to write is the line of the numbers left.
use Prim.Native.Nat.{◌<◌, ◌^◌}
use native.Mathlib.Omega.{arith}
use lib.ListN.{get_or}
use Rattle.printing.specs.Written.{writing_ends, writing_more, writing_starts}
use Rattle.printing.proofs.Line.{line_ends, line_more}
use Rattle.printing.proofs.Number.{number_few}
use Rattle.printing.proofs.put_numbers.Goals as goal

pub loop-i-init : goal.loop-i-init
loop-i-init c = (omega arith, writing_starts)

pub loop-i-preserved : goal.loop-i-preserved
loop-i-preserved c =
    let l = c.loop-i in
    let a = c.args in
    let ns = a.numbers.now in
    let h : get_or ns l.i 0 < 2 ^ 32 = omega (arith, c.type_inv.numbers l.i) in
    let w = c.put_number-next.ensures in
    let f = number_few _ _ _ _ _ _ h w in
    let m = line_more a.between a.end ns l.i _ (omega arith) c.pick.ensures in
    (omega arith, writing_more l.invariant.1 m w)

pub returns : goal.returns
returns c =
    let l = c.loop-i in
    let a = c.args in
    record {
      written = writing_ends (rw (line_ends a.between a.end a.numbers.now l.i c.loop-i-test.false) at l.invariant.1);
      upper_bound = omega arith;
    }
