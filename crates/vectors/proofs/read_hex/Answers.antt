-- A turn reads two digits and stores their byte; what is left of the line gives the rest.
use Rattle.std.proofs.Common.{length, ◌≡◌}
use native.Mathlib.Omega.{arith}
use Rattle.vectors.proofs.Reading.{reading_full, reading_more, reading_none, reading_short, reading_starts}
use Rattle.vectors.proofs.read_hex.Goals as goal

pub loop-n-init : goal.loop-n-init
loop-n-init c = let a = c.args in reading_starts a.line.now a.out.now

pub returns-then-line-n : goal.returns-then-line-n
returns-then-line-n c = reading_short c.loop-n.invariant c.if-line-n.true

pub returns-in_default : goal.returns-in_default
returns-in_default c = reading_none c.loop-n.invariant (omega arith) c.in_default.ensures

pub loop-n-preserved : goal.loop-n-preserved
loop-n-preserved c = reading_more c.loop-n.invariant (omega arith) _ c.in-Some.ensures (omega arith)

pub returns : goal.returns
returns c =
    let e : length c.loop-n.out ≡ c.loop-n.n = omega arith in
    rw e (reading_full c.loop-n.invariant (omega arith))
