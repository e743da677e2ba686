-- A turn writes one record with the byte behind it; what is left to write are the records left.
use Prim.Native.Nat.{◌*◌, ◌+◌, ◌-◌}
use mathlib.Core.Path.{◌≡◌}
use native.Mathlib.Omega.{arith}
use lib.ListN.{drop}
use Rattle.yaml_lexeme.specs.Record.{record_words}
use Rattle.printing.specs.Written.{writing_ends, writing_more, writing_starts}
use Rattle.vectors.proofs.Lines.{row_few, rows_end, rows_more, rows_start}
use Rattle.vectors.proofs.write.put_rows.Goals as goal

pub loop-n-init : goal.loop-n-init
loop-n-init c = let a = c.args in (omega arith, rw (rows_start a.t a.words.now) writing_starts)

pub loop-n-preserved : goal.loop-n-preserved
loop-n-preserved c =
    let l = c.loop-n in
    let a = c.args in
    let p = c.put_numbers-next.ensures in
    let m = rows_more a.t l.n _ a.words.now c.loop-n-test.true c.behind.ensures in
    let e : l.n * record_words + record_words - l.n * record_words ≡ record_words = omega arith in
    let q = rw e at p in
    (omega (arith, q.upper_bound, row_few (drop (l.n * record_words) a.words.now)), writing_more l.invariant.1 m q.written)

pub returns : goal.returns
returns c =
    let l = c.loop-n in
    let a = c.args in
    record {
      written = writing_ends (rw (rows_end a.t l.n a.words.now c.loop-n-test.false) at l.invariant.1);
      upper_bound = omega arith;
    }
