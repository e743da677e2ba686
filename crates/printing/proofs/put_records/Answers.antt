-- A turn writes the line of one record; what is left to write are the lines of the records left.
use mathlib.Core.Path.{sym}
use native.Mathlib.Omega.{arith}
use Rattle.printing.specs.Written.{writing_ends, writing_more, writing_starts}
use Rattle.printing.proofs.Rows.{rows_end, rows_more, rows_start, ten}
use Rattle.printing.proofs.put_records.Goals as goal

pub loop-n-init : goal.loop-n-init
loop-n-init c = let a = c.args in (omega arith, rw (rows_start a.t a.words.now) writing_starts)

pub slice_bounds-put_numbers-end : goal.slice_bounds-put_numbers-end
slice_bounds-put_numbers-end c = sym (ten _ _ c.listed_words-numbers.ensures)

pub put_numbers-next-requires : goal.put_numbers-next-requires
put_numbers-next-requires c = let e = ten _ _ c.listed_words-numbers.ensures in omega arith

pub loop-n-preserved : goal.loop-n-preserved
loop-n-preserved c =
    let l = c.loop-n in
    let a = c.args in
    let p = c.put_numbers-next in
    let e = ten _ _ c.listed_words-numbers.ensures in
    let w = p.ensures.written in
    let m = rows_more a.t l.n a.words.now c.loop-n-test.true in
    (omega arith, writing_more l.invariant.1 (rw c.listed_words-numbers.ensures m) w)

pub returns : goal.returns
returns c =
    let l = c.loop-n in
    let a = c.args in
    record {
      written = writing_ends (rw (rows_end a.t l.n a.words.now c.loop-n-test.false) at l.invariant.1);
      upper_bound = omega arith;
    }
