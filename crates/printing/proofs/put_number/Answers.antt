-- The digits that `io` gives are the number's, at most ten of them, and the byte is stored behind them.
use Prim.Native.Nat.{◌≤◌}
use native.Mathlib.Omega.{arith}
use Rattle.printing.proofs.Number.{few, number_written}
use Rattle.printing.proofs.put_number.Goals as goal

pub overflow_add-at : goal.overflow_add-at
overflow_add-at c =
    let few-digits : c.decimal-n.result ≤ 10 = few _ _ c.ranges.v.fits c.decimal-n.ensures.len in
    let k = few-digits in omega arith

pub overflow_add-result : goal.overflow_add-result
overflow_add-result c =
    let few-digits : c.decimal-n.result ≤ 10 = few _ _ c.ranges.v.fits c.decimal-n.ensures.len in
    let k = few-digits in omega arith

pub overflow_add-result-2 : goal.overflow_add-result-2
overflow_add-result-2 c =
    let few-digits : c.decimal-n.result ≤ 10 = few _ _ c.ranges.v.fits c.decimal-n.ensures.len in
    let k = few-digits in omega arith

pub returns : goal.returns
returns c =
    let d = c.decimal-n in
    let a = c.args in
    number_written a.out.now _ _ _ a.at a.v a.end d.result d.ensures.len d.ensures.digits c.copy.ensures
    c.put.ensures
