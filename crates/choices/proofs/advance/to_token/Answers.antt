-- The gap is refused before a word is written, and a refused lapse writes none; else the definition's state is the one behind the gap, lapsed and unrolled.
use Rattle.std.proofs.Common.{arith}
use Rattle.std.proofs.lemmas.Result.{err_from_is_err_and}
use Rattle.choices.proofs.NextToken.{advances, gap_refused, lapse_refused}
use Rattle.choices.proofs.advance.to_token.Goals as goal

pub returns-in_err-g : goal.returns-in_err-g
returns-in_err-g c =
    let a = c.args in let p = err_from_is_err_and c.from_residual.result c.from_residual.ensures.1 in
    rw (p.1, p.2) (gap_refused a.text.now a.stacks.now a.s c.in_err-g.ensures, c.told-stacks)

pub returns-in_err-lapse_key : goal.returns-in_err-lapse_key
returns-in_err-lapse_key c =
    let a = c.args in
    let p = err_from_is_err_and c.from_residual-in_err-lapse_key.result c.from_residual-in_err-lapse_key.ensures.1 in
    rw (p.1, p.2) (lapse_refused a.text.now a.stacks.now a.s c.in_ok-g.ensures (rw c.moved-t.ensures at c.in_err-lapse_key.ensures), c.lapse_key.array_long)

pub returns : goal.returns
returns c =
    let a = c.args in
    rw (c.with_indents.ensures, c.moved-t.ensures) (
      advances a.text.now a.stacks.now a.s c.in_ok-g.ensures c.requires (omega (arith, c.lapse_key.array_long)) (rw c.moved-t.ensures at c.in_ok-lapse_key.ensures)
          (rw c.moved-t.ensures at c.unrolled-u.ensures),
      c.lapse_key.array_long,
    )
