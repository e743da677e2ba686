-- No word is touched: the frame of the level that ends lies above the flow level behind it, where the definition has dropped it.
use Rattle.std.proofs.Common.{arith, refl, true}
use Rattle.std.proofs.lemmas.Result.{err_from_is_err_and}
use Rattle.states.specs.Answer.{fetch_refused}
use Rattle.brackets.proofs.Emitted.{closes, emits_to}
use Rattle.brackets.proofs.Levels.{end_emits, end_none, end_other, end_refused}
use Rattle.brackets.proofs.fetch_flow_collection_end.Goals as goal

pub returns-then-s-eq0 : goal.returns-then-s-eq0
returns-then-s-eq0 c =
    λ n.
    let a = c.args in
    rw c.refuse.ensures (fetch_refused (end_none a.sequence a.text.now a.stacks.now n.count a.s c.if-s-eq0.true) refl)

pub returns-then-l-sequence : goal.returns-then-l-sequence
returns-then-l-sequence c =
    λ n.
    let a = c.args in
    rw c.refuse-then-l-sequence.ensures
    (fetch_refused (end_other a.sequence a.text.now a.stacks.now n.count a.s c.if-s-eq0.false c.level_data-l.ensures c.if-l-sequence.true) refl)

pub returns-in_err-next : goal.returns-in_err-next
returns-in_err-next c =
    λ n.
    let a = c.args in
    let p = err_from_is_err_and c.from_residual.result c.from_residual.ensures.1 in
    rw (p.1, p.2)
    (fetch_refused
    (end_refused a.sequence a.text.now a.stacks.now n.count a.s c.if-s-eq0.false c.level_data-l.ensures c.if-l-sequence.false
    c.requires.0.stands c.requires.1 (rw c.skip_blank.ensures at c.in_err-next.ensures))
    refl)

pub returns : goal.returns
returns c =
    λ n.
    let a = c.args in
    let y = c.requires.0 in
    rw (c.past.ensures, c.pick-kind.ensures, c.with_level-t.ensures)
    (emits_to c.level_data-l.result.implicit true y.stands c.requires.1 (rw c.skip_blank.ensures at c.in_ok-next.ensures) (closes a.sequence) y.low (omega (arith, y.deep))
    (end_emits a.sequence a.text.now a.stacks.now n.count a.s c.if-s-eq0.false c.level_data-l.ensures c.if-l-sequence.false)
    refl)
