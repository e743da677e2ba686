-- Each way out is one case of the definition; the roll comes first, and where it refuses nothing was stored.
use Rattle.std.proofs.Common.{refl}
use Rattle.std.proofs.lemmas.Result.{err_from_is_err_and}
use Rattle.states.specs.Answer.{fetch_refused}
use Rattle.indicators.proofs.Block.{entry_goes, entry_refused, entry_shut}
use Rattle.indicators.proofs.fetch_block_entry.Goals as goal

pub returns-then-s : goal.returns-then-s
returns-then-s c =
    λ n.
    let a = c.args in
    rw c.refuse.ensures (fetch_refused (entry_refused a.limits a.text.now a.stacks.now a.s n.count c.if-s.true) refl)

pub returns-in_err-r : goal.returns-in_err-r
returns-in_err-r c =
    λ n.
    let a = c.args in
    let r = c.in_err-r.ensures in
    let p = err_from_is_err_and c.from_residual.result c.from_residual.ensures.1 in
    rw (p.1, p.2) (fetch_refused (entry_shut a.limits a.text.now a.stacks.now a.s c.if-s.false n.count r) r.kept)

pub returns : goal.returns
returns c =
    λ n.
    let a = c.args in
    rw (c.moved.ensures, c.with_indents.ensures, c.one_character-l.ensures)
    (entry_goes a.limits a.text.now a.stacks.now a.s c.if-s.false c.requires.0 c.requires.1 c.in_ok-r.ensures c.remove_key.ensures n)
