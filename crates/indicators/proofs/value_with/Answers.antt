-- The roll comes first, and where it refuses nothing was stored; then the candidate goes and the level saw a ':'.
use Rattle.std.proofs.lemmas.Result.{err_from_is_err_and}
use Rattle.states.specs.Answer.{fetch_refused}
use Rattle.indicators.proofs.Value.{coloned_with, rollable_key, with_goes, with_shut}
use Rattle.indicators.proofs.value_with.Goals as goal

pub roll_at-requires : goal.roll_at-requires
roll_at-requires c = let p = c.requires in rollable_key p.0 p.2

pub returns-in_err-r : goal.returns-in_err-r
returns-in_err-r c =
    λ n.
    let a = c.args in
    let r = c.in_err-r.ensures in
    let p = err_from_is_err_and c.from_residual.result c.from_residual.ensures.1 in
    rw (p.1, p.2) (fetch_refused (with_shut a.text.now a.stacks.now a.s a.number a.m n.count r) r.kept)

pub returns : goal.returns
returns c =
    λ n.
    let a = c.args in
    let r = c.in_ok-r.ensures in
    rw (c.emit_indicator.ensures, c.with_indents.ensures, c.note_of-note.ensures)
    (with_goes a.text.now a.stacks.now a.s a.number a.m c.requires.0 c.requires.1 c.requires.2 r
    (coloned_with a.s.flow_level r.frames c.clear_key.ensures c.colon_seen-pair.ensures) n)
