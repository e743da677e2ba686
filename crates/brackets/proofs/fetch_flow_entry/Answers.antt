-- The rest of the line is read first; then the candidate goes and the level's data are fresh, as the definition has it.
use Rattle.std.proofs.Common.{false, refl}
use Rattle.std.proofs.lemmas.Result.{err_from_is_err_and}
use Rattle.states.specs.Answer.{fetch_refused, ready_key}
use Rattle.brackets.proofs.Emitted.{comma, emits_to}
use Rattle.brackets.proofs.Levels.{entry_goes, entry_refused, entry_words_left}
use Rattle.brackets.proofs.fetch_flow_entry.Goals as goal

pub returns-in_err-next : goal.returns-in_err-next
returns-in_err-next c =
    λ n.
    let p = err_from_is_err_and c.from_residual.result c.from_residual.ensures.1 in
    rw (p.1, p.2)
    (fetch_refused (entry_refused c.args.stacks.now n.count c.args.s c.requires.0.stands c.requires.1 (rw c.skip_blank.ensures at c.in_err-next.ensures)) refl)

pub returns : goal.returns
returns c =
    λ n.
    let y = c.requires.0 in
    let l = c.level_data-l in
    rw c.past.ensures
    (emits_to l.result.implicit false y.stands c.requires.1 (rw c.skip_blank.ensures at c.in_ok-next.ensures) comma
    y.low
    y.deep
    (entry_goes c.remove_key.ensures l.ensures c.set_level.ensures c.new_level.ensures (ready_key y).1 c.requires.2 c.args.text.now n.count)
    (entry_words_left c.remove_key.ensures l.ensures c.set_level.ensures c.new_level.ensures))
