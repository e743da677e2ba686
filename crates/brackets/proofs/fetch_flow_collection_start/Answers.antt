-- All that refuses is asked before the words are touched; then the candidate, the entry and the level are those of the definition.
use Rattle.std.proofs.Common.{◌∙◌, ap, arith, false, refl}
use Rattle.std.proofs.lemmas.Result.{err_from_is_err_and}
use Rattle.yaml_text.specs.Pick.{pick}
use Rattle.yaml_lexeme.specs.Token.{FlowMappingStart, FlowSequenceStart}
use Rattle.states.specs.Answer.{fetch_refused, lent_kept}
use Rattle.brackets.specs.Emit.{emit_bracket}
use Rattle.brackets.proofs.Emitted.{emits_to, opens}
use Rattle.brackets.proofs.Levels.{start_deep, start_emits, start_full, start_refused, start_state, start_words}
use Rattle.brackets.proofs.fetch_flow_collection_start.Goals as goal

pub returns-then-entry-limits : goal.returns-then-entry-limits
returns-then-entry-limits c =
    let a = c.args in
    rw c.full.ensures
    (fetch_refused (start_full a.limits a.sequence a.text.now a.stacks.now a.n.count a.s c.needs_entry-entry.ensures c.if-entry-limits.true) refl)

pub returns-then-limits-s : goal.returns-then-limits-s
returns-then-limits-s c =
    let a = c.args in
    rw c.refuse.ensures
    (fetch_refused (start_deep a.limits a.sequence a.text.now a.stacks.now a.n.count a.s c.needs_entry-entry.ensures c.if-entry-limits.false c.if-limits-s.true) refl)

pub returns-in_err-next : goal.returns-in_err-next
returns-in_err-next c =
    let a = c.args in
    let p = err_from_is_err_and c.from_residual.result c.from_residual.ensures.1 in
    rw (p.1, p.2)
    (fetch_refused
    (start_refused a.limits a.sequence a.text.now a.stacks.now a.n.count a.s c.needs_entry-entry.ensures c.if-entry-limits.false c.if-limits-s.false
    c.requires.0.stands c.requires.1 (rw c.skip_blank.ensures at c.in_err-next.ensures))
    refl)

pub stack_bracket-i-requires : goal.stack_bracket-i-requires
stack_bracket-i-requires c =
    let y = c.requires.0 in
    record {
      room = c.if-entry-limits.false;
      low = y.low;
      lent = lent_kept (omega arith) y.lent;
    }

pub returns : goal.returns
returns c =
    let a = c.args in
    let y = c.requires.0 in
    let i = c.stack_bracket-i.ensures in
    let entry = c.needs_entry-entry.ensures in
    rw (c.past.ensures, c.pick-kind.ensures, c.with_level-t.ensures, c.with_indents.ensures)
    (emits_to false false y.stands c.requires.1 (rw c.skip_blank.ensures at c.in_ok-next.ensures) (opens a.sequence)
    i.low
    (omega (arith, c.if-limits-s.false))
    (start_emits a.limits a.sequence a.text.now a.stacks.now a.n.count a.s entry c.if-entry-limits.false c.if-limits-s.false
    ∙ ap (emit_bracket (pick a.sequence FlowSequenceStart FlowMappingStart) false false)
    (start_state c.save_key.ensures i c.open_level.ensures (omega (arith, i.low.deep, y.lent.entries_most)) a.text.now))
    (start_words c.save_key.ensures i c.open_level.ensures entry))
