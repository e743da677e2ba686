-- The prefix is written behind the handle.
use Rattle.std.proofs.Common.{arith, refl, sym}
use Rattle.std.proofs.lemmas.Result.{err_from_is_err_and}
use Rattle.runs.specs.RunLaws.{ran}
use Rattle.directives.proofs.Prefix.{prefix_bad, prefix_ended, prefix_followed, prefix_refused, prefix_some}
use Rattle.directives.proofs.tag.read_prefix.Goals as goal

pub returns-then-not-begins_prefix : goal.returns-then-not-begins_prefix
returns-then-not-begins_prefix c = rw c.refuse.ensures (prefix_bad _ c.skip_blanks-q.ensures c.byte.ensures (sym c.if-not-begins_prefix.ensures))

pub returns-in_err-w : goal.returns-in_err-w
returns-in_err-w c =
    let p = err_from_is_err_and c.from_residual.result c.from_residual.ensures.1 in
    rw (p.1, p.2) (prefix_refused _ c.skip_blanks-q.ensures (prefix_some _ c.byte.ensures (sym c.if-not-begins_prefix.ensures) c.in_err-w.ensures.writes))

pub returns-then-not-is_blank_or_breakz : goal.returns-then-not-is_blank_or_breakz
returns-then-not-is_blank_or_breakz c =
    let w = prefix_some _ c.byte.ensures (sym c.if-not-begins_prefix.ensures) c.in_ok-w.ensures.writes in
    rw c.refuse-then-not-is_blank_or_breakz.ensures (prefix_followed _ c.skip_blanks-q.ensures w c.look.ensures (sym c.if-not-is_blank_or_breakz.ensures))

pub overflow_sub-w : goal.overflow_sub-w
overflow_sub-w c = let t = (ran c.in_ok-w.ensures.writes refl).next in omega arith

pub returns : goal.returns
returns c =
    let g = c.requires in
    let w = prefix_some _ c.byte.ensures (sym c.if-not-begins_prefix.ensures) c.in_ok-w.ensures.writes in
    rw c.new.ensures
    (prefix_ended _ c.skip_blanks-q.ensures w c.look.ensures g.0 g.2 g.3 (sym c.if-not-is_blank_or_breakz.ensures)
    c.texts_at.ensures.0 refl c.texts_at.ensures.1)
