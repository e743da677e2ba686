-- What was stored, with what was left to be stored, is the whole: and nothing is left.
use Rattle.std.proofs.Common.{◌∙◌, arith, sym}
use Rattle.rooms.proofs.Copied.{none_left}
use Rattle.rooms.proofs.copy.Goals as goal

pub returns-after-loop-i : goal.returns-after-loop-i
returns-after-loop-i g c =
    let l = c.loop-i in
    let a = c.args in
    sym (l.invariant.1 ∙ none_left l.out a.s.now a.n c.min-count.result l.i (rw l.invariant.0 c.min-count.ensures) (omega arith))
