-- What is left to read and write from a word on gives all parameters.
use Rattle.std.proofs.Common.{refl, sym}
use Rattle.directives.proofs.Joining.{joining_done, joining_from, joining_more, joining_start, word_none, word_some}
use Rattle.directives.proofs.Spans.{span_long}
use Rattle.directives.proofs.reserved.read_parameters.Goals as goal

pub loop-word-init : goal.loop-word-init
loop-word-init c = joining_start _ c.skip_blanks-place.ensures

pub returns-then-is_empty : goal.returns-then-is_empty
returns-then-is_empty c =
    joining_from c.skip_blanks-place.ensures
    (joining_done c.loop-word.invariant c.run_of-e.ensures (word_none c.loop-word.invariant c.run_of-e.ensures (sym c.if-is_empty.ensures)))

pub loop-word-preserved : goal.loop-word-preserved
loop-word-preserved c =
    rw (span_long c.run_of-e.ensures)
    (joining_more c.loop-word.invariant c.run_of-e.ensures (word_some c.loop-word.invariant c.run_of-e.ensures (sym c.if-is_empty.ensures))
    c.put_space-count.ensures.0 c.put_space-count.ensures.1 c.copy.ensures refl c.skip_blanks-place-in-loop-word.ensures)
