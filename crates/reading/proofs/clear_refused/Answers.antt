-- A refusal is cleared, a token is left as it is.
use Rattle.std.proofs.Common.{sym, ◌∙◌}
use Rattle.reading.proofs.Laws.{clears_kept, clears_refused}
use Rattle.reading.proofs.clear_refused.Goals as goal

pub returns-then-is_err : goal.returns-then-is_err
returns-then-is_err c = clears_refused _ (sym c.is_err.ensures.value ∙ c.if-is_err.true) c.clear.ensures

pub returns-else-is_err : goal.returns-else-is_err
returns-else-is_err c = clears_kept _ (sym c.is_err.ensures.value ∙ c.if-is_err.false)
