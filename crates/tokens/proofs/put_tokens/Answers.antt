-- Each turn is one call more of the stream, so behind "ended" 01 accepts the text.
use Rattle.std.specs.Prelude.{Ok}
use Rattle.std.proofs.Common.{◌∙◌, ap, rules}
use Rattle.tokens.proofs.Going.{going_ended, going_on, going_start}
use Rattle.tokens.proofs.put_tokens.Goals as goal

pub loop-init : goal.loop-init
loop-init c = going_start _ _ _

pub returns-in-Ok-Ended : goal.returns-in-Ok-Ended
returns-in-Ok-Ended c = going_ended c.loop.invariant c.next_token.ensures (c.in-Ok-Ended.is ∙ ap Ok c.in-Ok-Ended.field-0-is)

pub loop-preserved : goal.loop-preserved
loop-preserved c = going_on c.loop.invariant c.next_token.ensures (c.in-Ok-Token.is ∙ ap Ok c.in-Ok-Token.field-0-is) (search rules) (search rules)
