use Rattle.tokens.proofs.Going.{Going}
use Rattle.tokens.proofs.put_tokens.Given as goal

abbrev pub invariant-loop : goal.invariant-loop
invariant-loop l = Going l.text l.initial.words l.initial.bytes l.words l.bytes l.held
