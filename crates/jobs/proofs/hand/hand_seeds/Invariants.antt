use Rattle.jobs.proofs.On.{On}
use Rattle.jobs.proofs.hand.hand_seeds.Given as goal

abbrev pub invariant-loop : goal.invariant-loop
invariant-loop l = On l.text l.initial.state l.initial.words l.initial.bytes l.state l.words l.bytes l.counter
