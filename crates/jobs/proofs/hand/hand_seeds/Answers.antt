-- Each call hands a seed over, or closes the job as the definition does. No job is lost, and none hands so many seeds over.
use Rattle.std.specs.Prelude.{refl}
use Rattle.std.proofs.Common.{arith, rules}
use Rattle.jobs.proofs.On.{on_begin, on_closed, on_few, on_lost, on_more}
use Rattle.jobs.proofs.hand.hand_seeds.Goals as goal

pub loop-init : goal.loop-init
loop-init c = on_begin _ _ _ _

pub returns-in-Closed : goal.returns-in-Closed
returns-in-Closed c = on_closed c.loop.invariant c.requires c.next_seed.ensures c.in-Closed.is

pub returns-in-Lost : goal.returns-in-Lost
returns-in-Lost c = on_lost c.loop.invariant c.requires c.next_seed.ensures c.in-Lost.is

pub loop-preserved : goal.loop-preserved
loop-preserved c = on_more c.loop.invariant c.next_seed.ensures c.in-Seed.is (search rules) (search rules) refl

pub returns : goal.returns
returns c = omega (arith, on_few c.loop.invariant c.requires, c.loop-test.false)
