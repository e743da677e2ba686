use Rattle.yaml_text.specs.PlaceLaws.{left}
use Rattle.chars.specs.View.{view}
use Rattle.driver.proofs.Looping.{Looping}
use Rattle.driver.proofs.all_steps.Given as goal

abbrev pub invariant-loop-state : goal.invariant-loop-state
invariant-loop-state l = Looping l.limits l.single l.text l.initial.held l.initial.words l.initial.bytes l.base l.initial.t l.initial.k l.initial.w l.held l.words l.bytes l.t l.k l.w

abbrev pub decreases-loop-state : goal.decreases-loop-state
decreases-loop-state l = left (view l.text l.t.place)
