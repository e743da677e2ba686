-- BlockEnds are stored one by one: those that are left give the whole.
use mathlib.Core.Path.{◌∙◌, refl, sym}
use native.Mathlib.Omega.{arith}
use Rattle.sink.proofs.Storing.{ends_more, ends_none}
use Rattle.sink.proofs.put_ends.Goals as goal

pub loop-i-preserved : goal.loop-i-preserved
loop-i-preserved c = let l = c.loop-i in l.invariant ∙ ends_more l.words _ _ l.i _ _ c.loop-i-test.true refl c.put_empty_token.ensures.1

pub returns : goal.returns
returns c = let l = c.loop-i in (refl, sym (l.invariant ∙ ends_none l.words _ l.i _ (omega (arith, c.loop-i-test.false))))
