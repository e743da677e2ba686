-- Invariant: the octets that were read, with those that are left, are all of them.
use Rattle.std.proofs.Common.{sym}
use Rattle.chars.specs.Reach.{reach_within}
use Rattle.escapes.proofs.Trail.{trailed_done, trailed_head, trailed_more, trailed_none, trailed_start}
use Rattle.escapes.proofs.percent.trailing.Goals as goal

pub loop-i-init : goal.loop-i-init
loop-i-init c = trailed_start _ _ _ _

pub octet-requires : goal.octet-requires
octet-requires c = (reach_within c.loop-i.invariant.read c.requires.0).0

pub returns-in_default : goal.returns-in_default
returns-in_default c = rw c.refuse.ensures (trailed_none c.loop-i.invariant c.loop-i-test.true c.in_default.ensures)

pub returns-then-not-is_tail : goal.returns-then-not-is_tail
returns-then-not-is_tail c =
    rw c.refuse-then-not-is_tail.ensures (trailed_head c.loop-i.invariant c.loop-i-test.true c.in-Some.ensures (sym c.if-not-is_tail.ensures))

pub loop-i-preserved : goal.loop-i-preserved
loop-i-preserved c = trailed_more c.loop-i.invariant c.loop-i-test.true c.in-Some.ensures (sym c.if-not-is_tail.ensures)

pub returns : goal.returns
returns c = trailed_done c.loop-i.invariant c.loop-i.auto.i-end c.loop-i-test.false
