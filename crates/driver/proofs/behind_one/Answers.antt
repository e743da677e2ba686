-- What is pending then has a number from that of slot 0 on.
use Prim.Native.Nat.{suc}
use Rattle.stacks.specs.Frame.{frame_keys}
use Rattle.driver.proofs.Halts.{then_least}
use Rattle.driver.proofs.behind_one.Goals as goal

pub if_enough-requires : goal.if_enough-requires
if_enough-requires c =
    let a = c.args in
    then_least a.level (frame_keys a.stacks.now (suc a.t.flow_level)) a.t.flow_level a.k c.requires.2 c.then_pending.ensures
