use Prim.Native.Nat.{◌-◌}
use mathlib.Core.Path.{◌≡◌}
use Rattle.sink.specs.StepTokens.{end_tokens}
use Rattle.sink.specs.Store.{put_list}
use Rattle.sink.proofs.put_ends.Given as goal

abbrev pub invariant-loop-i : goal.invariant-loop-i
invariant-loop-i l = put_list l.initial.words l.n (end_tokens l.k l.m) ≡ put_list l.words l.i (end_tokens (l.end - l.i) l.m)
