use Prim.Native.Nat.{◌≤◌}
use mathlib.Core.Path.{◌≡◌}
use Rattle.sink.specs.Settle.{front, settled_words, total_records}
use Rattle.sink.proofs.settle.Given as goal

abbrev pub invariant-loop-i : goal.invariant-loop-i
invariant-loop-i l = (l.j ≤ l.t) × (l.j ≡ total_records (front l.i l.words)) × (settled_words l.n l.initial.words ≡ settled_words l.i l.words)
