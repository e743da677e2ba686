use Prim.Native.Nat.{◌*◌, ◌+◌}
use mathlib.Core.Path.{◌≡◌}
use lib.ListN.{drop}
use Rattle.printing.specs.Written.{Writing}
use Rattle.vectors.specs.Vector.{hex_text}
use Rattle.vectors.proofs.write.put_hex.Given as goal

abbrev pub invariant-loop-b : goal.invariant-loop-b
invariant-loop-b l = (l.next ≡ l.at + 2 * l.b-index) × Writing l.initial.out l.at (hex_text l.bytes) l.out l.next (hex_text (drop l.b-index l.bytes))
