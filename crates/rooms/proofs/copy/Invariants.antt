use Rattle.std.specs.Prelude.{◌+◌, ◌≡◌, drop, length}
use Rattle.std.proofs.lemmas.List.Edits.{sets}
use Rattle.rooms.proofs.copy.Given as goal

abbrev pub invariant-loop-i : goal.invariant-loop-i
invariant-loop-i g l = (length l.out ≡ length l.initial.out) × (sets l.initial.out l.n l.s ≡ sets l.out (l.n + l.i) (drop l.i l.s))
