use Rattle.std.specs.Prelude.{◌+◌, ◌≡◌, drop, length}
use Rattle.std.proofs.lemmas.List.Edits.{sets}
use Rattle.records.proofs.store.Given as goal

abbrev pub invariant-loop-i : goal.invariant-loop-i
invariant-loop-i l = (length l.words ≡ length l.initial.words) × (sets l.initial.words l.at l.r ≡ sets l.words (l.at + l.i) (drop l.i l.r))
