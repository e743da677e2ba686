use Prim.Native.Nat.{◌*◌, ◌+◌, ◌≤◌}
use lib.ListN.{drop}
use Rattle.printing.specs.Lines.{numbers_line}
use Rattle.printing.specs.Written.{Writing}
use Rattle.printing.proofs.put_numbers.Given as goal

abbrev pub invariant-loop-i : goal.invariant-loop-i
invariant-loop-i l =
    (l.next ≤ l.at + 11 * l.i) ×
    Writing l.initial.out l.at (numbers_line l.between l.end l.numbers) l.out l.next (numbers_line l.between l.end (drop l.i l.numbers))
