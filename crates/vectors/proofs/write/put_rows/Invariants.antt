use Prim.Native.Nat.{◌*◌, ◌+◌, ◌-◌, ◌≤◌}
use lib.ListN.{drop}
use Rattle.yaml_lexeme.specs.Record.{record_words}
use Rattle.printing.specs.Written.{Writing}
use Rattle.vectors.specs.Vector.{rows_text}
use Rattle.vectors.proofs.write.put_rows.Given as goal

abbrev pub invariant-loop-n : goal.invariant-loop-n
invariant-loop-n l = (l.next ≤ l.at + 132 * l.n) × Writing l.initial.out l.at (rows_text l.t l.words) l.out l.next (rows_text (l.t - l.n) (drop (l.n * record_words) l.words))
