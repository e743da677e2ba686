use Prim.Native.Nat.{◌*◌, ◌+◌, ◌-◌, ◌≤◌}
use lib.ListN.{drop}
use Rattle.yaml_lexeme.specs.Record.{record_words}
use Rattle.printing.specs.Lines.{lines_text}
use Rattle.printing.specs.Listing.{token_lines}
use Rattle.printing.specs.Written.{Writing}
use Rattle.printing.proofs.put_records.Given as goal

abbrev pub invariant-loop-n : goal.invariant-loop-n
invariant-loop-n l =
    (l.next ≤ l.at + 110 * l.n) ×
    Writing l.initial.out l.at (lines_text (token_lines l.t l.words)) l.out l.next (lines_text (token_lines (l.t - l.n) (drop (l.n * record_words) l.words)))
