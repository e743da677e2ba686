-- A record is a word, and numbers behind it.
use Prim.Native.Nat.{ℕ}
use mathlib.Core.List.{List, [], ◌∷◌}
use mathlib.Core.Path.{◌≡◌}
use Rattle.yaml_text.specs.declared.Mark.{Mark}
use Rattle.printing.specs.Lines.{numbers_line}
use Rattle.printing.specs.Written.{Written, written_then}
use Rattle.yaml_job.specs.declared.Closing.{Closing}
use Rattle.yaml_job.specs.declared.Closing.TheVariants.{Done, NotDone}
use Rattle.closings.specs.Record.{done_word, not_done_word, record_text, told_column}

pub done_written : (c : Closing) {n k r : ℕ} {l m o : List ℕ} → c ≡ Done n → Written l 0 done_word m k → Written m k (numbers_line 32 10 (n ∷ [])) o r
    → Written l 0 (record_text c) o r
unfolding record_text
done_written c e v w = rw e (written_then v w)

pub not_done_written : (c : Closing) {i n k r j : ℕ} {s : Mark} {l m o : List ℕ} → c ≡ NotDone i s n → j ≡ told_column s.col → Written l 0 not_done_word m k
    → Written m k (numbers_line 32 10 (i ∷ s.line ∷ j ∷ n ∷ [])) o r → Written l 0 (record_text c) o r
unfolding record_text
not_done_written c e f v w = rw (e, ← f) (written_then v w)
