-- The line of a closing record.
use Rattle.std.specs.Prelude.{◌+◌, ℕ, List, [], ◌++◌, ◌∷◌}
use Rattle.stacks.specs.Most.{at_most}
use Rattle.printing.specs.Lines.{numbers_line}
use Rattle.yaml_job.specs.declared.Closing.{Closing}
use Rattle.yaml_job.specs.declared.Closing.TheVariants.{Done, NotDone}

-- columns are told from 1 on
abbrev pub told_column : ℕ → ℕ
told_column n = at_most 4_294_967_294 n + 1

-- "done ", "not done "
abbrev pub done_word : List ℕ
done_word = 100 ∷ 111 ∷ 110 ∷ 101 ∷ 32 ∷ []

abbrev pub not_done_word : List ℕ
not_done_word = 110 ∷ 111 ∷ 116 ∷ 32 ∷ done_word

-- `done COUNT`, or `not done NUMBER LINE COLUMN COUNT`
unfoldable pub record_text : Closing → List ℕ
record_text (Done n) = done_word ++ numbers_line 32 10 (n ∷ [])
record_text (NotDone r m n) = not_done_word ++ numbers_line 32 10 (r ∷ m.line ∷ told_column m.col ∷ n ∷ [])
