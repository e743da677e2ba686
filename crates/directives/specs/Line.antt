-- The rest of a directive's line.
use Rattle.std.specs.Prelude.{ℕ, List, Result, ◌≡◌}
use Rattle.yaml_text.specs.declared.Mark.{Mark}
use Rattle.yaml_text.specs.declared.Refusal.{Refusal}
use Rattle.yaml_text.specs.Class.{is_breakz}
use Rattle.yaml_text.specs.Mark.{look, skip_break}
use Rattle.yaml_text.specs.Refusal.{Read, ◌>>=◌, got, need}
use Rattle.yaml_lexeme.specs.Gap.{blanks_and_comment}
use Rattle.chars.specs.View.{view}
use Rattle.reading.specs.declared.Lexeme.{Lexeme}
use Rattle.reading.specs.Reading.{ReadsAhead, Seen, seen}

-- behind a token, and past the line
unfoldable pub line_rest : Mark → Seen → Read Seen
line_rest start s = do
  e ← blanks_and_comment s.place
  _ ← need (is_breakz (look e)) 15 start
  got (record { token = s.token; place = skip_break e })

pub record LineEnds (text : List ℕ) (start : Mark) (l : Lexeme) (r : Result Lexeme Refusal) : Type 0 where
  pub same : seen text r ≡ line_rest start (record { token = l.token; place = view text l.next })
  pub ahead : ReadsAhead text r
