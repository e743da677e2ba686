-- %TAG: its handle as code answers it, and what follows the handle.
use Rattle.std.specs.Prelude.{ℕ, List, Result, Ok, Err}
use Rattle.yaml_text.specs.declared.Mark.{Mark}
use Rattle.yaml_text.specs.declared.Refusal.{Refusal}
use Rattle.yaml_text.specs.Class.{is_blank_or_breakz}
use Rattle.yaml_text.specs.Mark.{Run, look}
use Rattle.yaml_text.specs.Mark as definition
use Rattle.yaml_text.specs.Refusal.{Read, ◌>>=◌, got, need, refused}
use Rattle.yaml_lexeme.specs.Directive.{blanks_at, tag_prefix}
use Rattle.yaml_lexeme.specs.Token.{Lexeme, TagDirective, lexeme}
use Rattle.chars.specs.declared.mark.Place.{Place}
use Rattle.chars.specs.Parts.{Spans}

-- a handle that begins at p, or a refusal
pub data Handles (text : List ℕ) (p : Place) : Result Place Refusal → Read Run → Type 0 where
  handle : {q : Place} {h : Run} → Spans text p q h → Handles text p (Ok q) (got h)
  no_handle : {n : ℕ} {m : Mark} → Handles text p (Err (record { number = n; mark = m })) (refused n m)

-- the prefix behind the handle; 19: no blank after it
unfoldable pub prefix_run : Mark → definition.Place → Read Run
prefix_run start p = do
  r ← tag_prefix start (blanks_at p)
  _ ← need (is_blank_or_breakz (look r.place)) 19 start
  got r

-- the directive of the handle h
abbrev pub tag_of : Mark → List ℕ → Run → Lexeme
tag_of start h r = lexeme (TagDirective h r.text) start r.place.mark r.place
