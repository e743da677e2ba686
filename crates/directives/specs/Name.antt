-- A directive's name, and the words behind it.
use Rattle.std.specs.Prelude.{ℕ, List, [], ◌∷◌, ltb, drop}
use Rattle.yaml_text.specs.declared.Mark.{Mark}
use Rattle.yaml_text.specs.Char.{space}
use Rattle.yaml_text.specs.Class.{is_non_space}
use Rattle.yaml_text.specs.Mark.{Run, along, run_of}
use Rattle.yaml_text.specs.Pick.{pick}
use Rattle.yaml_text.specs.Utf8.{chars}
use Rattle.chars.specs.declared.mark.Place.{Place}
use Rattle.chars.specs.Parts.{Spans}
use Rattle.reading.specs.Answers.{behind_first}
use Rattle.reading.specs.Reading.{Indicated}

-- the name behind the indicator
abbrev pub name_in : List ℕ → Mark → Run
name_in text start = run_of is_non_space (along start) (chars (drop 1 text))

-- which ends at p
pub record NameAt (text : List ℕ) (start : Mark) (used : ℕ) (p : Place) : Type 0 where
  pub indicated : Indicated text start used
  pub name : Spans text (behind_first start) p (name_in text start)

-- what joins a word that goes to k to those before it, the first of which went to n
abbrev pub spaced : ℕ → ℕ → List ℕ
spaced n k = pick (ltb n k) (space ∷ []) []
