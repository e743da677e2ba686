-- A place of the code, seen as the definition's: what is left of the text's characters, with the mark.
use Rattle.std.specs.Prelude.{◌+◌, ◌^◌, ◌<◌, ◌≤◌, ℕ, List, ◌≡◌, drop, length}
use Rattle.yaml_text.specs.declared.Mark.{Mark}
use Rattle.yaml_text.specs.Utf8.{chars}
use Rattle.yaml_text.specs.Mark.{here}
use Rattle.yaml_text.specs.Mark as definition
use Rattle.chars.specs.declared.mark.Place.{Place}

abbrev pub view : List ℕ → Place → definition.Place
view text p = here p.mark (chars (drop p.at text))

-- n bytes on, with the mark m
abbrev pub past : Place → ℕ → Mark → Place
past p n m = record { at = p.at + n; mark = m }

-- no move of a place wraps
pub record Small (p : Place) : Type 0 where
  pub at : p.at < 2 ^ 63
  pub index : p.mark.index < 2 ^ 31
  pub line : p.mark.line < 2 ^ 31
  pub col : p.mark.col < 2 ^ 31

-- a place within a text whose characters are all counted below 2 ^ 20
pub record Stands (text : List ℕ) (p : Place) : Type 0 where
  pub within : p.at ≤ length text
  pub index : p.mark.index + length text ≤ 1_048_576 + p.at
  pub line : p.mark.line ≤ p.mark.index + 1
  pub col : p.mark.col ≤ p.mark.index

-- the code moved from p to r, and the definition to q
pub record Moves (text : List ℕ) (p r : Place) (q : definition.Place) : Type 0 where
  pub same : view text r ≡ q
  pub stands : Stands text r
  pub onward : p.at ≤ r.at
