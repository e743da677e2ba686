-- What code answers for an escape, from the definition's.
use Rattle.std.specs.Prelude.{◌+◌, ◌<◌, ℕ, List, Result, Ok, Err, ◌≡◌}
use Rattle.yaml_text.specs.declared.Refusal.{Refusal}
use Rattle.yaml_text.specs.Mark.{along_by}
use Rattle.yaml_text.specs.Refusal.{Read, got, refused}
use Rattle.yaml_lexeme.specs.Escape as definition
use Rattle.chars.specs.View.{Stands}
use Rattle.chars.specs.declared.mark.Place.{Place}
use Rattle.escapes.specs.declared.answer.Escaped.{Escaped}

-- the escape whose first character, the backslash or the percent sign, stands at p
unfoldable pub escape_from : Place → Read definition.Escaped → Result Escaped Refusal
escape_from p (got e) = Ok (record { code = e.char; next = record { at = p.at + (e.took + 1); mark = along_by (e.took + 1) p.mark } })
escape_from p (refused n m) = Err (record { number = n; mark = m })

-- a character is a code point, and the place behind it stands in the text
abbrev pub EscapeEnds : List ℕ → Result Escaped Refusal → Type 0
EscapeEnds text (Ok e) = (e.code < 0x110000) × Stands text e.next
EscapeEnds text (Err f) = Unit {0}

pub record Escapes (text : List ℕ) (p : Place) (r : Result Escaped Refusal) (d : Read definition.Escaped) : Type 0 where
  pub same : r ≡ escape_from p d
  pub ahead : EscapeEnds text r
