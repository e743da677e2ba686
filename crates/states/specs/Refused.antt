-- The lent bytes where a token is refused, by the choice that was made for it.
use Rattle.std.specs.Prelude.{ℕ, Bool, false, true, List}
use Rattle.yaml_text.specs.Pick.{pick}
use Rattle.yaml_scan.specs.declared.Choice.{Choice}
use Rattle.yaml_scan.specs.declared.Choice.TheVariants.{AtAnchor, AtBlock, AtByteOrderMark, AtColon, AtComma, AtDash, AtDirective, AtEnd, AtMarker, AtPlain, AtQuestion, AtQuoted, AtTag, BelowIndent, Closes, Opens, Stray}
use Rattle.rooms.specs.Room.{cleared}

-- the lexemes that hold text
abbrev pub has_text : Choice → Bool
has_text AtDirective = true
has_text AtTag = true
has_text AtPlain = true
has_text (AtAnchor alias) = true
has_text (AtBlock literal) = true
has_text (AtQuoted single) = true
has_text AtEnd = false
has_text AtByteOrderMark = false
has_text BelowIndent = false
has_text Stray = false
has_text (AtMarker starts) = false
has_text (Opens sequence) = false
has_text (Closes sequence) = false
has_text AtComma = false
has_text AtDash = false
has_text AtQuestion = false
has_text AtColon = false

-- the lent bytes where it is refused: a lexeme that holds text leaves zeros behind those used so far, any other leaves them as they are
abbrev pub choice_bytes : Choice → List ℕ → ℕ → List ℕ
choice_bytes c before used = pick (has_text c) (cleared before used) before
