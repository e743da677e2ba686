-- A plain scalar's text, on bytes.
use Rattle.std.specs.Prelude.{◌+◌, ℕ, Bool, ◌&&◌, ◌||◌, List, Option, None, Some, leb, drop}
use Rattle.yaml_text.specs.declared.Decoded.{Decoded}
use Rattle.yaml_text.specs.declared.Decoded.TheVariants.{Char, End, Ill}
use Rattle.yaml_text.specs.Class.{is_blank_or_breakz, is_flow, peek}
use Rattle.yaml_text.specs.Pick.{pick}
use Rattle.yaml_text.specs.Utf8.{chars, first, is_tail}
use Rattle.yaml_lexeme.specs.Plain.{plain_stops}

-- a ':' before the character d ends it
unfoldable pub ends_at_colon : Bool → ℕ → Bool
ends_at_colon flow d = is_blank_or_breakz d || (flow && is_flow d)

-- how many bytes the character at a place takes, if it is text
unfoldable pub taken : Bool → Bool → List ℕ → ℕ → Decoded → Option ℕ
taken flow blank s at (Char c n) = pick (plain_stops flow blank c (peek (chars (drop (at + n) s)) 0)) None (Some n)
taken flow blank s at Ill = None
taken flow blank s at End = None

abbrev pub text_length : Bool → Bool → List ℕ → ℕ → Option ℕ
text_length flow blank s at = taken flow blank s at (first (drop at s))

-- three bytes that are one character by their form
unfoldable pub usual : ℕ → ℕ → ℕ → Bool
usual a b c = leb 225 a && leb a 236 && (is_tail b && is_tail c)
