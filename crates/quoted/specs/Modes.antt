-- What code keeps back, seen as the definition's mode.
use Rattle.std.specs.Prelude.{◌+◌, ◌-◌, ◌≤◌, ℕ, Bool, false, not, true, List, Result, Ok, Err, ⊤, ◌≡◌, eqb, ltb}
use Rattle.yaml_text.specs.declared.Mark.{Mark}
use Rattle.yaml_text.specs.declared.Refusal.{Refusal}
use Rattle.yaml_text.specs.Class.{peek}
use Rattle.yaml_text.specs.Mark.{edge_of, is_marker}
use Rattle.yaml_text.specs.Pick.{pick}
use Rattle.yaml_text.specs.Utf8.{encode}
use Rattle.yaml_lexeme.specs.Quoted.{blanks_of, chars_of, folded, folds_to, joined, quote_char}
use Rattle.yaml_lexeme.specs.Quoted as definition
use Rattle.chars.specs.Parts.{part}
use Rattle.reading.specs.Puts.{Puts}
use Rattle.quoted.specs.declared.fold.Mode.{Mode}
use Rattle.quoted.specs.declared.fold.Mode.TheVariants.{Blanks, Chars, Escaped, Folded, Joined}

-- at an offset of the text
unfoldable pub mode_of : List ℕ → ℕ → Mode → definition.Mode
mode_of text at Chars = chars_of
mode_of text at (Blanks from) = blanks_of (part text from at)
mode_of text at (Folded k) = folded k
mode_of text at Escaped = joined 0 true
mode_of text at (Joined k) = joined k false

-- blanks are of one byte each: their bytes are their characters
abbrev pub BlanksKept : List ℕ → ℕ → Mode → Type 0
BlanksKept text at Chars = Unit {0}
BlanksKept text at (Blanks from) = (from ≤ at) × (encode (part text from at) ≡ part text from at)
BlanksKept text at (Folded k) = Unit {0}
BlanksKept text at Escaped = Unit {0}
BlanksKept text at (Joined k) = Unit {0}

-- how many bytes may come of it, at most
abbrev pub owed : ℕ → Mode → ℕ
owed at Chars = 0
owed at (Blanks from) = at - from
owed at (Folded k) = k + 1
owed at Escaped = 0
owed at (Joined k) = k

-- behind a blank at an offset
unfoldable pub blank_mode : ℕ → Mode → Mode
blank_mode at Chars = Blanks at
blank_mode at (Blanks from) = Blanks from
blank_mode at (Folded k) = Folded k
blank_mode at Escaped = Joined 0
blank_mode at (Joined k) = Joined k

-- behind a break
unfoldable pub break_mode : Mode → Mode
break_mode Chars = Folded 0
break_mode (Blanks from) = Folded 0
break_mode (Folded k) = Folded (k + 1)
break_mode Escaped = Joined 1
break_mode (Joined k) = Joined (k + 1)

-- a break came before, and no text since
abbrev pub behind_break : Mode → Bool
behind_break Chars = false
behind_break (Blanks from) = false
behind_break (Folded k) = true
behind_break Escaped = true
behind_break (Joined k) = true

-- text here is held against a document marker and the indent. quote: it is the closing quote
abbrev pub held_against : Mode → Bool → Bool
held_against Chars quote = false
held_against (Blanks from) quote = true
held_against (Folded k) quote = true
held_against Escaped quote = not quote
held_against (Joined k) quote = true

-- 33, 35
unfoldable pub line_held : definition.Quote → Mode → Mark → List ℕ → Result ⊤ Refusal
line_held q mode m cs =
    pick (held_against mode (eqb (peek cs 0) (quote_char q)))
    (pick (is_marker m cs) (Err (record { number = 33; mark = q.start }))
    (pick (ltb (edge_of m) q.indent) (Err (record { number = 35; mark = q.start })) (Ok tt)))
    (Ok tt)

-- what is kept back at an offset was stored from n on, and the next byte goes to r
pub record PutsKept (text : List ℕ) (at : ℕ) (mode : Mode) (n : ℕ) (before after : List ℕ) (r : ℕ) : Type 0 where
  pub puts : Puts before n after r (folds_to (mode_of text at mode))
  pub few : r ≤ n + owed at mode
