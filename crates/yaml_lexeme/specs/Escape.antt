-- The escapes of double quotes (YAML 1.2.2, 5.7; 37 to 39): an escape is one character with how many characters it takes, or a refusal at the scalar's start.
use Rattle.std.specs.Prelude.{◌*◌, ◌+◌, suc, zero, ℕ, false, true, List, [], ◌∷◌, drop}
use Rattle.yaml_text.specs.declared.Mark.{Mark}
use Rattle.yaml_text.specs.Char.{'0', 'L', 'N', 'P', 'U', 'a', 'b', 'e', 'f', 'n', 'r', 't', 'u', 'v', 'x', backslash, double_quote, slash, space, tab, underscore}
use Rattle.yaml_text.specs.Utf8.{is_scalar}
use Rattle.yaml_text.specs.Class.{as_hex, is_hex, peek}
use Rattle.yaml_text.specs.Refusal.{Read, ◌>>=◌, got, need, refused}
use Rattle.yaml_lexeme.specs.declared.Named.{Named}
use Rattle.yaml_lexeme.specs.declared.Named.TheVariants.{Digits, Stands, Unknown}
use Rattle.yaml_lexeme.specs.Table.{looked_up}

pub record Escaped : Type 0 where
  pub char : ℕ
  -- how many characters it takes behind its first one (the backslash, the percent sign)
  pub took : ℕ

-- a letter behind the backslash, with what it is
abbrev pub Row : Type 0
Row = ℕ × Named

-- it stands for this character
infix 20 ◌stands_for◌
abbrev pub ◌stands_for◌ : ℕ → ℕ → Row
c stands_for k = (c, Stands k)

-- so many hexadecimal digits follow it
infix 20 ◌takes◌
abbrev pub ◌takes◌ : ℕ → ℕ → Row
c takes n = (c, Digits n)

-- in the order of 5.7
abbrev pub escapes : List Row
escapes =
    ('0' stands_for 0x00)
    ∷ ('a' stands_for 0x07)
    ∷ ('b' stands_for 0x08)
    ∷ ('t' stands_for 0x09)
    ∷ (tab stands_for 0x09)
    ∷ ('n' stands_for 0x0A)
    ∷ ('v' stands_for 0x0B)
    ∷ ('f' stands_for 0x0C)
    ∷ ('r' stands_for 0x0D)
    ∷ ('e' stands_for 0x1B)
    ∷ (space stands_for 0x20)
    ∷ (double_quote stands_for 0x22)
    ∷ (slash stands_for 0x2F)
    ∷ (backslash stands_for 0x5C)
    ∷ ('N' stands_for 0x85)
    ∷ (underscore stands_for 0xA0)
    ∷ ('L' stands_for 0x2028)
    ∷ ('P' stands_for 0x2029)
    ∷ ('x' takes 2)
    ∷ ('u' takes 4)
    ∷ ('U' takes 8)
    ∷ []

unfoldable pub named : ℕ → Named
named c = looked_up Unknown c escapes

-- n hexadecimal digits, behind those of the value v; 38: one is missing
unfoldable pub hex_number : Mark → ℕ → ℕ → List ℕ → Read ℕ
hex_number start zero v cs = got v
hex_number start (suc n) v cs =
    elim (is_hex (peek cs 0)) [
      | true ↦ hex_number start n (v * 16 + as_hex (peek cs 0)) (drop 1 cs)
      | false ↦ refused 38 start
    ]

-- 37: an unknown escape, or the end; 39: a surrogate or above 0x10FFFF. cs: the text behind the letter [E2, E7, H8]
unfoldable pub escape_of : Mark → Named → List ℕ → Read Escaped
escape_of start (Stands c) cs = got (record { char = c; took = 1 })
escape_of start (Digits n) cs = do
  v ← hex_number start n 0 cs
  _ ← need (is_scalar 0 v) 39 start
  got (record { char = v; took = n + 1 })
escape_of start Unknown cs = refused 37 start

-- cs: the text behind the backslash
unfoldable pub escape : Mark → List ℕ → Read Escaped
escape start cs = escape_of start (named (peek cs 0)) (drop 1 cs)
