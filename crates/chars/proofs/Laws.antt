-- What the classes come to.
use Prim.Native.Nat.{◌<◌, ◌≤◌, ℕ}
use mathlib.Core.Bool.{Bool, ◌&&◌, ◌||◌, and-false, false, true}
use mathlib.Core.Path.{◌∙◌, ◌≡◌, sym}
use native.Mathlib.Omega.{arith}
use lib.Dec.{eqb, leb, ltb}
use borrow.Author.Tests.{lt-leb, ltb-false, ltb-true}
use Rattle.yaml_text.specs.Test.{by_test, true_false}
use Rattle.yaml_text.specs.Class.{among, is_alpha, is_digit, is_hex, is_uri, is_word}
use Rattle.chars.specs.Ascii.{Ascii, ◌or◌, ascii_same, one, range, uri_ascii}

-- the characters of a URI, by ranges
unfoldable pub uri_ranges : ℕ → Bool
uri_ranges c =
    eqb c 33
    || (leb 35 c && leb c 59)
    || eqb c 61
    || (leb 63 c && leb c 91)
    || eqb c 93
    || eqb c 95
    || (leb 97 c && leb c 122)
    || eqb c 126

ranges_ascii : Ascii uri_ranges
unfolding uri_ranges
ranges_ascii =
    one 33 tt or range 35 59 tt tt or one 61 tt or range 63 91 tt tt or one 93 tt or one 95 tt or range 97 122 tt tt or one 126 tt

pub uri_same : (c : ℕ) → uri_ranges c ≡ is_uri c
unfolding uri_ranges is_uri is_word is_alpha is_digit among
uri_same = ascii_same ranges_ascii uri_ascii tt

-- where no hexadecimal digit stands
hex_below : (c : ℕ) → c < 48 → is_hex c ≡ false
unfolding is_hex is_digit
hex_below c h = rw (lt-leb 48 c h, lt-leb 65 c (omega arith), lt-leb 97 c (omega arith))

hex_between : (c : ℕ) → 70 < c → c < 97 → is_hex c ≡ false
unfolding is_hex is_digit
hex_between c h k = rw (lt-leb c 57 (omega arith), lt-leb c 70 h, lt-leb 97 c k, and-false (leb 48 c), and-false (leb 65 c))

-- the least digit, and the least that is a small letter
pub hex_least : (c : ℕ) → is_hex c ≡ true → 48 ≤ c
hex_least c e = by_test (ltb c 48) (λ t. true_false (sym e ∙ hex_below c (ltb-true c 48 t))) (ltb-false c 48)

pub hex_small : (c : ℕ) → is_hex c ≡ true → 70 < c → 97 ≤ c
hex_small c e h = by_test (ltb c 97) (λ t. true_false (sym e ∙ hex_between c h (ltb-true c 97 t))) (ltb-false c 97)
