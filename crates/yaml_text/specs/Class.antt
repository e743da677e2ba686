-- The tests of char_traits, on code points, each with its section of YAML 1.2.2.
-- 0 stands for the end of the text: no text that is scanned holds it (refusal 3).
use Rattle.std.specs.Prelude.{◌-◌, ℕ, Bool, ◌&&◌, ◌||◌, false, not, true, List, [], ◌∷◌, eqb, leb, get_or}
use Rattle.yaml_text.specs.Pick.{pick}
use Rattle.yaml_text.specs.Char.{'!', '#', '$', '%', '&', '*', '+', '-', '0', '9', ':', '=', '?', 'A', 'F', 'Z', '[', ']', 'a', 'f', 'z', '~', at_sign, byte-order-mark, carriage-return, close-brace, close-parenthesis, comma, dot, line-feed, open-brace, open-parenthesis, semicolon, single-quote, slash, space, tab, underscore}

-- the character n places on; 0 past the end
abbrev pub peek : List ℕ → ℕ → ℕ
peek cs n = get_or cs n 0

-- c is one of the list
unfoldable pub among : ℕ → List ℕ → Bool
among c [] = false
among c (x ∷ xs) = eqb c x || among c xs

-- the end of the text
unfoldable pub is-z : ℕ → Bool
is-z c = eqb c 0

-- 5.4
unfoldable pub is-break : ℕ → Bool
is-break c = eqb c line-feed || eqb c carriage-return

unfoldable pub is-breakz : ℕ → Bool
is-breakz c = is-break c || is-z c

-- 5.5
unfoldable pub is-blank : ℕ → Bool
is-blank c = eqb c space || eqb c tab

unfoldable pub is-blank-or-breakz : ℕ → Bool
is-blank-or-breakz c = is-blank c || is-breakz c

-- 5.3: , [ ] { }
unfoldable pub is-flow : ℕ → Bool
is-flow c = among c (comma ∷ '[' ∷ ']' ∷ open-brace ∷ close-brace ∷ [])

-- 5.2
unfoldable pub is-bom : ℕ → Bool
is-bom c = eqb c byte-order-mark

-- 5.6, to is-tag
unfoldable pub is_digit : ℕ → Bool
is_digit c = leb '0' c && leb c '9'

unfoldable pub is-hex : ℕ → Bool
is-hex c = is_digit c || (leb 'A' c && leb c 'F') || (leb 'a' c && leb c 'f')

-- the value of a hexadecimal digit: A and a have 10
unfoldable pub as-hex : ℕ → ℕ
as-hex c = pick (is_digit c) (c - '0') (pick (leb c 'F') (c - ('A' - 10)) (c - ('a' - 10)))

-- letters, digits, _ and -
unfoldable pub is-alpha : ℕ → Bool
is-alpha c = is_digit c || (leb 'A' c && leb c 'Z') || (leb 'a' c && leb c 'z') || among c (underscore ∷ '-' ∷ [])

-- the same without _
unfoldable pub is_word : ℕ → Bool
is_word c = is-alpha c && not (eqb c underscore)

-- word characters and some others; '%' begins an escape
unfoldable pub is-uri : ℕ → Bool
is-uri c =
    is_word c
    || among c
    ('#' ∷ semicolon ∷ slash ∷ '?' ∷ ':' ∷ at_sign ∷ '&' ∷ '=' ∷ '+' ∷ '$' ∷ comma ∷ underscore ∷ dot ∷ '!' ∷ '~' ∷ '*' ∷ single-quote ∷ open-parenthesis ∷ close-parenthesis ∷ '[' ∷ ']' ∷ '%' ∷ [])

unfoldable pub is-tag : ℕ → Bool
is-tag c = is-uri c && not (is-flow c) && not (eqb c '!')

-- 5.5: neither blank, break, end nor byte order mark. A character of a directive's words
unfoldable pub is-non-space : ℕ → Bool
is-non-space c = not (is-blank-or-breakz c) && not (is-bom c)

-- 6.9.2
unfoldable pub is-anchor : ℕ → Bool
is-anchor c = is-non-space c && not (is-flow c)

-- two texts are the same
unfoldable pub same : List ℕ → List ℕ → Bool
same [] [] = true
same [] (y ∷ ys) = false
same (x ∷ xs) [] = false
same (x ∷ xs) (y ∷ ys) = eqb x y && same xs ys

unfoldable pub none_left : List ℕ → Bool
none_left [] = true
none_left (c ∷ cs) = false
