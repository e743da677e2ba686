-- UTF-8 (RFC 3629, 3 and 4): what character a list of bytes begins with, the characters of a list, the bytes of a character.
use Rattle.std.specs.Prelude.{◌%◌, ◌*◌, ◌+◌, ◌/◌, pred, suc, zero, ℕ, Bool, ◌&&◌, ◌||◌, false, true, List, [], ◌++◌, ◌∷◌, leb, ltb, get_or}
use Rattle.yaml_text.specs.declared.Decoded.{Decoded}
use Rattle.yaml_text.specs.declared.Decoded.TheVariants.{Char, End, Ill}
use Rattle.yaml_text.specs.Pick.{pick}

-- b is a byte of the form 10xxxxxx (UTF8-tail)
unfoldable pub is_tail : ℕ → Bool
is_tail b = leb 128 b && ltb b 192

-- how many bytes the character of the lead byte b takes, by its leading one bits: 0xxxxxxx, 110xxxxx, 1110xxxx, 11110xxx; 0: b leads none
unfoldable pub len_of : ℕ → ℕ
len_of b = pick (ltb b 128) 1 (pick (ltb b 192) 0 (pick (ltb b 224) 2 (pick (ltb b 240) 3 (pick (ltb b 248) 4 0))))

-- c is a scalar value from lo up: no surrogate, none above 0x10FFFF; below lo a shorter form has it
unfoldable pub is_scalar : ℕ → ℕ → Bool
is_scalar lo c = leb lo c && ((ltb c 0xd800 || ltb 0xdfff c) && ltb c 0x110000)

abbrev pub char_if : Bool → ℕ → ℕ → Decoded
char_if true c n = Char c n
char_if false c n = Ill

-- the characters of two, three and four bytes; a byte past the end counts as 0, which is no tail
unfoldable pub two : ℕ → ℕ → Decoded
two a b = let v = a % 32 * 64 + b % 64 in char_if (is_tail b && is_scalar 0x80 v) v 2

unfoldable pub three : ℕ → ℕ → ℕ → Decoded
three a b c = let v = a % 16 * 4096 + b % 64 * 64 + c % 64 in char_if (is_tail b && (is_tail c && is_scalar 0x800 v)) v 3

unfoldable pub four : ℕ → ℕ → ℕ → ℕ → Decoded
four a b c d =
    let v = a % 8 * 262144 + b % 64 * 4096 + c % 64 * 64 + d % 64 in
    char_if (is_tail b && (is_tail c && (is_tail d && is_scalar 0x10000 v))) v 4

-- the character of a lead byte of length n, with the three bytes after it
unfoldable pub by_len : ℕ → ℕ → ℕ → ℕ → ℕ → Decoded
by_len zero a b c d = Ill
by_len (suc zero) a b c d = Char a 1
by_len (suc (suc zero)) a b c d = two a b
by_len (suc (suc (suc zero))) a b c d = three a b c
by_len (suc (suc (suc (suc n)))) a b c d = four a b c d

-- the character that the list begins with
unfoldable pub first : List ℕ → Decoded
first [] = End
first (a ∷ t) = by_len (len_of a) a (get_or t 0 0) (get_or t 1 0) (get_or t 2 0)

abbrev pub more : Decoded → (ℕ → List ℕ) → List ℕ
more (Char c n) f = c ∷ f (pred n)
more Ill f = []
more End f = []

-- the characters of a list, up to the first place where none begins; k bytes are passed over before the next one
unfoldable pub chars_after : ℕ → List ℕ → List ℕ
chars_after k [] = []
chars_after zero (a ∷ t) = more (first (a ∷ t)) (λ n. chars_after n t)
chars_after (suc k) (a ∷ t) = chars_after k t

abbrev pub chars : List ℕ → List ℕ
chars l = chars_after 0 l

-- the bytes of a character (the table of section 3)
unfoldable pub char_bytes : ℕ → List ℕ
char_bytes c =
    pick (ltb c 0x80) (c ∷ [])
    (pick (ltb c 0x800) ((192 + c / 64) ∷ (128 + c % 64) ∷ [])
    (pick (ltb c 0x10000) ((224 + c / 4096) ∷ (128 + c / 64 % 64) ∷ (128 + c % 64) ∷ [])
    ((240 + c / 262144) ∷ (128 + c / 4096 % 64) ∷ (128 + c / 64 % 64) ∷ (128 + c % 64) ∷ [])))

unfoldable pub encode : List ℕ → List ℕ
encode [] = []
encode (c ∷ cs) = char_bytes c ++ encode cs
