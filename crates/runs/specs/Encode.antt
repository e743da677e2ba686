-- Texts and their bytes.
use Rattle.std.specs.Prelude.{◌<◌, ◌≤◌, ℕ, List, [], ◌++◌, ◌∷◌, ◌≡◌, refl, eqb, ltb, length}
use Rattle.std.proofs.Common.{append-nil, ◌∙◌, sym, arith, length-append, ne_eqb}
use Rattle.yaml_text.specs.Class.{none_left}
use Rattle.yaml_text.specs.Test.{by_pick}
use Rattle.yaml_text.specs.Utf8.{char_bytes, encode}
use Rattle.yaml_text.specs.Utf8Laws.{bytes1}
use Rattle.yaml_lexeme.specs.Token.{size}

pub encode_one : (c : ℕ) → encode (c ∷ []) ≡ char_bytes c
unfolding encode
encode_one c = append-nil (char_bytes c)

pub encode_ascii : (c : ℕ) → c < 128 → encode (c ∷ []) ≡ c ∷ []
encode_ascii c h = encode_one c ∙ bytes1 c h

-- a character takes a byte at least
pub bytes_some : (c : ℕ) → 1 ≤ length (char_bytes c)
unfolding char_bytes
bytes_some c =
    let some : List ℕ → Type 0 = λ l. 1 ≤ length l in
    by_pick some (ltb c 0x80) _ _ (omega arith) (by_pick some (ltb c 0x800) _ _ (omega arith) (by_pick some (ltb c 0x10000) _ _ (omega arith) (omega arith)))

-- so a text that takes none is empty
pub none_size : (t : List ℕ) → none_left t ≡ eqb (size t) 0
unfolding none_left encode
none_size [] = refl
none_size (c ∷ t) = let h = bytes_some c in let l = length-append (char_bytes c) (encode t) in sym (ne_eqb (length (char_bytes c ++ encode t)) 0 (omega arith))
