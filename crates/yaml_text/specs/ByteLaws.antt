-- Laws for code that looks at bytes: what a byte below 128 says of the characters.
use Rattle.std.specs.Prelude.{◌<◌, ℕ, List, ◌∷◌, ◌≡◌}
use Rattle.std.proofs.Common.{lt-ltb}
use Rattle.yaml_text.specs.declared.Decoded.TheVariants.{Char}
use Rattle.yaml_text.specs.Utf8.{by_len, first, len_of}

-- a byte below 128 is a character
pub first_ascii : (a : ℕ) (t : List ℕ) → a < 128 → first (a ∷ t) ≡ Char a 1
unfolding first len_of by_len
first_ascii a t h = rw (lt-ltb a 128 h)
