-- UTF-8 both ways: the encoding of every scalar value is read back as that character and nothing else, and the characters of bytes encode to the bytes
-- that they were read from, up to the first place where none begins.
use Rattle.std.specs.Prelude.{ℕ, true, List, [], ◌∷◌, ◌≡◌}
use Rattle.yaml_text.specs.Utf8.{is_scalar}

-- a scalar value is read back

-- each of the list is a scalar value
abbrev pub Scalars : List ℕ → Type 0
Scalars [] = Unit {0}
Scalars (c ∷ cs) = (is_scalar 0 c ≡ true) × Scalars cs

-- the bytes of the characters are the bytes that they were read from
