-- The classes of bytes that are passed by blocks, besides the characters of `low`.
use Rattle.std.specs.Prelude.{ℕ, Bool, ◌&&◌, ◌||◌, eqb, leb}
use Rattle.yaml_text.specs.Char.{space}

unfoldable pub is_space : ℕ → Bool
is_space b = eqb b space

-- - . / 0 to 9; ; < = > ? @ A to Z; ^ _ ` a to z
unfoldable pub ordinary : ℕ → Bool
ordinary b = (leb 45 b && leb b 57) || (leb 59 b && leb b 90) || (leb 94 b && leb b 122)
