-- What is written of a vector.
use Rattle.std.specs.Prelude.{◌*◌, ◌+◌, min, ℕ, List, length, take}
use Rattle.yaml_lexeme.specs.Record.{record_words}
use Rattle.vectors.specs.Hex.{hex_bytes}
use Rattle.vectors.specs.Vector.{vector_line}

-- a text, with its answer in the words that demand 3 asks for it, or in as many as there are
abbrev pub text_line : List ℕ → ℕ → ℕ → List ℕ
text_line text words bytes = vector_line text (min ((2 * length text + 3) * record_words) words) bytes

-- the text that a line begins with, of up to 40,960 bytes
abbrev pub line_again : List ℕ → ℕ → ℕ → List ℕ
line_again line words bytes = text_line (take 40_960 (hex_bytes line)) words bytes

-- no line is longer
abbrev pub longest : ℕ → ℕ → ℕ → ℕ
longest text words bytes = 2 * text + 50 + 11 * words + 2 * bytes
