-- The bytes of a character, by their number (one byte: bytes1 of yaml_text).
use Prim.Native.Nat.{◌%◌, ◌+◌, ◌/◌, ◌<◌, ◌≤◌, ℕ}
use mathlib.Core.List.{List, [], ◌∷◌}
use mathlib.Core.Path.{◌≡◌, refl}
use native.Mathlib.Omega.{arith}
use lib.ListN.{length}
use lib.Seq.{sets}
use borrow.Author.Tests.{le-ltb, lt-ltb}
use Rattle.yaml_text.specs.Utf8.{char_bytes}
use Rattle.yaml_text.specs.Utf8Laws.{bytes1}

pub two_bytes : (c : ℕ) → 0x80 ≤ c → c < 0x800 → char_bytes c ≡ (192 + c / 64) ∷ (128 + c % 64) ∷ []
unfolding char_bytes
two_bytes c h g = rw (le-ltb c 0x80 h, lt-ltb c 0x800 g)

pub three_bytes : (c : ℕ) → 0x800 ≤ c → c < 0x10000 → char_bytes c ≡ (224 + c / 4096) ∷ (128 + c / 64 % 64) ∷ (128 + c % 64) ∷ []
unfolding char_bytes
three_bytes c h g = rw (le-ltb c 0x80 (omega arith), le-ltb c 0x800 h, lt-ltb c 0x10000 g)

pub four_bytes : (c : ℕ) → 0x10000 ≤ c
    → char_bytes c ≡ (240 + c / 262144) ∷ (128 + c / 4096 % 64) ∷ (128 + c / 64 % 64) ∷ (128 + c % 64) ∷ []
unfolding char_bytes
four_bytes c h = rw (le-ltb c 0x80 (omega arith), le-ltb c 0x800 (omega arith), le-ltb c 0x10000 h)

-- a text that was written, of a known character
pub wrote : (l o : List ℕ) (n c : ℕ) (t : List ℕ) → char_bytes c ≡ t → o ≡ sets l n t → (o ≡ sets l n (char_bytes c)) × (n + length t ≡ n + length (char_bytes c))
wrote l o n c t e f = rw e (f, refl)

pub ruleset by_size = (bytes1, two_bytes, three_bytes, four_bytes, wrote)
