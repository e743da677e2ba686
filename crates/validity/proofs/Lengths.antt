-- How many bytes the character at a place takes; none where there is none but NUL.
use Prim.Native.Nat.{◌<◌, ℕ}
use mathlib.Core.List.{List}
use mathlib.Core.Path.{◌≡◌, sym}
use native.Mathlib.Omega.{arith}
use lib.ListN.{drop, get_or, length}
use borrow.Author.Tests.{ne_eqb}
use Rattle.std.specs.Prelude.{None, Some}
use Rattle.yaml_text.specs.declared.Decoded.{Decoded}
use Rattle.yaml_text.specs.declared.Decoded.TheVariants.{Char}
use Rattle.yaml_text.specs.Class.{is_z}
use Rattle.yaml_text.specs.Utf8.{first}
use Rattle.utf8.proofs.Laws.{plain_at}
use Rattle.validity.specs.Sound.{good_len}

-- what a decoded character says of the bytes passed over
pub good_char : (d : Decoded) (c n : ℕ) → d ≡ Char c n → (c ≡ 0 → ⊥) → Some n ≡ good_len d
unfolding is_z
good_char d c n e z = rw (e, ne_eqb c 0 z)

pub good_nul : (d : Decoded) (c n : ℕ) → d ≡ Char c n → c ≡ 0 → None ≡ good_len d
unfolding is_z
good_nul d c n e z = rw (e, z)

-- the character at a byte a
module _ (s : List ℕ) (at a : ℕ) (h : at < length s) (is : a ≡ get_or s at 0) where
  pub len_nul : a ≡ 0 → None ≡ good_len (first (drop at s))
  len_nul z = let k : a < 128 = omega arith in good_nul (first (drop at s)) a 1 (sym (plain_at s at a h is k)) z

  pub len_plain : (a ≡ 0 → ⊥) → a < 128 → Some 1 ≡ good_len (first (drop at s))
  len_plain z k = good_char (first (drop at s)) a 1 (sym (plain_at s at a h is k)) z

pub ruleset lengths = (good_char, good_nul, len_nul, len_plain)
