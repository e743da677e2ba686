-- The characters that are scanned: they are those of the bytes, they encode to the bytes, and none is 0, which stands for the end.
use Rattle.std.specs.Prelude.{◌<◌, suc, zero, ℕ, false, List, [], ◌∷◌, ◌≡◌, drop, length}
use Rattle.std.proofs.Common.{not-suc-le-zero, arith}
use Rattle.yaml_text.specs.Utf8.{chars_after, encode}
use Rattle.yaml_text.specs.Class.{is_z, peek}

-- no character is 0
abbrev pub NoNul : List ℕ → Type 0
NoNul [] = Unit {0}
NoNul (c ∷ cs) = (is_z c ≡ false) × NoNul cs

pub no_nul_at : (cs : List ℕ) (i : ℕ) → NoNul cs → i < length cs → is_z (peek cs i) ≡ false
no_nul_at [] i h k = absurd (not-suc-le-zero k)
no_nul_at (c ∷ cs) zero h k = h.0
no_nul_at (c ∷ cs) (suc i) h k = no_nul_at cs i h.1 (omega arith)

pub no_nul_drop : (n : ℕ) (cs : List ℕ) → NoNul cs → NoNul (drop n cs)
no_nul_drop zero cs h = h
no_nul_drop (suc n) [] h = tt
no_nul_drop (suc n) (c ∷ cs) h = no_nul_drop n cs h.1

-- what the characters cs of the bytes l are, k bytes being passed over first
pub record Decodes (k : ℕ) (l cs : List ℕ) : Type 0 where
  pub same : cs ≡ chars_after k l
  pub bytes : encode cs ≡ drop k l
  pub no_nul : NoNul cs
