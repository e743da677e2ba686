-- Spaces in a row.
use Rattle.std.specs.List.{prefix_len}
use Rattle.std.specs.Prelude.{◌%◌, ◌+◌, ◌<◌, ◌≤◌, ℕ, List, ◌≡◌, refl, drop, get_or, length}
use Rattle.std.proofs.Common.{arith, eqb-true, ne_eqb}
use Rattle.std.proofs.lemmas.List.Sums.{prefix_len-drop_all, prefix_len-drop_no, prefix_len-drop_yes}
use Rattle.yaml_text.specs.Char.{space}
use Rattle.chars.specs.Blocks.{is_space}
use Rattle.chars.specs.Each.{Blocks, Each, each_carry, each_none}
use Rattle.gaps.specs.Row.{Row, row}

-- how many spaces a text begins with
abbrev pub space_run : List ℕ → ℕ
space_run l = prefix_len is_space l

pub space_row : (s : List ℕ) (at : ℕ) → Row is_space s at (space_run (drop at s))
unfolding is_space
space_row s at = row is_space (λ b e. let f = eqb-true b space e in omega arith) s at

-- blocks of them, where the place is one that a block is tried at
pub data Tries (s : List ℕ) (at r : ℕ) : Type 0 where
  tried : at % 16 ≡ 0 → Blocks is_space s at r → Tries s at r
  untried : (at % 16 ≡ 0 → ⊥) → r ≡ at → Tries s at r

pub tries_each : {s : List ℕ} {at r : ℕ} → at ≤ length s → Tries s at r → Each is_space s at r
tries_each h (tried e b) = b.each
tries_each h (untried e f) = rw f (each_none h)

-- where they end
module _ {s : List ℕ} {at r : ℕ} (x : Each is_space s at r) where
  ends : space_run (drop r s) ≡ 0 → r ≡ at + space_run (drop at s)
  ends z =
      let over = each_carry is_space s (λ i. at + space_run (drop at s) ≡ i + space_run (drop i s))
      (λ i h e y. let t = prefix_len-drop_yes is_space s i 0 h e in omega arith) x refl in
      omega arith

  pub spaces_over : r < length s → (get_or s r 0 ≡ space → ⊥) → r ≡ at + space_run (drop at s)
  unfolding is_space
  spaces_over h n = ends (prefix_len-drop_no is_space s r 0 h (ne_eqb (get_or s r 0) space n))

  pub spaces_past : length s ≤ r → r ≡ at + space_run (drop at s)
  spaces_past h = ends (prefix_len-drop_all is_space s r h)
