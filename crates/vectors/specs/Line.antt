-- Lines.
use Rattle.std.specs.Prelude.{◌≤◌, suc, ℕ, Bool, false, not, refl, true, List, [], ◌∷◌, ◌≡◌, eqb, length}
use Rattle.std.proofs.Common.{arith}
use Rattle.std.specs.List.{prefix_len}
use Rattle.yaml_text.specs.Test.{by_test}

-- how many bytes stand before the first line feed, or before the end
unfoldable pub line_length : List ℕ → ℕ
line_length [] = 0
line_length (b ∷ s) = elim (eqb b 10) [
  | true ↦ 0
  | false ↦ suc (line_length s)
]

-- no line feed
abbrev pub in_line : ℕ → Bool
in_line b = not (eqb b 10)

-- so many come before the first that is one
pub line_prefix : (s : List ℕ) → prefix_len in_line s ≡ line_length s
unfolding line_length
line_prefix [] = refl
line_prefix (b ∷ s) =
    by_test (eqb b 10)
    (λ e. rw (prefix_len, e, line_length))
    (λ e. rw (prefix_len, e, line_length) (omega (arith, line_prefix s)))

pub line_fits : (s : List ℕ) → line_length s ≤ length s
unfolding line_length
line_fits [] = omega arith
line_fits (b ∷ s) =
    let i = line_fits s in
    by_test (eqb b 10) (λ e. rw (line_length, e) (omega arith)) (λ e. rw (line_length, e) (omega arith))
