-- Tables by number.
use Rattle.std.specs.Prelude.{ℕ, false, true, List, [], ◌∷◌, eqb}

-- what stands for n in a table; x where nothing does
unfoldable pub looked_up : {A : Type 0} → A → ℕ → List (ℕ × A) → A
looked_up x n [] = x
looked_up x n (r ∷ rs) = elim (eqb n r.0) [ true ↦ r.1 | false ↦ looked_up x n rs ]
