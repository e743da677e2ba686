-- The answer of a call as five numbers, for callers that have no enums.
use Rattle.std.specs.Prelude.{ℕ, Err, List, Ok, Result, [], ◌∷◌, ◌≡◌}
use Rattle.yaml_text.specs.declared.Refusal.{Refusal}
use Rattle.yaml_scan.specs.Scan.{standard}
use Rattle.stream.specs.declared.Next.{Next}
use Rattle.stream.specs.Holds.{Promises}

-- a refusal's number, its mark, and 0; all zero where a token was given, or none is left
unfoldable pub next_numbers : Result Next Refusal → List ℕ
next_numbers (Ok a) = 0 ∷ 0 ∷ 0 ∷ 0 ∷ 0 ∷ []
next_numbers (Err f) = f.number ∷ f.mark.index ∷ f.mark.line ∷ f.mark.col ∷ 0 ∷ []

-- the promise of the call, its answer in the numbers ns
abbrev pub Continues : List ℕ → List ℕ → List ℕ → List ℕ → List ℕ → List ℕ → List ℕ → List ℕ → List ℕ → Type 0
Continues text h l b h' l' b' r ns = (a : Result Next Refusal) × (ns ≡ next_numbers a) × Promises standard text h l b h' l' b' r a
