-- The answer as six numbers, for callers that have no enums.
use Rattle.std.specs.Prelude.{ℕ, List, [], ◌∷◌, ◌≡◌, length}
use Rattle.yaml_scan.specs.Scan.{Verdict, accepted, answer, no_verdict, refusal, standard}

-- the refusal's number or 0, its mark's index, line and column, T and D (there is always a verdict: Budget)
abbrev pub numbers : Verdict → List ℕ
numbers (accepted t d) = 0 ∷ 0 ∷ 0 ∷ 0 ∷ t ∷ d ∷ []
numbers (refusal n m t d) = n ∷ m.index ∷ m.line ∷ m.col ∷ t ∷ d ∷ []
numbers no_verdict = []

-- from rooms with these contents to those, and to the numbers ns, as the definition has it
pub record GivesNumbers (text words₀ bytes₀ words bytes ns : List ℕ) : Type 0 where
  pub told : ns ≡ numbers (answer standard text (length words₀) (length bytes₀)).verdict
  pub words_left : words ≡ (answer standard text (length words₀) (length bytes₀)).words
  pub bytes_left : bytes ≡ (answer standard text (length words₀) (length bytes₀)).bytes
