-- Every refusal that a call answers has a number of at least 1: a rule's is one of 1 to 3 or of 10 to 49, and the stream's own are 5, 51 and 52.
use Rattle.std.specs.Prelude.{◌≤◌, ℕ, List, ◌⊎◌, ◌≡◌}
use Rattle.std.proofs.Common.{inl, inr, ◌∙◌, ap, arith}
use Rattle.yaml_text.specs.declared.Mark.{Mark}
use Rattle.yaml_lexeme.specs.Token.{Token}
use Rattle.yaml_scan.specs.declared.Limits.{Limits}
use Rattle.theorems.proofs.Numbers.{has_rule}
use Rattle.yaml_stream.specs.Tale.{Close, at_rule, outcome_of, outcome_told, told}
use Rattle.yaml_stream.specs.Given.{Own, bytes_full, few_words, many_wait}

-- a rule's number
abbrev pub OfRule : ℕ → Type 0
OfRule n = ((1 ≤ n) × (n ≤ 3)) ⊎ ((10 ≤ n) × (n ≤ 49))

pub closes_by : (limits : Limits) (bytes : List ℕ) (n : ℕ) (m : Mark) → (told limits bytes).close ≡ at_rule n m → OfRule n
closes_by limits bytes n m e = has_rule limits bytes n m (outcome_told limits bytes ∙ ap (λ (c : Close). outcome_of (told limits bytes).events c) e)

pub rule_some : {n : ℕ} → OfRule n → 1 ≤ n
rule_some (inl h) = h.0
rule_some (inr h) = omega (arith, h.0)

pub own_some : {words room n : ℕ} {list : List Token} {m : Mark} → Own words room list n m → 1 ≤ n
own_some (bytes_full h) = omega arith
own_some (many_wait h) = omega arith
own_some (few_words h) = omega arith
