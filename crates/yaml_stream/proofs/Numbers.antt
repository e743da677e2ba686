-- Theorems about specs/Numbers, and what rests on them.
use Rattle.std.specs.Prelude.{◌≤◌, ℕ, List, ◌⊎◌, ◌≡◌}
use Rattle.std.proofs.Common.{inl, inr, ⊎_elim}
use Rattle.yaml_text.specs.declared.Mark.{Mark}
use Rattle.yaml_lexeme.specs.Token.{Token}
use Rattle.yaml_scan.specs.declared.Limits.{Limits}
use Rattle.yaml_stream.specs.Stream.{Stream, call, fresh, refusal}
use Rattle.yaml_stream.specs.Tale.{at_rule, built, told}
use Rattle.yaml_stream.specs.Given.{Answered, Own}
use Rattle.yaml_stream.proofs.Given.{call_answers}
use Rattle.yaml_stream.specs.Answers.{Comes}
use Rattle.yaml_stream.proofs.Answers.{comes_owes}
use Rattle.yaml_stream.specs.Numbers.{OfRule, closes_by, rule_some, own_some}

module _ (limits : Limits) (bytes : List ℕ) (words room : ℕ) {ts : List Token} {y : Stream} (r : Comes limits room (fresh limits bytes words) ts y) where
  -- the refusal of a rule, or one of the stream's own with its reason
  pub has_reason : (k : ℕ) (m : Mark) → (call limits room y).answer ≡ refusal k m → OfRule k ⊎ Own words room (built limits bytes) k m
  has_reason k m e =
      let h = comes_owes limits bytes words room r in
      let c = (told limits bytes).close in
      let a : Answered limits words room (built limits bytes) h.0 c (refusal k m) (call limits room y).stream = rw e at (call_answers limits words room (built limits bytes) h.0 c y h.2) in
      by_answer a
    where
      by_answer : ((told limits bytes).close ≡ at_rule k m) ⊎ Own words room (built limits bytes) k m → OfRule k ⊎ Own words room (built limits bytes) k m
      by_answer (inl f) = inl (closes_by limits bytes k m f)
      by_answer (inr o) = inr o

  pub at_least_one : (k : ℕ) (m : Mark) → (call limits room y).answer ≡ refusal k m → 1 ≤ k
  at_least_one k m e = ⊎_elim (λ h. rule_some h) (λ o. own_some o) (has_reason k m e)
