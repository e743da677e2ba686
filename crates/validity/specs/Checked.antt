-- What the validity pass answers, from the definition's decoding.
use Rattle.std.specs.Prelude.{ℕ, List, Result, Ok, Err}
use Rattle.yaml_text.specs.Refusal.{Read, got, refused}
use Rattle.yaml_text.specs.declared.Refusal.{Refusal}

unfoldable pub checked : Read (List ℕ) → Result (Unit {0}) Refusal
checked (got cs) = Ok tt
checked (refused n m) = Err (record { number = n; mark = m })
