-- P1 to P12 of 01, of the entry: whatever rooms of 12 records and 16 bytes held, answers that keep the entry's promise, with what both rooms hold then,
-- make the definition's table.
use Rattle.std.specs.Prelude.{ℕ, List, ◌≡◌, length, Result}
use Rattle.std.proofs.Common.{◌∙◌, subst, sym}
use Rattle.std.proofs.Math.Path.{fun_ext}
use Rattle.yaml_scan.specs.Scan.{standard}
use Rattle.yaml_scan.specs.Examples.{Examples, twelve_records}
use Rattle.yaml_scan.specs.Examples as definition
use Rattle.scanner.specs.declared.Refused.{Refused}
use Rattle.scanner.specs.declared.Sizes.{Sizes}
use Rattle.scanner.specs.Promise.{Answers, answer_of}

module _ (words₀ bytes₀ words bytes : List ℕ → List ℕ) (r : List ℕ → Result Sizes Refused)
    (room : (text : List ℕ) → (length (words₀ text) ≡ twelve_records) × (length (bytes₀ text) ≡ 16))
    (kept : (text : List ℕ) → Answers standard text (words₀ text) (bytes₀ text) (words text) (bytes text) (r text)) where
  pub examples : Examples (λ text. answer_of (r text) (words text) (bytes text))
  examples = subst Examples (sym (fun_ext (λ text. kept text ∙ rw ((room text).0, (room text).1)))) definition.examples
