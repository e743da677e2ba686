-- The six numbers and both rooms, by the scanner's promise.
use Rattle.std.specs.Prelude.{Result}
use Prim.Native.Nat.{ℕ}
use mathlib.Core.List.{List}
use mathlib.Core.Path.{◌∙◌, ◌≡◌, ap}
use Rattle.yaml_scan.specs.Scan as definition
use Rattle.yaml_scan.specs.Scan.{standard}
use Rattle.scanner.specs.declared.Refused.{Refused}
use Rattle.scanner.specs.declared.Sizes.{Sizes}
use Rattle.scanner.specs.Promise.{verdict_of}
use Rattle.scanner.specs.Promise as scanner
use Rattle.tokenglade.specs.Numbers.{GivesNumbers, numbers}

pub told : {text words₀ bytes₀ words bytes ns : List ℕ} (r : Result Sizes Refused) → scanner.Answers standard text words₀ bytes₀ words bytes r → ns ≡ numbers (verdict_of r)
    → GivesNumbers text words₀ bytes₀ words bytes ns
told r p e =
    record {
      told = e ∙ ap (λ (x : definition.Answer). numbers x.verdict) p;
      words_left = ap (λ (x : definition.Answer). x.words) p;
      bytes_left = ap (λ (x : definition.Answer). x.bytes) p;
    }
