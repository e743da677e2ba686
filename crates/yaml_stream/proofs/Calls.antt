-- Theorems about specs/Calls, and what rests on them.
use Rattle.std.specs.Prelude.{◌*◌, ◌+◌, ◌≤◌, ℕ, List, ◌++◌, ◌≡◌, length}
use Rattle.std.proofs.Common.{ap, arith, length-append}
use Rattle.yaml_text.specs.Utf8.{chars}
use Rattle.yaml_lexeme.specs.Token.{Token}
use Rattle.yaml_scan.specs.declared.Limits.{Limits}
use Rattle.yaml_stream.specs.Stream.{Stream, fresh, hear}
use Rattle.yaml_stream.specs.Tale.{built, told}
use Rattle.yaml_stream.specs.Given.{Ends, Own}
use Rattle.yaml_stream.specs.Answers.{Comes}
use Rattle.yaml_stream.proofs.Answers.{comes_owes, comes_to_end}
use Rattle.yaml_stream.specs.Calls.{built_tokens}

-- so many tokens are given, whatever the number of calls
pub given_most : (limits : Limits) (bytes : List ℕ) (words room : ℕ) {ts : List Token} {y : Stream} → Comes limits room (fresh limits bytes words) ts y → length ts ≤ 2 * length (chars bytes) + 3
given_most limits bytes words room {ts = ts} r =
    let h = comes_owes limits bytes words room r in
    let e : length (built limits bytes) ≡ length (ts ++ h.0) = ap length h.1 in
    omega (arith, length-append ts h.0, built_tokens limits bytes)

-- and one call more comes to an end
pub calls_most : (limits : Limits) (bytes : List ℕ) (words room k : ℕ) → 2 * length (chars bytes) + 4 ≤ k
    → Ends (Own words room (built limits bytes)) (built limits bytes) (told limits bytes).close (hear limits room k (fresh limits bytes words))
calls_most limits bytes words room k h = comes_to_end limits bytes words room k (omega (arith, built_tokens limits bytes))
