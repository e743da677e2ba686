-- The count of seeds never comes near what a word holds: it is one of tokens, of which each character of a text pays for two, and a text that is longer than
-- the limit gives none.
use Rattle.std.specs.Prelude.{◌*◌, ◌+◌, ◌≤◌, ℕ, List, length}
use Rattle.std.proofs.Common.{ap, arith, length-append}
use Rattle.yaml_lexeme.specs.Token.{Token}
use Rattle.yaml_scan.specs.declared.Limits.{Limits}
use Rattle.yaml_stream.specs.Answers.{Comes}
use Rattle.yaml_stream.proofs.Answers.{comes_owes}
use Rattle.yaml_stream.specs.Calls.{built_few}
use Rattle.yaml_stream.specs.Stream.{Stream, fresh}

pub given_few : (limits : Limits) (text : List ℕ) (words room : ℕ) {ts : List Token} {x : Stream}
    → Comes limits room (fresh limits text words) ts x → length ts ≤ 2 * limits.bytes + 3
given_few limits text words room {ts = ts} r =
    let h = comes_owes limits text words room r in
    omega (arith, ap length h.1, length-append ts h.0, built_few limits text)
