-- Theorems about specs/Nesting, and what rests on them.
use Rattle.std.specs.Prelude.{ℕ, List, ◌++◌, ◌≡◌}
use Rattle.yaml_lexeme.specs.Token.{Token}
use Rattle.yaml_scan.specs.declared.Limits.{Limits}
use Rattle.theorems.specs.NestedLaws.{nested_split}
use Rattle.yaml_stream.specs.Stream.{Stream, fresh}
use Rattle.yaml_stream.specs.Tale.{built}
use Rattle.yaml_stream.specs.Answers.{Comes}
use Rattle.yaml_stream.proofs.Answers.{comes_owes}
use Rattle.yaml_stream.specs.Nesting.{LeavesOpen, built_nested}

opens_first : (ts us vs : List Token) → ts ≡ us ++ vs → LeavesOpen ts → LeavesOpen us
opens_first ts us vs e h = let s = nested_split us (rw e at h.1) in (s.0, s.1)

-- in every beginning of the tokens given, whatever came behind them
pub every_prefix : (limits : Limits) (bytes : List ℕ) (words room : ℕ) (ts us vs : List Token) (y : Stream) → Comes limits room (fresh limits bytes words) ts y → ts ≡ us ++ vs → LeavesOpen us
every_prefix limits bytes words room ts us vs y r e =
    let k = comes_owes limits bytes words room r in
    opens_first ts us vs e (opens_first (built limits bytes) ts k.0 k.1 (built_nested limits bytes))
