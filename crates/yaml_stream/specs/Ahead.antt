-- Calls that give tokens, one behind the other: the slots whose tokens are no possible keys are given without a step in between, and so is what waits
-- behind the end of the text.
use Prim.Native.Nat.{◌≤◌, ℕ}
use Rattle.std.specs.Prelude.{◌≡◌, length}
use mathlib.Core.List.{List, [], ◌++◌, ◌∷◌}
use Rattle.std.proofs.Common.{◌∙◌, ap}
use native.Mathlib.Omega.{arith}
use Rattle.yaml_lexeme.specs.Token.{Token}
use Rattle.yaml_scan.specs.declared.Limits.{Limits}
use Rattle.yaml_stream.specs.Stream.{Called, Stream, call, called, token}
use Rattle.yaml_stream.specs.Waiting.{StreamReaches, call_reaches}

-- calls that give these tokens, one behind the other
pub data CallsGive (limits : Limits) (room : ℕ) : Stream → List Token → Stream → Type 0 where
  there : {x : Stream} → CallsGive limits room x [] x
  gives : {x y z : Stream} {t : Token} {ts : List Token} → call limits room x ≡ called (token t) y → CallsGive limits room y ts z → CallsGive limits room x (t ∷ ts) z

module _ (limits : Limits) (room : ℕ) where
  pub ahead_then : {x y z : Stream} {ts us : List Token} → CallsGive limits room x ts y → CallsGive limits room y us z → CallsGive limits room x (ts ++ us) z
  ahead_then there b = b
  ahead_then (gives e a) b = gives e (ahead_then a b)

  -- where two calls answer alike, one stream gives what the other gives
  pub ahead_from : {x y z : Stream} {ts : List Token} → call limits room x ≡ call limits room y → 1 ≤ length ts → CallsGive limits room y ts z → CallsGive limits room x ts z
  ahead_from e h there = absurd (omega arith)
  ahead_from e h (gives f a) = gives (e ∙ f) a

  pub ahead_reaches : {w x y : Stream} {ts : List Token} → StreamReaches limits room w x → CallsGive limits room x ts y → StreamReaches limits room w y
  ahead_reaches r there = r
  ahead_reaches r (gives {x = x} e a) = ahead_reaches (rw (ap (λ (c : Called). c.stream) e) at (call_reaches limits room x r)) a
  -- a slot whose token is no possible key
  -- behind the end of the text
