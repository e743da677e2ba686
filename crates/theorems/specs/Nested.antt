-- What demand 3, 4 speaks of: which starts are still open before and behind the tokens of a list (for Nesting). A token's role tells what it starts or ends.
use Rattle.std.specs.Prelude.{List, [], ◌∷◌}
use Rattle.yaml_lexeme.specs.Token.{Token}
use Rattle.yaml_lexeme.specs.Role.{Open, Role, ends, ends_all, neither, role, starts}

-- the starts still open before a token and behind it, the latest first
pub data Turns : Role → List Open → List Open → Type 0 where
  opened : {kind : Open} {os : List Open} → Turns (starts kind) os (kind ∷ os)
  -- an end closes the latest start still open, of its own kind
  closed : {kind : Open} {os : List Open} → Turns (ends kind) (kind ∷ os) os
  -- at StreamEnd none is open
  ended : Turns ends_all [] []
  kept : {os : List Open} → Turns neither os os

-- and of a list of tokens
pub data Nested : List Open → List Token → List Open → Type 0 where
  done : {os : List Open} → Nested os [] os
  then : {os now os' : List Open} {t : Token} {ts : List Token} → Turns (role t.kind) os now → Nested now ts os' → Nested os (t ∷ ts) os'
