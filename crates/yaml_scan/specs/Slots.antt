-- K5: the tokens of a list of events. Each token that comes stands in a slot, which notes the tokens that go in before it.
use Rattle.std.specs.Prelude.{suc, zero, ℕ, List, [], ◌++◌, ◌∷◌}
use Rattle.yaml_lexeme.specs.Token.{Token}
use Rattle.yaml_scan.specs.State.{Event, put, put_before}

pub record Slot : Type 0 where
  pub token : Token
  pub before : List Token

abbrev pub slot : Token → List Token → Slot
slot t ts = record { token = t; before = ts }

-- these tokens go in before token n, which was given, and only once (Budget: outcome-placed)
unfoldable pub note : ℕ → List Token → List Slot → List Slot
note n ts [] = []
note zero ts (x ∷ xs) = slot x.token ts ∷ xs
note (suc n) ts (x ∷ xs) = x ∷ note n ts xs

-- the slots xs after these events
unfoldable pub slots : List Slot → List Event → List Slot
slots xs [] = xs
slots xs (put t ∷ es) = slots (xs ++ (slot t [] ∷ [])) es
slots xs (put_before n ts ∷ es) = slots (note n ts xs) es

-- each token behind those that go in before it
unfoldable pub flat : List Slot → List Token
flat [] = []
flat (x ∷ xs) = x.before ++ (x.token ∷ flat xs)

abbrev pub tokens_of : List Event → List Token
tokens_of es = flat (slots [] es)
