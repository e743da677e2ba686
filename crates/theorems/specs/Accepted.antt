-- The texts that demand 3 speaks of: those that the rules accept, each with its list of tokens, which is demand 2's.
use Rattle.std.specs.Prelude.{ℕ, List, ◌≡◌}
use Rattle.yaml_lexeme.specs.Token.{Token}
use Rattle.yaml_scan.specs.declared.Limits.{Limits}
use Rattle.yaml_scan.specs.State.{Event}
use Rattle.yaml_scan.specs.Scan.{answer, answer_for, lent, outcome, scanned}
use Rattle.yaml_scan.specs.Slots.{tokens_of}

-- the rules accept the text, and ts is its list
pub record Accepts (limits : Limits) (bytes : List ℕ) (ts : List Token) : Type 0 where
  pub events : List Event
  pub accepted : outcome limits bytes ≡ scanned events
  pub list : ts ≡ tokens_of events

-- it is the list that is answered, whatever the room lent
pub list_answered : (limits : Limits) (bytes : List ℕ) (ts : List Token) → Accepts limits bytes ts → (words_room bytes_room : ℕ)
    → answer limits bytes words_room bytes_room ≡ lent ts words_room bytes_room
unfolding answer answer_for
list_answered limits bytes ts a w b = rw (a.accepted, a.list)
