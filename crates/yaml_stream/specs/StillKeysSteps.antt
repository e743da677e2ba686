-- Every step keeps what StillKeys says, so it holds of every state that a run reaches, and KeysNear can read it off any of them.
use Rattle.std.specs.Prelude.{List, ◌≡◌, length}
use Rattle.yaml_scan.specs.State.{News, State, ends_with, goes_on, mark_of}
use Rattle.yaml_scan.specs.Slots.{Slot, slots}
use Rattle.yaml_scan.specs.Candidates.{Fall}
use Rattle.yaml_stream.specs.StillKeys.{StillKeys}

-- a token that leaves the candidates: an end of a block, or a filler

-- a token that takes this level's candidate away, used or not

-- a token that may be the next candidate

-- a step

-- what holds of a state and of all slots so far
pub record KeysSoFar (s : State) (ys : List Slot) : Type 0 where
  pub falls : Fall s.count s.keys
  pub counted : length ys ≡ s.count
  pub still : StillKeys s.keys s.simple_key_allowed (mark_of s).line 0 ys

-- a step keeps it
abbrev pub KeysSoFarIn : List Slot → News → Type 0
KeysSoFarIn ys (goes_on es t) = KeysSoFar t (slots ys es)
KeysSoFarIn ys (ends_with es) = Unit {0}
