-- One step: what it is given, and what it comes to, held against what the definition's step says. It speaks of the state, the stacks,
-- the counts and the lent bytes; where the tokens go is its caller's, who stores the events that `events_of` names.
use Rattle.std.specs.Prelude.{◌≤◌, ℕ, List, [], ◌≡◌, length}
use Rattle.std.proofs.lemmas.List.Edits.{sets}
use Rattle.yaml_text.specs.declared.Mark.{Mark}
use Rattle.yaml_text.specs.declared.Refusal.{Refusal}
use Rattle.yaml_text.specs.Refusal.{Read, ◌>>=◌, got, refused}
use Rattle.yaml_scan.specs.declared.Limits.{Limits}
use Rattle.yaml_scan.specs.Choice.{choice}
use Rattle.yaml_scan.specs.Scan.{to_next_token, unrolled}
use Rattle.yaml_scan.specs.State.{Event, News, block_ends, counting, ends_with, goes_on, preceded, with_indents}
use Rattle.yaml_scan.specs.State as definition
use Rattle.events.specs.declared.Counts.{Counts}
use Rattle.events.specs.Event.{event_texts}
use Rattle.states.specs.declared.State.{State}
use Rattle.states.specs.Fetch.{Ready}
use Rattle.states.specs.Refused.{choice_bytes}
use Rattle.states.specs.State.{state_of}
use Rattle.sink.specs.Stored.{CountsBehind, CountsWithin}

-- the events that are said
unfoldable pub events_of : Read News → List Event
events_of (got (goes_on es s)) = es
events_of (got (ends_with es)) = es
events_of (refused n m) = []

-- what is said behind so many ends of blocks at the mark m
abbrev pub behind_ends : ℕ → Mark → Read News → Read News
behind_ends ended m d = d >>= λ w. got (preceded (block_ends ended m) w)

-- what a step is given: a short text, a state that is ready, and counts that the text up to there may come to
pub record StepGiven (limits : Limits) (text stacks : List ℕ) (s : State) (n : Counts) : Type 0 where
  pub short : length text ≤ 1_048_576
  pub ready : Ready limits text stacks s
  pub few : CountsWithin n s.place.at

-- it goes on: to the state t with the stacks e, the counts m, and the lent bytes from b to b'
pub record StepGoes (limits : Limits) (text e : List ℕ) (d : Read News) (n m : Counts) (b b' : List ℕ) (t : State) : Type 0 where
  pub same : d ≡ got (goes_on (events_of d) (state_of text e m.count t))
  pub counts : CountsBehind n m (events_of d)
  pub bytes : b' ≡ sets b n.used (event_texts (events_of d))
  pub given : StepGiven limits text e t m

-- it is the last
pub record StepEnds (d : Read News) (n m : Counts) (b b' : List ℕ) : Type 0 where
  pub same : d ≡ got (ends_with (events_of d))
  pub counts : CountsBehind n m (events_of d)
  pub bytes : b' ≡ sets b n.used (event_texts (events_of d))
  pub few : CountsWithin m 1_048_577

-- it is refused: the lent bytes are z
pub record StepRefused (d : Read News) (z b' : List ℕ) (f : Refusal) : Type 0 where
  pub same : d ≡ refused f.number f.mark
  pub bytes : b' ≡ z

-- the lent bytes where the token at x is refused, so many of them used
abbrev pub token_left : definition.State → List ℕ → ℕ → List ℕ
token_left x b used = choice_bytes (choice x) b used

-- where the step from x is refused: on the way to its token they stay
unfoldable pub way_left : Read definition.State → List ℕ → ℕ → List ℕ
way_left (refused n m) b used = b
way_left (got x) b used = let u = unrolled x in token_left (counting u.ended (with_indents u.indents x)) b used

abbrev pub step_left : definition.State → List ℕ → ℕ → List ℕ
step_left x b used = way_left (to_next_token x) b used
