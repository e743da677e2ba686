-- One step as the loop makes it: its answer, and what is stored of it. base: the number of the token in slot 0.
use Rattle.std.specs.Prelude.{◌+◌, ◌-◌, ℕ, List, map, ◌≡◌, length}
use Rattle.yaml_text.specs.Refusal.{Read}
use Rattle.yaml_scan.specs.declared.Limits.{Limits}
use Rattle.yaml_scan.specs.Fetch.{fetch_next}
use Rattle.yaml_scan.specs.State.{News}
use Rattle.yaml_stream.specs.Stream.{counted_from}
use Rattle.stacks.specs.Stack.{stack_words}
use Rattle.events.specs.declared.Counts.{Counts}
use Rattle.sink.specs.EventsStored.{store_events}
use Rattle.states.specs.declared.State.{State}
use Rattle.states.specs.State.{state_of}
use Rattle.storing.specs.Step.{StepEnds, StepGoes, StepRefused, behind_ends, events_of}
use Rattle.driver.specs.declared.Stepped.{Stepped}
use Rattle.driver.specs.declared.Stepped.TheVariants.{Ends, On, Refused}

-- the answer of a step that says d, with the stacks e behind it, and the lent bytes from b to b', which are z where it is refused
abbrev pub StepAnswers : Limits → List ℕ → List ℕ → Read News → Counts → List ℕ → List ℕ → List ℕ → Stepped → Type 0
StepAnswers limits text e d n b z b' (On t m) = StepGoes limits text e d n m b b' t
StepAnswers limits text e d n b z b' (Ends m) = StepEnds d n m b b'
StepAnswers limits text e d n b z b' (Refused f) = StepRefused d z b' f

-- and what it stores, in the words from l to l': the events that it says, none at a refusal
pub record StepDone (limits : Limits) (text e : List ℕ) (d : Read News) (base : ℕ) (n : Counts) (l b z l' b' : List ℕ) (r : Stepped) : Type 0 where
  pub answers : StepAnswers limits text e d n b z b' r
  pub kept : length e ≡ stack_words
  pub words : l' ≡ store_events l (n.count - base) n.used (map (counted_from base) (events_of d))

-- what the definition says of one token from s, behind so many ends of blocks there, with the stacks a
abbrev pub token_news : Limits → List ℕ → List ℕ → State → ℕ → Counts → Read News
token_news limits text a s ended n = behind_ends ended s.place.mark (fetch_next limits (state_of text a (n.count + ended) s))
