-- What the loop over steps promises, for every state that may be held and whatever it is lent.
use Rattle.std.specs.Prelude.{◌≤◌, suc, ℕ, Bool, List, ◌++◌, ◌≡◌, drop, length, take, Result, Ok, Err}
use Rattle.yaml_text.specs.declared.Refusal.{Refusal}
use Rattle.yaml_text.specs.PlaceLaws.{left}
use Rattle.yaml_scan.specs.declared.Limits.{Limits}
use Rattle.yaml_scan.specs.State.{Event}
use Rattle.yaml_scan.specs.State as definition
use Rattle.chars.specs.View.{view}
use Rattle.stacks.specs.Most.{at_most}
use Rattle.stacks.specs.Stack.{stack_words}
use Rattle.events.specs.declared.Counts.{Counts}
use Rattle.sink.specs.Stored.{CountsWithin, Stored}
use Rattle.states.specs.declared.State.{State}
use Rattle.states.specs.State.{state_of}
use Rattle.storing.specs.Step.{StepGiven}
use Rattle.driver.specs.declared.Outcome.{Outcome}
use Rattle.driver.specs.declared.Outcome.TheVariants.{Ready, Scanned}
use Rattle.stream_laws.specs.declared.Pending.{Pending}
use Rattle.stream_laws.specs.Driven.{Driven, Test, driven, ends, pauses, stops, test_of}
use Rattle.driver.specs.Held.{base_at, counts_held, pending_held, place_held, put_counts, put_pending, put_state, put_until, seen_held, word}

-- the number of the token in slot 0
abbrev pub base_held : List ℕ → List ℕ → ℕ
base_held text h = at_most (counts_held text h).count (word h base_at)

abbrev pub test_held : Limits → Bool → List ℕ → ℕ → List ℕ → Test
test_held limits one text room h w level t m = test_of one room (base_held text h) w level t.keys (length t.levels) (definition.mark_of t) m

-- what the steps from there come to
abbrev pub drives : Limits → Bool → List ℕ → ℕ → List ℕ → Driven
drives limits one text room h =
    driven limits (test_held limits one text room h) (suc (left (view text (place_held text h)))) (pending_held h (base_held text h) (counts_held text h)) (seen_held limits text h)
    (counts_held text h)

-- StreamEnd was scanned: all that was said is stored and counted
pub record EndsAs (d : Driven) (base : ℕ) (n m : Counts) (l b l' b' : List ℕ) : Type 0 where
  pub said : List Event
  pub same : d ≡ ends said
  pub stored : Stored base n m l b l' b' said
  pub few : CountsWithin m 1_048_577

-- a refusal: what was said before it is stored in the words, its texts in the bytes, and tokens can be given up to the one that was pending
pub record StopsAs (d : Driven) (base : ℕ) (n : Counts) (f : Refusal) (h l b h' l' b' : List ℕ) : Type 0 where
  pub said : List Event
  pub pending : Pending
  pub counts : Counts
  -- the bytes before the step that was refused
  pub bytes : List ℕ
  pub same : d ≡ stops said pending f.number f.mark
  pub stored : Stored base n counts l b l' bytes said
  pub texts : take counts.used b' ≡ take counts.used bytes
  pub held : drop stack_words h' ≡ drop stack_words (put_until h base pending)
  pub held_length : length h' ≡ length h
  pub words_length : length l' ≡ length l
  pub bytes_length : length b' ≡ length b

-- a pause: all that was said is stored and counted, and the state is held
pub record PausesAs (limits : Limits) (text : List ℕ) (d : Driven) (base : ℕ) (n : Counts) (h l b h' l' b' : List ℕ) : Type 0 where
  pub said : List Event
  pub pending : Pending
  pub stacks : List ℕ
  pub state : State
  pub counts : Counts
  pub same : d ≡ pauses said pending (state_of text stacks counts.count state)
  pub stored : Stored base n counts l b l' b' said
  pub given : StepGiven limits text stacks state counts
  pub kept : length stacks ≡ stack_words
  pub low : pending.level ≤ 255
  pub held : h' ≡ put_pending (put_counts (put_state (stacks ++ drop stack_words h) state) counts) base pending

abbrev pub Drives : Limits → Bool → List ℕ → List ℕ → List ℕ → List ℕ → List ℕ → List ℕ → List ℕ → Result Outcome Refusal → Type 0
Drives limits one text h l b h' l' b' (Ok (Scanned m)) =
    EndsAs (drives limits one text (length b) h) (base_held text h) (counts_held text h) m l b l' b' × (drop stack_words h' ≡ drop stack_words h) × (length h' ≡ length h)
Drives limits one text h l b h' l' b' (Ok Ready) =
    PausesAs limits text (drives limits one text (length b) h) (base_held text h) (counts_held text h) h l b h' l' b'
Drives limits one text h l b h' l' b' (Err f) = StopsAs (drives limits one text (length b) h) (base_held text h) (counts_held text h) f h l b h' l' b'
