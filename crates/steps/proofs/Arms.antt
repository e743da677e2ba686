-- An arm of a dispatcher: its choice is the definition's, so its fetcher's answer is the step, and the choice tells what the fetcher asks for.
use Prim.Native.Nat.{ℕ}
use mathlib.Core.Bool.{false}
use mathlib.Core.List.{List}
use mathlib.Core.Path.{◌≡◌}
use Rattle.std.specs.Prelude.{Result}
use Rattle.yaml_text.specs.declared.Refusal.{Refusal}
use Rattle.yaml_scan.specs.declared.Choice.{Choice}
use Rattle.yaml_scan.specs.declared.Limits.{Limits}
use Rattle.yaml_scan.specs.Fetch.{fetch}
use Rattle.events.specs.declared.Counts.{Counts}
use Rattle.states.specs.declared.Fetched.{Fetched}
use Rattle.states.specs.declared.State.{State}
use Rattle.states.specs.Answer.{quiet_text}
use Rattle.states.specs.Fetch.{FetchesQuiet}
use Rattle.states.specs.State.{state_of}
use Rattle.choices.specs.Tells.{Tells, choice_tells}
use Rattle.states.specs.Refused.{has_text}
use Rattle.steps.specs.Step.{Chosen, FetchesChoice, Steps, choice_words}

-- what stands at the place
pub told : {limits : Limits} {text a : List ℕ} {used : ℕ} {s : State} {c d : Choice} → Chosen limits text a used s c → c ≡ d → Tells text s d
told {text = text} {s = s} k q = rw q at (choice_tells text s k.says)

-- the step that its fetcher makes
pub step_by : {limits : Limits} {text a e before after : List ℕ} {n : Counts} {s : State} {c d : Choice} {r : Result Fetched Refusal} → Chosen limits text a n.used s c → c ≡ d
    → FetchesChoice limits text a e before after n s d r → Steps limits text a e before after n s c r
step_by {a = a} {n = n} k q f = rw (← k.says a n.count, q) f

-- the same of one that holds no text: the lent bytes stay
pub step_quiet : {limits : Limits} {text a e : List ℕ} (before : List ℕ) {n : Counts} {s : State} {c d : Choice} {r : Result Fetched Refusal} → Chosen limits text a n.used s c → c ≡ d
    → has_text d ≡ false → FetchesQuiet limits text a e (choice_words limits d a n.count s) n s (fetch limits d (state_of text a n.count s)) r
    → Steps limits text a e before before n s c r
step_quiet before k q z f = step_by k q (rw z (quiet_text before f))
