-- One token: what its fetcher ensures makes the step's answer, and what was stored behind it is what the definition says.
use Prim.Native.Nat.{◌+◌, ◌-◌, ◌≤◌, ℕ}
use mathlib.Core.List.{List}
use mathlib.Core.Path.{◌∙◌, ◌≡◌, ap, refl, sym}
use Rattle.std.specs.Prelude.{Result, Ok, Err}
use native.Mathlib.Omega.{arith}
use lib.ListN.{length}
use Rattle.yaml_text.specs.declared.Refusal.{Refusal}
use Rattle.yaml_scan.specs.declared.Choice.{Choice}
use Rattle.yaml_scan.specs.declared.Limits.{Limits}
use Rattle.yaml_scan.specs.Choice.{choice}
use Rattle.choices.specs.Choice.{AsDefined}
use Rattle.stacks.specs.Stack.{stack_words}
use Rattle.events.specs.declared.Counts.{Counts}
use Rattle.events.specs.declared.Event.{Event}
use Rattle.events.specs.Event.{Countable, counted_of}
use Rattle.states.specs.declared.State.{State}
use Rattle.states.specs.declared.Fetched.{Fetched}
use Rattle.states.specs.declared.Fetched.TheVariants.{Ends, Goes}
use Rattle.states.specs.Refused.{choice_bytes}
use Rattle.states.specs.State.{state_of}
use Rattle.sink.specs.StepTokens.{put_news, shifted}
use Rattle.sink.specs.Stored.{counts_ending}
use Rattle.steps.specs.Step.{Chosen, Steps}
use Rattle.storing.specs.Step.{StepGiven, token_left}
use Rattle.storing.specs.Token.{FetchedEvent, at_end, fetched_as, going, token_countable, token_ends, token_goes, token_refused, token_words}
use Rattle.driver.specs.declared.Stepped.TheVariants as stepped
use Rattle.driver.specs.Step.{StepDone, token_news}
use Rattle.driver.proofs.Driving.{refused_done}

-- what was fetched, where the event v was taken out of it and x is the same answer

pub it_goes : {r x : Fetched} {v e u : Event} {s t : State} → r ≡ Goes e s → v ≡ e → x ≡ Goes e s → x ≡ Goes u t → r ≡ Goes v t
it_goes p q i j = cc

pub it_ends : {r : Fetched} {v e : Event} → r ≡ Ends e → v ≡ e → r ≡ Ends v
it_ends p q = cc

-- one token from s, behind so many ends of blocks there; k are the counts behind these
module _ {limits : Limits} {text a : List ℕ} {s : State} {n : Counts} (h : StepGiven limits text a s n) (ended : ℕ) (few : ended ≤ 255)
    {k : Counts} (behind : k ≡ counts_ending n ended) where
  -- what the fetchers ask for
  pub chosen : {c : Choice} → AsDefined text s (λ t. choice t) c → Chosen limits text a k.used s c
  chosen y = rw behind (record { ready = h.ready; room = omega (arith, h.short, h.few.used, h.ready.stands.within); says = y })

  -- the lent bytes where it is refused
  abbrev left_here : List ℕ → List ℕ
  left_here b = token_left (state_of text a (n.count + ended) s) b n.used

  module _ (c : Choice) {e b b' : List ℕ} where
    pub taken_refused : {base : ℕ} {f : Refusal} (l : List ℕ) → length e ≡ stack_words → AsDefined text s (λ t. choice t) c → Steps limits text a e b b' k s c (Err f)
        → StepDone limits text e (token_news limits text a s ended n) base n l b (left_here b) l b' (stepped.Refused f)
    taken_refused l long y g =
        let r = token_refused h ended few (rw behind at g) in
        refused_done l long (record { same = r.same; bytes = r.bytes ∙ ap (λ (d : Choice). choice_bytes d b n.used) (y a (n.count + ended)) })

    pub taken_countable : {r : Result Fetched Refusal} {v : Event} → Steps limits text a e b b' k s c r → FetchedEvent r v → Countable k v
    taken_countable g f = rw behind (token_countable h ended few (rw behind at g) f)

    module _ {base : ℕ} {r : Result Fetched Refusal} {v : Event} {m : Counts} (l : List ℕ) {l' : List ℕ} (g : Steps limits text a e b b' k s c r)
        (long : length e ≡ stack_words) (stored : l' ≡ put_news l (n.count - base) s.place.mark ended (shifted base v)) (told : m ≡ counted_of k v) where
      pub taken_goes : {t : State} → r ≡ Ok (Goes v t) → length a ≡ stack_words → StepDone limits text e (token_news limits text a s ended n) base n l b (left_here b) l' b' (stepped.On t m)
      taken_goes q was =
          let f = rw behind at g in
          record { answers = token_goes h ended few f q (long ∙ sym was) (rw behind at told); kept = long; words = token_words h ended few base l f (fetched_as q refl going) stored }

      pub taken_ends : r ≡ Ok (Ends v) → StepDone limits text e (token_news limits text a s ended n) base n l b (left_here b) l' b' (stepped.Ends m)
      taken_ends q =
          let f = rw behind at g in
          record { answers = token_ends h ended few f q (rw behind at told); kept = long; words = token_words h ended few base l f (fetched_as q refl at_end) stored }
