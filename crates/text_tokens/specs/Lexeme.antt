-- The contract of the fetchers of a lexeme, and what is lent to the reader of one.
use Rattle.std.specs.Prelude.{ℕ, List, ◌≡◌, Result, length}
use Rattle.std.specs.Fn.{Once}
use denote.Ref.{Bor, MutBor}
use Rattle.yaml_text.specs.declared.Refusal.{Refusal}
use Rattle.yaml_text.specs.Refusal.{Read}
use Rattle.yaml_scan.specs.declared.Limits.{Limits}
use Rattle.yaml_scan.specs.State.{News}
use Rattle.yaml_scan.specs.State as definition
use Rattle.rooms.specs.Room.{cleared}
use Rattle.events.specs.declared.Counts.{Counts}
use Rattle.states.specs.declared.Fetched.{Fetched}
use Rattle.states.specs.declared.State.{State}
use Rattle.states.specs.Fetch.{FetchesText}
use Rattle.states.specs.Key.{saved_words}
use Rattle.states.specs.Lexed.{back, clipped, part}
use Rattle.states.specs.State.{state_of}

-- the unused end of the bytes; the bytes where another stands in its place
abbrev pub unused : ℕ → List ℕ → List ℕ
unused used before = part (clipped used (length before)) before

abbrev pub with_unused : ℕ → List ℕ → List ℕ → List ℕ
with_unused used before after = back (clipped used (length before)) before after

-- a reader, which is called once, at a text and at bytes that are lent to it
abbrev pub Reader : Type 0 → Type 0 → Type 1
Reader F R = Once F (Bor (List ℕ) × (MutBor (List ℕ) × Unit {0})) (R × (MutBor (List ℕ) × Unit {0}))

-- the reader f may be called at the text `rest`, where the bytes `lent` are lent to it
abbrev pub TakesLent : {F R : Type 0} → Reader F R → F → List ℕ → List ℕ → Type 0
TakesLent g f rest lent = (t : Bor (List ℕ)) (b : MutBor (List ℕ)) → t.now ≡ rest → b.now ≡ lent → g.pre f (t, (b, tt))

-- r is what the reader f answers of the text `rest`, where the unused end of the bytes `before` is lent to it, which are `after` then
pub record ReadsLent {F R : Type 0} (g : Reader F R) (f : F) (rest before after : List ℕ) (used : ℕ) (r : R) : Type 0 where
  pub shown : Bor (List ℕ)
  pub shows : shown.now ≡ rest
  pub lent : MutBor (List ℕ)
  pub lends : lent.now ≡ unused used before
  pub left : MutBor (List ℕ)
  pub met : g.post f (shown, (lent, tt)) (r, (left, tt))
  pub leaves : after ≡ with_unused used before left.now

-- a fetcher that saves a candidate: from the lent words a to e and the lent bytes `before` to `after`, which at a refusal are zeros
-- behind those used so far; the definition's fetcher is f
abbrev pub FetchesSaved : Limits → List ℕ → List ℕ → List ℕ → List ℕ → List ℕ → Counts → State → (definition.State → Read News) → Result Fetched Refusal → Type 0
FetchesSaved limits text a e before after n s f r =
    FetchesText limits text a e (saved_words a n.count s) before (cleared before n.used) after n s (f (state_of text a n.count s)) r
