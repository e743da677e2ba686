-- K2 on the frames: what the code's rules of the candidate make of the lent words, and what the definition sees of it.
use Rattle.std.specs.Prelude.{ℕ, Bool, ◌&&◌, false, not, List, ◌≡◌, Result, Ok, Err, ltb, ⊤}
use Rattle.yaml_text.specs.declared.Mark.{Mark}
use Rattle.yaml_text.specs.declared.Refusal.{Refusal}
use Rattle.yaml_text.specs.Pick.{pick}
use Rattle.yaml_text.specs.Refusal.{Read, got, refused}
use Rattle.yaml_scan.specs.declared.Candidate.{Candidate}
use Rattle.yaml_scan.specs.declared.Candidate.TheVariants.{Absent, Possible}
use Rattle.yaml_scan.specs.Keys.{stale}
use Rattle.yaml_scan.specs.State.{lapse_key, remove_key, save_key}
use Rattle.yaml_scan.specs.State as definition
use Rattle.stacks.specs.Frame.{SetsKey, key_of, put_key}
use Rattle.stacks.specs.Indent.{EntriesStay}
use Rattle.states.specs.declared.State.{State}
use Rattle.states.specs.State.{required_of, state_of}

-- the words after a candidate was saved, as the token of that number
unfoldable pub saved_words : List ℕ → ℕ → State → List ℕ
saved_words a count s =
    pick s.simple_key_allowed (put_key a s.flow_level (Possible (required_of a s) count s.place.mark)) a

-- the words after it was taken away
unfoldable pub removed_words : List ℕ → State → List ℕ
removed_words a s = put_key a s.flow_level Absent

-- a candidate lapses at a mark; a required one does not, it is refused
unfoldable pub lapses_at : Mark → Candidate → Bool
lapses_at m Absent = false
lapses_at m (Possible required n k) = stale k m && not required

-- the words after it may have lapsed
unfoldable pub lapsed_words : List ℕ → State → List ℕ
lapsed_words a s = pick (not (ltb 0 s.flow_level) && lapses_at s.place.mark (key_of a s.flow_level)) (removed_words a s) a

-- the candidate is saved, from the words a to e
pub record Saves (a e : List ℕ) (count : ℕ) (s : State) : Type 0 where
  pub words : e ≡ saved_words a count s
  pub same : (text : List ℕ) → state_of text e count s ≡ save_key (state_of text a count s)
  pub entries : EntriesStay a e

-- the candidate is taken away, from the words a to e
pub record Removes (a e : List ℕ) (s : State) : Type 0 where
  pub words : e ≡ removed_words a s
  pub same : (text : List ℕ) (count : ℕ) → state_of text e count s ≡ remove_key (state_of text a count s)
  pub sets : SetsKey a e s.flow_level Absent

-- what the definition sees of the check
unfoldable pub lapsed_seen : List ℕ → List ℕ → ℕ → State → Result ⊤ Refusal → Read definition.State
lapsed_seen text e count s (Ok passed) = got (state_of text e count s)
lapsed_seen text e count s (Err f) = refused f.number f.mark

-- the candidate lapses, from the words a to e, if it is to; or it is refused, and they stay
pub record Lapses (a e : List ℕ) (s : State) (r : Result ⊤ Refusal) : Type 0 where
  pub words : e ≡ lapsed_words a s
  pub same : (text : List ℕ) (count : ℕ) → lapsed_seen text e count s r ≡ lapse_key (state_of text a count s)
  pub entries : EntriesStay a e
