-- The way to the next token: the gap, the lapse, the unrolling, held against the definition.
use Rattle.std.specs.Prelude.{◌+◌, ◌≤◌, ℕ, List, ◌≡◌, Result, Ok, Err}
use Rattle.yaml_text.specs.declared.Mark.{Mark}
use Rattle.yaml_text.specs.declared.Refusal.{Refusal}
use Rattle.yaml_text.specs.Refusal.{got, refused}
use Rattle.yaml_scan.specs.declared.Limits.{Limits}
use Rattle.yaml_scan.specs.Scan.{to_next_token, unrolled}
use Rattle.stacks.specs.declared.indent.Unrolled.{Unrolled}
use Rattle.stacks.specs.Indent.{Below, indents_seen, unrolled_seen}
use Rattle.states.specs.declared.State.{State}
use Rattle.states.specs.Fetch.{Ready}
use Rattle.states.specs.Key.{lapsed_words}
use Rattle.states.specs.State.{s_with_indents, state_of}
use Rattle.choices.specs.declared.advance.Advanced.{Advanced}

-- the blocks that end at the column of s
pub record UnrollsHere (stacks : List ℕ) (s : State) (u : Unrolled) : Type 0 where
  pub same : (text : List ℕ) (count : ℕ) → unrolled_seen stacks u ≡ unrolled (state_of text stacks count s)
  pub below : Below s.indents u.indents
  pub few : u.ended + u.indents.depth ≤ s.indents.depth

-- from s to t before a token, where so many blocks ended, and from the words a to e
pub record AdvancesTo (limits : Limits) (text a e : List ℕ) (s t : State) (ended : ℕ) : Type 0 where
  -- behind the gap and the lapse, in the blocks of s
  pub found : (count : ℕ) → to_next_token (state_of text a count s) ≡ got (state_of text e count (s_with_indents t s.indents))
  -- from there to the blocks of t
  pub left : (count : ℕ) → unrolled (state_of text e count (s_with_indents t s.indents)) ≡ record { ended = ended; indents = indents_seen e t.indents }
  pub words : e ≡ lapsed_words a t
  pub onward : s.place.at ≤ t.place.at
  pub few : ended + t.indents.depth ≤ s.indents.depth
  pub ready : Ready limits text e t

-- it is refused as in the definition, and the words stay
pub record Stops (text a e : List ℕ) (s : State) (n : ℕ) (m : Mark) : Type 0 where
  pub same : (count : ℕ) → to_next_token (state_of text a count s) ≡ refused n m
  pub words : e ≡ a

abbrev pub Advances : Limits → List ℕ → List ℕ → List ℕ → State → Result Advanced Refusal → Type 0
Advances limits text a e s (Ok r) = AdvancesTo limits text a e s r.state r.ended
Advances limits text a e s (Err f) = Stops text a e s f.number f.mark
