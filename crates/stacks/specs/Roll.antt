-- Entries that come: what `stack` and `roll` make of the lent words, and what the definition sees of it. The frames stay.
use Rattle.std.specs.Prelude.{◌+◌, ◌≤◌, ℕ, Bool, true, List, ◌≡◌, Result, Ok, Err, ltb, length, set}
use Rattle.yaml_text.specs.declared.Mark.{Mark}
use Rattle.yaml_text.specs.declared.Refusal.{Refusal}
use Rattle.yaml_text.specs.Pick.{pick}
use Rattle.yaml_text.specs.Refusal.{Read, got, refused}
use Rattle.yaml_scan.specs.Indent.{drop_for, roll, stack}
use Rattle.yaml_scan.specs.Indent as definition
use Rattle.stacks.specs.Frame.{FramesStay}
use Rattle.stacks.specs.Indent.{Low, entries_of, indents_seen, word_of}
use Rattle.stacks.specs.declared.indent.Indents.{Indents}
use Rattle.stacks.specs.declared.indent.Rolled.{Rolled}

-- what the definition sees
abbrev pub stacked_seen : List ℕ → Result Indents Refusal → Read definition.Indents
stacked_seen a (Ok i) = got (indents_seen a i)
stacked_seen a (Err f) = refused f.number f.mark

abbrev pub rolled_seen : List ℕ → Result Rolled Refusal → Read definition.Rolled
rolled_seen a (Ok r) = got (record { starts = r.starts; indents = indents_seen a r.indents })
rolled_seen a (Err f) = refused f.number f.mark

-- the refusal of a full stack
abbrev pub full_at : Mark → Refusal
full_at m = record { number = 48; mark = m }

-- one entry more, and its indent
abbrev pub one_more : ℕ → Indents → Indents
one_more indent i = record { indent = indent; depth = i.depth + 1 }

-- the words after one entry more
abbrev pub stored : ℕ → Bool → List ℕ → definition.Indents → List ℕ
stored room ends a s =
    pick (ltb (length s.entries) room) (set a (length s.entries) (word_of s.indent ends)) a

-- the words after a roll
abbrev pub rolled_words : ℕ → ℕ → List ℕ → definition.Indents → List ℕ
rolled_words room edge a s =
    let d = drop_for edge s.indent s.entries in
    pick (ltb d.indent edge) (stored room true a d) a

abbrev pub LowStacked : ℕ → Result Indents Refusal → Type 0
LowStacked room (Ok i) = Low room i
LowStacked room (Err f) = Unit {0}

abbrev pub LowRolled : ℕ → Result Rolled Refusal → Type 0
LowRolled room (Ok r) = Low room r.indents
LowRolled room (Err f) = Unit {0}

-- `stack`, from the words a to e; a refusal is at m
pub record Stacks (a e : List ℕ) (room : ℕ) (m : Mark) (indent : ℕ) (ends : Bool) (i : Indents) (r : Result Indents Refusal) : Type 0 where
  pub same : stacked_seen e r ≡ stack room m indent ends (indents_seen a i)
  pub words : e ≡ stored room ends a (indents_seen a i)
  pub below : (n : ℕ) → n ≤ i.depth → entries_of e n ≡ entries_of a n
  pub frames : FramesStay a e
  pub low : LowStacked room r

-- `roll`, from the words a to e; a refusal is at m
pub record Rolls (a e : List ℕ) (room : ℕ) (m : Mark) (edge : ℕ) (i : Indents) (r : Result Rolled Refusal) : Type 0 where
  pub same : rolled_seen e r ≡ roll room m edge (indents_seen a i)
  pub words : e ≡ rolled_words room edge a (indents_seen a i)
  pub frames : FramesStay a e
  pub low : LowRolled room r
