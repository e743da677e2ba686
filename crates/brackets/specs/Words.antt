-- What '[', '{' and ',' make of the lent words: the entry of a bracket, a level more, a level's next entry. ']' and '}' leave them as they are.
use Rattle.std.specs.Prelude.{◌+◌, suc, ℕ, Bool, ◌&&◌, false, not, List, ◌∷◌, ◌≡◌, leb, ltb, set}
use Rattle.yaml_text.specs.Pick.{pick}
use Rattle.yaml_scan.specs.declared.Candidate.TheVariants.{Absent}
use Rattle.yaml_scan.specs.declared.Level.{Level}
use Rattle.yaml_scan.specs.declared.Limits.{Limits}
use Rattle.yaml_scan.specs.Bracket.{new_level}
use Rattle.yaml_scan.specs.Indent.{indents_of, top_ends}
use Rattle.yaml_scan.specs.Indent as definition
use Rattle.stacks.specs.declared.indent.Indents.{Indents}
use Rattle.stacks.specs.Frame.{FramesStay, frame_keys, frame_levels, level_of, put_key, put_level}
use Rattle.stacks.specs.Indent.{EntriesStay, Low, entries_of, indents_seen, word_of}
use Rattle.states.specs.declared.State.{State}
use Rattle.states.specs.Key.{removed_words, saved_words}
use Rattle.states.specs.State.{Lent}

-- K6: a bracket here stacks an entry
unfoldable pub stacks_entry : List ℕ → State → Bool
stacks_entry a s = not (ltb 0 s.flow_level) && top_ends (entries_of a s.indents.depth)

-- the indents with it, or without
unfoldable pub bracket_indents : Bool → definition.Indents → definition.Indents
bracket_indents entry i = pick entry (indents_of (i.indent + 1) (record { old = i.indent; ends = false } ∷ i.entries)) i

-- the words with it, or without
abbrev pub entry_stored : Bool → List ℕ → State → List ℕ
entry_stored entry a s = pick entry (set a s.indents.depth (word_of s.indents.indent false)) a

-- the words with one level more, without a candidate
abbrev pub level_opened : List ℕ → ℕ → Level → List ℕ
level_opened a level l = put_level (put_key a (level + 1) Absent) (level + 1) l

-- '[' or '{': the candidate is saved, an entry is stacked or none, a level is opened
abbrev pub bracket_words : Bool → List ℕ → ℕ → State → List ℕ
bracket_words sequence a count s = level_opened (entry_stored (stacks_entry a s) (saved_words a count s) s) s.flow_level (new_level sequence)

-- ',': the candidate goes, and a new entry of the level begins
abbrev pub comma_words : List ℕ → State → List ℕ
comma_words a s = put_level (removed_words a s) s.flow_level (new_level (level_of a s.flow_level).sequence)

-- what `stack_bracket` asks for: there is room for the entry, if one is to be stacked
pub record EntryFits (limits : Limits) (entry : Bool) (a : List ℕ) (s : State) : Type 0 where
  pub room : (entry && leb limits.entries s.indents.depth) ≡ false
  pub low : Low limits.entries s.indents
  pub lent : Lent limits a

-- `stack_bracket`, from the words a to e
pub record StacksBracket (limits : Limits) (entry : Bool) (a e : List ℕ) (s : State) (r : Indents) : Type 0 where
  pub words : e ≡ entry_stored entry a s
  pub same : indents_seen e r ≡ bracket_indents entry (indents_seen a s.indents)
  pub frames : FramesStay a e
  pub low : Low limits.entries r

-- `open_level`: one level more, from the words a to e
pub record OpensLevel (a e : List ℕ) (level : ℕ) (l : Level) : Type 0 where
  pub words : e ≡ level_opened a level l
  pub keys : frame_keys e (suc (level + 1)) ≡ Absent ∷ frame_keys a (suc level)
  pub levels : frame_levels e (level + 1) ≡ l ∷ frame_levels a level
  pub entries : EntriesStay a e
