-- What '-', '?' and ':' make of the lent words: a roll, the candidate's end, and the level's data.
use Rattle.std.specs.Prelude.{ℕ, Bool, ◌&&◌, ◌||◌, not, true, List, ltb}
use Rattle.yaml_text.specs.declared.Mark.{Mark}
use Rattle.yaml_text.specs.Mark.{edge_of}
use Rattle.yaml_text.specs.Pick.{pick}
use Rattle.yaml_scan.specs.declared.Candidate.{Candidate}
use Rattle.yaml_scan.specs.declared.Candidate.TheVariants.{Absent, Possible}
use Rattle.yaml_scan.specs.declared.Level.{Level}
use Rattle.yaml_scan.specs.declared.Limits.{Limits}
use Rattle.stacks.specs.Frame.{key_of, level_of, put_key, put_level}
use Rattle.stacks.specs.Indent.{indents_seen}
use Rattle.stacks.specs.Roll.{rolled_words}
use Rattle.states.specs.declared.State.{State}
use Rattle.states.specs.Key.{removed_words}

-- '?' came in this entry
abbrev pub questioned_of : Level → Level
questioned_of l = record { sequence = l.sequence; colon = l.colon; question = true; implicit = l.implicit }

-- ':' came in this entry, and began a pair or not
abbrev pub colon_of : Level → Bool → Level
colon_of l pair = record { sequence = l.sequence; colon = true; question = l.question; implicit = l.implicit || pair }

-- the first ':' of a sequence's entry, if no '?' came before it
unfoldable pub pair_of : ℕ → Level → Bool
pair_of level l = ltb 0 level && l.sequence && not l.colon && not l.question

-- the words after rolling to the column of the mark m, only at level 0
unfoldable pub roll_words : Limits → List ℕ → Mark → State → List ℕ
roll_words limits a m s = pick (ltb 0 s.flow_level) a (rolled_words limits.entries (edge_of m) a (indents_seen a s.indents))

-- '-': rolled to its column, the candidate gone
abbrev pub dash_words : Limits → List ℕ → State → List ℕ
dash_words limits a s = removed_words (roll_words limits a s.place.mark s) s

-- '?': the same, and it came in this entry
abbrev pub question_words : Limits → List ℕ → State → List ℕ
question_words limits a s = put_level (dash_words limits a s) s.flow_level (questioned_of (level_of a s.flow_level))

-- ':' came in the entry, by the words a, whatever else was stored in b
abbrev colon_stored : List ℕ → List ℕ → ℕ → List ℕ
colon_stored a b level = put_level b level (colon_of (level_of a level) (pair_of level (level_of a level)))

-- ':' with a candidate at the mark m: rolled to its column, it is gone
abbrev pub with_words : Limits → List ℕ → Mark → State → List ℕ
with_words limits a m s = colon_stored a (put_key (roll_words limits a m s) s.flow_level Absent) s.flow_level

-- ':' without one: rolled to its own column
abbrev pub without_words : Limits → List ℕ → State → List ℕ
without_words limits a s = colon_stored a (roll_words limits a s.place.mark s) s.flow_level

unfoldable pub words_by : Candidate → Limits → List ℕ → State → List ℕ
words_by Absent limits a s = without_words limits a s
words_by (Possible required n m) limits a s = with_words limits a m s

-- ':'
abbrev pub colon_words : Limits → List ℕ → State → List ℕ
colon_words limits a s = words_by (key_of a s.flow_level) limits a s
