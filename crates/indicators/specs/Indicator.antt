-- What '-', '?' and ':' do: one character, the current level, rolling, and what the definition sees of it.
use Rattle.std.specs.Prelude.{◌≤◌, ℕ, Bool, false, List, ◌≡◌, Result, Ok, Err, ltb}
use Rattle.yaml_text.specs.declared.Mark.{Mark}
use Rattle.yaml_text.specs.declared.Refusal.{Refusal}
use Rattle.yaml_text.specs.Pick.{pick}
use Rattle.yaml_text.specs.Mark.{along, edge_of}
use Rattle.yaml_lexeme.specs.declared.Kind.{Kind}
use Rattle.yaml_scan.specs.declared.Limits.{Limits}
use Rattle.yaml_scan.specs.Indent.{roll_at}
use Rattle.chars.specs.declared.mark.Place.{Place}
use Rattle.chars.specs.View.{past}
use Rattle.stacks.specs.declared.indent.Rolled.{Rolled}
use Rattle.stacks.specs.Frame.{FramesStay, SetsLevel, level_of}
use Rattle.stacks.specs.Indent.{Low, indents_seen}
use Rattle.stacks.specs.Roll.{LowRolled, rolled_seen}
use Rattle.reading.specs.declared.Lexeme.{Lexeme}
use Rattle.events.specs.declared.Event.{Event}
use Rattle.events.specs.declared.Note.{Note}
use Rattle.events.specs.declared.Note.TheVariants as note
use Rattle.events.specs.declared.Opening.{Opening}
use Rattle.events.specs.declared.Opening.TheVariants as opening
use Rattle.events.specs.Event.{opening_if}
use Rattle.states.specs.declared.State.{State}
use Rattle.states.specs.declared.Fetched.{Fetched}
use Rattle.states.specs.declared.Fetched.TheVariants as fetched
use Rattle.states.specs.State.{Lent, s_moved}
use Rattle.indicators.specs.Words.{colon_of, pair_of, roll_words}

-- the one character at a place
abbrev pub lexeme_one : Kind → Place → Lexeme
lexeme_one k p = record { token = record { kind = k; start = p.mark; end = along p.mark }; next = past p 1 (along p.mark) }

abbrev pub event_one : Note → Opening → Kind → Place → Event
event_one n o k p = record { note = n; closed = 0; opening = o; token = (lexeme_one k p).token }

-- on from behind it
abbrev pub goes_one : State → Note → Opening → Kind → Bool → Fetched
goes_one s n o k allowed = fetched.Goes (event_one n o k s.place) (s_moved s (lexeme_one k s.place).next false allowed)

-- ':' came at the level d, from the words a to e, and began a pair or not
pub record SeesColon (a e : List ℕ) (d : ℕ) (pair : Bool) : Type 0 where
  pub is : pair ≡ pair_of d (level_of a d)
  pub sets : SetsLevel a e d (colon_of (level_of a d) pair)

-- what goes in before a candidate
unfoldable pub note_by : ℕ → Bool → Bool → Note
note_by n pair starts = pick pair (note.Pair n) (pick starts (note.Block n) (note.Key n))

-- what opens without one
unfoldable pub start_by : Bool → Bool → Opening
start_by pair starts = pick pair opening.FlowMappingStart (opening_if starts opening.BlockMappingStart)

-- what rolling to the column of the mark m asks
pub record Rollable (limits : Limits) (a : List ℕ) (m : Mark) (s : State) : Type 0 where
  pub low : Low limits.entries s.indents
  pub lent : Lent limits a
  pub col : m.col ≤ 1_048_576

-- a refusal leaves the words as they are
abbrev pub KeptRolled : List ℕ → List ℕ → Result Rolled Refusal → Type 0
KeptRolled a e (Ok r) = Unit {0}
KeptRolled a e (Err f) = e ≡ a

-- rolling to it, only at level 0, from the words a to e
pub record RollsAt (limits : Limits) (a e : List ℕ) (m : Mark) (s : State) (r : Result Rolled Refusal) : Type 0 where
  pub same : rolled_seen e r ≡ roll_at limits.entries (ltb 0 s.flow_level) s.place.mark (edge_of m) (indents_seen a s.indents)
  pub words : e ≡ roll_words limits a m s
  pub kept : KeptRolled a e r
  pub frames : FramesStay a e
  pub low : LowRolled limits.entries r
