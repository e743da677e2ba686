-- The state of the code: its changes, and what the definition sees of it with its stacks.
use Rattle.std.specs.Prelude.{◌+◌, ◌≤◌, suc, ℕ, Bool, ◌&&◌, not, true, List, eqb, ltb, length}
use Rattle.yaml_text.specs.declared.Mark.{Mark}
use Rattle.yaml_text.specs.Mark.{origin}
use Rattle.yaml_scan.specs.declared.Candidate.{Candidate}
use Rattle.yaml_scan.specs.declared.Candidate.TheVariants.{Absent, Possible}
use Rattle.yaml_scan.specs.declared.Limits.{Limits}
use Rattle.yaml_scan.specs.Indent.{top_ends}
use Rattle.yaml_scan.specs.State as definition
use Rattle.chars.specs.declared.mark.Place.{Place}
use Rattle.chars.specs.View.{Stands, view}
use Rattle.stacks.specs.declared.indent.Indents.{Indents}
use Rattle.stacks.specs.Stack.{entry_words, stack_words}
use Rattle.stacks.specs.Indent.{Low, entries_of, indents_seen}
use Rattle.stacks.specs.Frame.{frame_keys, frame_levels}
use Rattle.states.specs.declared.State.{State}

-- the state with some parts changed

abbrev pub s_moved : State → Place → Bool → Bool → State
s_moved s p leads allowed = record { place = p; leading_whitespace = leads; simple_key_allowed = allowed; indents = s.indents; flow_level = s.flow_level; adjacent_value_allowed_at = s.adjacent_value_allowed_at }

abbrev pub s_with_indents : State → Indents → State
s_with_indents s i = record { place = s.place; leading_whitespace = s.leading_whitespace; simple_key_allowed = s.simple_key_allowed; indents = i; flow_level = s.flow_level; adjacent_value_allowed_at = s.adjacent_value_allowed_at }

abbrev pub s_with_level : State → ℕ → State
s_with_level s l = record { place = s.place; leading_whitespace = s.leading_whitespace; simple_key_allowed = s.simple_key_allowed; indents = s.indents; flow_level = l; adjacent_value_allowed_at = s.adjacent_value_allowed_at }

abbrev pub s_adjacent_here : State → State
s_adjacent_here s = record { place = s.place; leading_whitespace = s.leading_whitespace; simple_key_allowed = s.simple_key_allowed; indents = s.indents; flow_level = s.flow_level; adjacent_value_allowed_at = s.place.mark.index + 1 }

-- StreamStart was given
abbrev pub s_begin : State
s_begin =
    record {
      place = record { at = 0; mark = origin };
      leading_whitespace = true;
      simple_key_allowed = true;
      indents = record { indent = 0; depth = 0 };
      flow_level = 0;
      adjacent_value_allowed_at = 0;
    }

-- a place that was counted from p on
abbrev pub behind_of : Place → Place → Place
behind_of p next = record { at = p.at + next.at; mark = next.mark }

-- K2: a candidate here is required
unfoldable pub required_of : List ℕ → State → Bool
required_of stacks s =
    not (ltb 0 s.flow_level) && eqb s.indents.indent (s.place.mark.col + 1) && top_ends (entries_of stacks s.indents.depth)

-- what the definition sees, after so many tokens
abbrev pub state_of : List ℕ → List ℕ → ℕ → State → definition.State
state_of text stacks count s =
    record {
      place = view text s.place;
      leading_whitespace = s.leading_whitespace;
      simple_key_allowed = s.simple_key_allowed;
      indents = indents_seen stacks s.indents;
      keys = frame_keys stacks (suc s.flow_level);
      levels = frame_levels stacks s.flow_level;
      adjacent_value_allowed_at = s.adjacent_value_allowed_at;
      count = count;
    }

-- the candidate's mark
unfoldable pub key_mark : Candidate → Mark
key_mark Absent = origin
key_mark (Possible required n m) = m

-- what every step keeps of a state: it stands in the text, within the limits of its stacks
pub record Sane (limits : Limits) (text : List ℕ) (s : State) : Type 0 where
  pub stands : Stands text s.place
  pub low : Low limits.entries s.indents
  pub deep : s.flow_level ≤ limits.levels

-- the words that are lent hold all entries and frames, and the limits are at most 01's
pub record Lent (limits : Limits) (stacks : List ℕ) : Type 0 where
  pub room : stack_words ≤ length stacks
  pub entries_most : limits.entries ≤ entry_words
  pub levels_most : limits.levels ≤ 255
