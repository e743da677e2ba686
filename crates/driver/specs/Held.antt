-- What is held between two calls, as words: the stacks, then what waits, the counts, and the state of the scan. Whatever the words hold, a
-- state is read out of them: a number above what can stand there counts as the highest that can.
use Rattle.std.specs.Prelude.{◌%◌, ◌*◌, ◌+◌, ◌-◌, ◌/◌, ◌≤◌, ℕ, List, [], ◌∷◌, ◌≡◌, refl, eqb, get_or, length, set, take}
use Rattle.std.proofs.lemmas.List.Edits.{sets}
use Rattle.yaml_text.specs.declared.Mark.{Mark}
use Rattle.yaml_scan.specs.declared.Limits.{Limits}
use Rattle.yaml_scan.specs.Scan.{standard}
use Rattle.yaml_scan.specs.State as definition
use Rattle.chars.specs.declared.mark.Place.{Place}
use Rattle.stacks.specs.Bit.{bit}
use Rattle.stacks.specs.Indent.{most_at}
use Rattle.stacks.specs.Most.{at_most}
use Rattle.stacks.specs.Stack.{stack_words}
use Rattle.events.specs.declared.Counts.{Counts}
use Rattle.states.specs.declared.State.{State}
use Rattle.states.specs.State.{state_of}
use Rattle.stream_laws.specs.declared.Pending.{Pending}

-- limits that are at most 01's. No type says so: all below the loop take Limits, and would be handed what is inside
pub record Modest (limits : Limits) : Type 0 where
  pub bytes : limits.bytes ≤ standard.bytes
  pub levels : limits.levels ≤ standard.levels
  pub entries : limits.entries ≤ standard.entries

-- where each word stands

-- 0: fresh; 1: scanning; 2: StreamEnd was scanned; any other: refused
abbrev pub phase_at : ℕ
phase_at = stack_words

-- the number of the token in slot 0
abbrev pub base_at : ℕ
base_at = stack_words + 1

-- the first slot that waits
abbrev pub slot_at : ℕ
slot_at = stack_words + 2

-- the slot up to which tokens can be given
abbrev pub until_at : ℕ
until_at = stack_words + 3

-- the flow level whose candidate the token there may be
abbrev pub level_at : ℕ
level_at = stack_words + 4

-- three words: the counts
abbrev pub counts_at : ℕ
counts_at = stack_words + 5

-- nine words: the state; its second to fourth are the mark
abbrev pub state_at : ℕ
state_at = stack_words + 8

abbrev pub mark_at : ℕ
mark_at = stack_words + 9

-- the refusal's number
abbrev pub number_at : ℕ
number_at = stack_words + 17

abbrev pub held_words : ℕ
held_words = 1_809

all_words : held_words ≡ number_at + 1
all_words = refl

abbrev pub word : List ℕ → ℕ → ℕ
word h i = get_or h i 0

-- reading

abbrev pub stacks_held : List ℕ → List ℕ
stacks_held h = take stack_words h

abbrev pub at_held : List ℕ → List ℕ → ℕ
at_held text h = at_most (length text) (word h state_at)

abbrev pub index_held : List ℕ → List ℕ → ℕ
index_held text h = at_most (1_048_576 + at_held text h - length text) (word h mark_at)

abbrev pub place_held : List ℕ → List ℕ → Place
place_held text h =
    record {
      at = at_held text h;
      mark = record {
        index = index_held text h;
        line = at_most (index_held text h + 1) (word h (mark_at + 1));
        col = at_most (index_held text h) (word h (mark_at + 2));
      };
    }

abbrev pub depth_held : Limits → List ℕ → ℕ
depth_held limits h = at_most limits.entries (word h (state_at + 7))

abbrev pub state_held : Limits → List ℕ → List ℕ → State
state_held limits text h =
    record {
      place = place_held text h;
      leading_whitespace = eqb (word h (state_at + 4) % 2) 1;
      simple_key_allowed = eqb (word h (state_at + 4) / 2 % 2) 1;
      adjacent_value_allowed_at = word h (state_at + 5);
      indents = record { indent = at_most (most_at (depth_held limits h)) (word h (state_at + 6)); depth = depth_held limits h };
      flow_level = at_most limits.levels (word h (state_at + 8));
    }

-- a text of so many bytes up to the place comes to at most this
abbrev pub counts_held : List ℕ → List ℕ → Counts
counts_held text h =
    record {
      count = at_most (1 + 512 * at_held text h) (word h counts_at);
      put_in = at_most (2 * at_held text h) (word h (counts_at + 1));
      used = at_most (3 * at_held text h) (word h (counts_at + 2));
    }

-- what the definition sees
abbrev pub seen_held : Limits → List ℕ → List ℕ → definition.State
seen_held limits text h = state_of text (stacks_held h) (counts_held text h).count (state_held limits text h)

-- storing

abbrev pub mark_words : Mark → List ℕ
mark_words m = m.index ∷ m.line ∷ m.col ∷ []

unfoldable pub state_words : State → List ℕ
state_words s =
    s.place.at ∷ s.place.mark.index ∷ s.place.mark.line ∷ s.place.mark.col ∷ (bit s.leading_whitespace + 2 * bit s.simple_key_allowed)
    ∷ s.adjacent_value_allowed_at ∷ s.indents.indent ∷ s.indents.depth ∷ s.flow_level ∷ []

abbrev pub put_state : List ℕ → State → List ℕ
put_state h s = sets h state_at (state_words s)

abbrev pub count_words : Counts → List ℕ
count_words n = n.count ∷ n.put_in ∷ n.used ∷ []

abbrev pub put_counts : List ℕ → Counts → List ℕ
put_counts h n = sets h counts_at (count_words n)

-- what is pending

-- the token in slot 0; n: the counts that are held
abbrev pub pending_held : List ℕ → ℕ → Counts → Pending
pending_held h base n = record { number = base; level = at_most 255 (word h level_at); put_in = n.put_in }

-- tokens can be given up to the one that is pending
abbrev pub put_until : List ℕ → ℕ → Pending → List ℕ
put_until h base w = set h until_at (w.number - base)

abbrev pub put_pending : List ℕ → ℕ → Pending → List ℕ
put_pending h base w = put_until (set h level_at w.level) base w
