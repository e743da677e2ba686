-- Words that are held: what is read out of them is fit for a step, and what was stored is read back, since each word is within its bound.
use Prim.Native.Nat.{◌%◌, ◌*◌, ◌+◌, ◌-◌, ◌/◌, ◌<◌, ◌≤◌, ℕ}
use mathlib.Core.Bool.{Bool}
use mathlib.Core.List.{List}
use mathlib.Core.Path.{◌∙◌, ◌≡◌}
use native.Mathlib.Omega.{arith}
use lib.Dec.{eqb}
use lib.ListN.{get_or, length}
use lib.Seq.{length-sets, length-take-le}
use Rattle.yaml_scan.specs.declared.Limits.{Limits}
use Rattle.rooms.specs.Room.{take_sets}
use Rattle.stacks.specs.Bit.{bit, bit_low}
use Rattle.stacks.specs.Indent.{most_at}
use Rattle.stacks.specs.Most.{at_most_fits, at_most_stays}
use Rattle.stacks.specs.Stack.{stack_words}
use Rattle.stacks.proofs.Frames.{bit_is, digit, get_d_sets, getD_sets_other}
use Rattle.events.specs.declared.Counts.{Counts}
use Rattle.states.specs.declared.State.{State}
use Rattle.storing.specs.Step.{StepGiven}
use Rattle.driver.specs.Held.{Modest, at_held, count_words, counts_at, counts_held, depth_held, held_words, index_held, mark_at, number_at, put_counts, put_state, stacks_held, state_at, state_held, state_words, word}

-- whatever the words are
pub held_given : {limits : Limits} {text : List ℕ} (h : List ℕ) → Modest limits → length text ≤ 1_048_576 → length h ≡ held_words
    → StepGiven limits text (stacks_held h) (state_held limits text h) (counts_held text h)
held_given {limits} {text} h m short all =
    record {
      short = short;
      ready = record {
        stands = record {
          within = at_most_fits (length text) (word h state_at);
          index = omega (arith, at_most_fits (1_048_576 + at_held text h - length text) (word h mark_at), at_most_fits (length text) (word h state_at));
          line = at_most_fits (index_held text h + 1) (word h (mark_at + 1));
          col = at_most_fits (index_held text h) (word h (mark_at + 2));
        };
        low = record { deep = at_most_fits limits.entries (word h (state_at + 7)); indent = at_most_fits (most_at (depth_held limits h)) (word h (state_at + 6)) };
        deep = at_most_fits limits.levels (word h (state_at + 8));
        lent = record { room = omega (arith, length-take-le stack_words h (omega arith)); entries_most = m.entries; levels_most = m.levels };
      };
      few = record {
        count = at_most_fits (1 + 512 * at_held text h) (word h counts_at);
        put_in = at_most_fits (2 * at_held text h) (word h (counts_at + 1));
        used = at_most_fits (3 * at_held text h) (word h (counts_at + 2));
      };
    }

-- a state reads nine words, the counts three and the first of these

pub state_same : (limits : Limits) (text h h' : List ℕ) → ((j : ℕ) → j < 9 → word h' (state_at + j) ≡ word h (state_at + j)) → state_held limits text h' ≡ state_held limits text h
state_same limits text h h' w =
    rw (w 0 (omega arith), w 1 (omega arith), w 2 (omega arith), w 3 (omega arith), w 4 (omega arith), w 5 (omega arith), w 6 (omega arith), w 7 (omega arith), w 8 (omega arith))

pub counts_same : (text h h' : List ℕ) → word h' state_at ≡ word h state_at → ((j : ℕ) → j < 3 → word h' (counts_at + j) ≡ word h (counts_at + j)) → counts_held text h' ≡ counts_held text h
counts_same text h h' e w = rw (e, w 0 (omega arith), w 1 (omega arith), w 2 (omega arith))

-- the two flags in a word

flag_1 : (a b : Bool) → eqb ((bit a + 2 * bit b) % 2) 1 ≡ a
flag_1 a b = rw (digit (bit a) (bit b) (bit_low a)) (bit_is a)

flag_2 : (a b : Bool) → eqb ((bit a + 2 * bit b) / 2 % 2) 1 ≡ b
flag_2 a b =
    let k = bit_low a in
    let f = bit_low b in
    let e : (bit a + 2 * bit b) / 2 % 2 ≡ bit b = omega arith in
    rw e (bit_is b)

-- words that hold what a step may be given

module _ {limits : Limits} {text stacks : List ℕ} {s : State} {n : Counts} (g : StepGiven limits text stacks s n) (h : List ℕ) where
  state_back : ((j : ℕ) → j < 9 → word h (state_at + j) ≡ get_or (state_words s) j 0) → state_held limits text h ≡ s
  unfolding state_words
  state_back w =
      let r = g.ready in
      rw (w 0 (omega arith), w 1 (omega arith), w 2 (omega arith), w 3 (omega arith), w 4 (omega arith), w 5 (omega arith), w 6 (omega arith), w 7 (omega arith), w 8 (omega arith))
      (rw (
        at_most_stays (length text) s.place.at r.stands.within,
        at_most_stays (1_048_576 + s.place.at - length text) s.place.mark.index (omega (arith, r.stands)),
        at_most_stays (s.place.mark.index + 1) s.place.mark.line r.stands.line,
        at_most_stays s.place.mark.index s.place.mark.col r.stands.col,
        at_most_stays limits.entries s.indents.depth r.low.deep,
        at_most_stays (most_at s.indents.depth) s.indents.indent r.low.indent,
        at_most_stays limits.levels s.flow_level r.deep,
        flag_1 s.leading_whitespace s.simple_key_allowed,
        flag_2 s.leading_whitespace s.simple_key_allowed,
      ))

  counts_back : word h state_at ≡ s.place.at → word h counts_at ≡ n.count → word h (counts_at + 1) ≡ n.put_in → word h (counts_at + 2) ≡ n.used
      → counts_held text h ≡ n
  counts_back e a b c =
      rw (e, a, b, c)
      (rw (
        at_most_stays (length text) s.place.at g.ready.stands.within,
        at_most_stays (1 + 512 * s.place.at) n.count g.few.count,
        at_most_stays (2 * s.place.at) n.put_in g.few.put_in,
        at_most_stays (3 * s.place.at) n.used g.few.used,
      ))

-- what was stored

module _ {limits : Limits} {text stacks : List ℕ} {s : State} {n : Counts} (g : StepGiven limits text stacks s n) (h : List ℕ) (all : length h ≡ held_words) where
  -- the state and the counts
  abbrev pub stored : List ℕ
  stored = put_counts (put_state h s) n

  pub stored_length : length stored ≡ length h
  stored_length = length-sets (put_state h s) counts_at (count_words n) ∙ length-sets h state_at (state_words s)

  -- no other word is changed
  pub stored_other : (k : ℕ) → (counts_at ≤ k → k < number_at → ⊥) → word stored k ≡ word h k
  unfolding state_words
  stored_other k o =
      getD_sets_other (count_words n) (put_state h s) counts_at k (λ a b. o a (omega arith)) ∙ getD_sets_other (state_words s) h state_at k (λ a b. o (omega arith) (omega arith))

  pub stored_stacks : stacks_held stored ≡ stacks_held h
  stored_stacks = take_sets (count_words n) (put_state h s) stack_words counts_at (omega arith) ∙ take_sets (state_words s) h stack_words state_at (omega arith)

  state_word : (j : ℕ) → j < 9 → word stored (state_at + j) ≡ get_or (state_words s) j 0
  unfolding state_words
  state_word j o =
      getD_sets_other (count_words n) (put_state h s) counts_at (state_at + j) (λ a b. omega arith) ∙ get_d_sets (state_words s) h state_at j (omega arith) o

  count_word : (j : ℕ) → j < 3 → word stored (counts_at + j) ≡ get_or (count_words n) j 0
  count_word j o = get_d_sets (count_words n) (put_state h s) counts_at j (omega (arith, length-sets h state_at (state_words s))) o

  pub stored_state : state_held limits text stored ≡ s
  stored_state = state_back g stored state_word

  pub stored_counts : counts_held text stored ≡ n
  unfolding state_words
  stored_counts = counts_back g stored (state_word 0 (omega arith)) (count_word 0 (omega arith)) (count_word 1 (omega arith)) (count_word 2 (omega arith))

-- the code's words: a length, or a count, that fits is stored as it is
