-- Words with more behind them than the stacks: the definition sees the same state, and what is stored for the candidate leaves the rest.
use Prim.Native.Nat.{◌+◌, ◌≤◌, suc, ℕ}
use Rattle.std.specs.Prelude.{Result, Ok, Err}
use mathlib.Core.Bool.{◌&&◌, not}
use mathlib.Core.List.{List, ◌++◌}
use mathlib.Core.Path.{◌∙◌, ◌≡◌, ap, refl, sym}
use native.Mathlib.Omega.{arith}
use lib.Dec.{ltb}
use lib.ListN.{drop, length, take, take-append-drop}
use lib.Seq.{length-take-le}
use Rattle.yaml_text.specs.declared.Mark.{Mark}
use Rattle.yaml_text.specs.declared.Refusal.{Refusal}
use Rattle.yaml_text.specs.Refusal.{Read}
use Rattle.yaml_scan.specs.declared.Candidate.TheVariants.{Absent, Possible}
use Rattle.yaml_scan.specs.declared.Limits.{Limits}
use Rattle.yaml_scan.specs.State.{News}
use Rattle.stacks.specs.Frame.{key_of}
use Rattle.stacks.specs.Indent.{indents_seen}
use Rattle.stacks.specs.Stack.{entry_words, stack_words}
use Rattle.stacks.proofs.Longer.{Longer, entries_longer, key_longer, keys_longer, levels_longer, pick_longer, put_key_longer}
use Rattle.events.specs.declared.Counts.{Counts}
use Rattle.events.specs.Event.{event_size}
use Rattle.states.specs.declared.Fetched.{Fetched}
use Rattle.states.specs.declared.Fetched.TheVariants.{Ends, Goes}
use Rattle.states.specs.declared.State.{State}
use Rattle.states.specs.Answer.{ready_key}
use Rattle.states.specs.Fetch.{After, FetchesText, Ready, fetched_seen, words_left}
use Rattle.states.specs.Key.{lapsed_words, lapses_at, removed_words, saved_words}
use Rattle.states.specs.Seen.{entries_seen}
use Rattle.states.specs.State.{required_of, state_of}

-- the stacks are the first of the words that are lent

module _ {limits : Limits} {text : List ℕ} (a : List ℕ) {s : State} (y : Ready limits text a s) where
  pub first_long : length (take stack_words a) ≡ stack_words
  first_long = length-take-le stack_words a y.lent.room

  pub first_longer : Longer (drop stack_words a) a (take stack_words a)
  first_longer = let n = first_long in record { is = sym (take-append-drop stack_words a); long = omega arith }

  -- what is ready with all of them is so with these
  pub ready_first : Ready limits text (take stack_words a) s
  ready_first =
      record {
        stands = y.stands;
        low = y.low;
        deep = y.deep;
        lent = record { room = first_longer.long; entries_most = y.lent.entries_most; levels_most = y.lent.levels_most };
      }

-- words with the same behind them
pub behind_longer : {e : List ℕ} (x : List ℕ) → length e ≡ stack_words → Longer x (e ++ x) e
behind_longer x n = record { is = refl; long = omega arith }

module _ {x a b : List ℕ} (h : Longer x a b) (s : State) where
  module _ (deep : s.indents.depth ≤ entry_words) where
    pub indents_longer : indents_seen a s.indents ≡ indents_seen b s.indents
    indents_longer = entries_seen s.indents (entries_longer h) deep

    required_longer : required_of a s ≡ required_of b s
    unfolding required_of
    required_longer = rw ((entries_longer h).entries s.indents.depth deep)

  module _ (flow : s.flow_level ≤ 255) where
    pub removed_longer : Longer x (removed_words a s) (removed_words b s)
    unfolding removed_words
    removed_longer = put_key_longer h s.flow_level Absent flow

    pub lapsed_longer : Longer x (lapsed_words a s) (lapsed_words b s)
    unfolding lapsed_words
    lapsed_longer =
        rw (key_longer h s.flow_level flow) (pick_longer (not (ltb 0 s.flow_level) && lapses_at s.place.mark (key_of b s.flow_level)) removed_longer h)

    module _ (deep : s.indents.depth ≤ entry_words) where
      pub state_longer : (text : List ℕ) (count : ℕ) → state_of text a count s ≡ state_of text b count s
      state_longer text count =
          rw ((entries_longer h).entries s.indents.depth deep, keys_longer h (suc s.flow_level) (omega arith), levels_longer h s.flow_level flow)

      pub saved_longer : (count : ℕ) → Longer x (saved_words a count s) (saved_words b count s)
      unfolding saved_words
      saved_longer count =
          rw (required_longer deep) (pick_longer s.simple_key_allowed (put_key_longer h s.flow_level (Possible (required_of b s) count s.place.mark) flow) h)

-- what the definition sees of an answer
seen_longer : (limits : Limits) (text : List ℕ) (s : State) {x u e : List ℕ} → Longer x u e → limits.entries ≤ entry_words → limits.levels ≤ 255
    → (count : ℕ) (m : Mark) (r : Result Fetched Refusal) → After limits text s r
    → fetched_seen text u count m r ≡ fetched_seen text e count m r
unfolding fetched_seen
seen_longer limits text s h i l count m (Ok (Goes v t)) w =
    rw (state_longer h t (omega (arith, w.sane.deep)) (omega (arith, w.sane.low.deep)) text (count + event_size v))
seen_longer limits text s h i l count m (Ok (Ends v)) w = refl
seen_longer limits text s h i l count m (Err f) w = refl

-- and the whole of it, where what is to be left is longer too
pub fetches_longer : {limits : Limits} {text x a b e w u before z after : List ℕ} {n : Counts} {s : State} {d : Read News} (r : Result Fetched Refusal) → Longer x a b → Ready limits text b s
    → length e ≡ stack_words → FetchesText limits text b e w before z after n s d r → words_left a u r ≡ words_left b w r ++ x
    → FetchesText limits text a (e ++ x) u before z after n s d r
fetches_longer {limits} {text} {x} {n = n} {s} r h y long f q =
    record {
      fetches = record {
        same = rw (key_longer h s.flow_level (ready_key y).0, seen_longer limits text s (behind_longer x long) y.lent.entries_most y.lent.levels_most n.count _ r f.fetches.after) f.fetches.same;
        after = f.fetches.after;
        words = ap (λ (l : List ℕ). l ++ x) f.fetches.words ∙ sym q;
      };
      bytes = f.bytes;
    }
