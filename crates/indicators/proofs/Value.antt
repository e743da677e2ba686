-- ':': what the definition answers, with a candidate and without. A pair begins only in flow and a block only at level 0, so one start token is enough.
use Prim.Native.Nat.{◌≤◌, suc, ℕ}
use mathlib.Core.Bool.{Bool, ◌&&◌, and-false, false, not, true}
use mathlib.Core.List.{List, [], ◌++◌, ◌∷◌, map}
use mathlib.Core.Path.{◌∙◌, ◌≡◌, ap, refl, sym}
use native.Mathlib.Omega.{arith}
use lib.Dec.{eqb, ltb}
use Rattle.std.specs.Prelude.{Result, Ok, Err}
use Rattle.yaml_text.specs.declared.Mark.{Mark}
use Rattle.yaml_text.specs.declared.Refusal.{Refusal}
use Rattle.yaml_text.specs.Refusal.{Read, ◌>>=◌, got, need, refused}
use Rattle.yaml_text.specs.Mark.{along}
use Rattle.yaml_text.specs.Test.{by_test, true_false}
use Rattle.yaml_lexeme.specs.declared.Kind.TheVariants as held_as
use Rattle.yaml_lexeme.specs.Token.{BlockMappingStart, FlowMappingStart, Key, Kind, Token, Value, empty_token, kind_bytes}
use Rattle.yaml_lexeme.specs.Record.{laid}
use Rattle.yaml_scan.specs.declared.Candidate.TheVariants.{Absent, Possible}
use Rattle.yaml_scan.specs.declared.Level.{Level}
use Rattle.yaml_scan.specs.declared.Limits.{Limits}
use Rattle.yaml_scan.specs.Indent.{roll_at}
use Rattle.yaml_scan.specs.Indent as definition
use Rattle.yaml_scan.specs.Keys.{set_key}
use Rattle.yaml_scan.specs.State.{Event, empty_if, put, put_before}
use Rattle.yaml_scan.specs.Value.{begins_pair, colon_seen, fetch_value, kind_if, value_by, value_with, value_without}
use Rattle.chars.specs.declared.mark.Place.{Place}
use Rattle.stacks.specs.declared.indent.Rolled.{Rolled}
use Rattle.stacks.specs.Frame.{FramesStay, SetsKey, frame_keys, frame_levels, key_of, level_of, put_key, put_level}
use Rattle.stacks.specs.Indent.{EntriesStay}
use Rattle.stacks.specs.Stack.{entry_words}
use Rattle.stacks.proofs.Entries.{entries_stay_then}
use Rattle.events.specs.declared.Counts.{Counts}
use Rattle.events.specs.declared.Note.TheVariants as note
use Rattle.events.specs.declared.Opening.TheVariants as opening
use Rattle.events.specs.Event.{laid_events, laid_of, noted_of, opened_of}
use Rattle.events.specs.Laid.{Textless}
use Rattle.states.specs.declared.State.{State}
use Rattle.states.specs.declared.Fetched.{Fetched}
use Rattle.states.specs.State.{key_mark, s_with_indents, state_of}
use Rattle.states.specs.Seen.{in_flow_seen, key_low, level_zero, top_seen}
use Rattle.states.specs.Fetch.{FetchesQuiet, OneByte, Ready}
use Rattle.states.specs.Answer.{fetch_as}
use Rattle.indicators.specs.Indicator.{Rollable, RollsAt, SeesColon, event_one, goes_one, note_by, start_by}
use Rattle.indicators.specs.Words.{colon_of, colon_words, pair_of, with_words, without_words, words_by}
use Rattle.indicators.proofs.Levels.{colon_levels, pair_levels}
use Rattle.indicators.proofs.One.{one_goes}
use Rattle.indicators.proofs.Roll.{roll_seen}
use Rattle.indicators.proofs.Block.{key_may, key_not}

value : Textless Value held_as.Value
unfolding laid kind_bytes
value = record { same = λ used. refl; bytes = refl }

-- ':' came at the level d and its candidate is gone: from the words a, behind a roll to b, to e, whose words but the level's are those of c
pub record Coloned (a b c e : List ℕ) (d : ℕ) (pair : Bool) : Type 0 where
  pub words : e ≡ put_level c d (colon_of (level_of a d) (pair_of d (level_of a d)))
  pub keys : frame_keys e (suc d) ≡ set_key Absent (frame_keys a (suc d))
  pub levels : frame_levels e d ≡ colon_seen (frame_levels a d)
  pub is : begins_pair (frame_levels a d) ≡ pair
  pub entries : EntriesStay b e

module _ {a b e : List ℕ} {pair : Bool} (d : ℕ) (f : FramesStay a b) where
  pub coloned_with : {c : List ℕ} → SetsKey b c d Absent → SeesColon c e d pair → Coloned a b (put_key b d Absent) e d pair
  unfolding frame_keys
  coloned_with k w =
      record {
        words = w.sets.words ∙ rw (w.is, k.level d, f.level d, k.words);
        keys = w.sets.keys (suc d) ∙ k.keys ∙ rw (f.keys d);
        levels = colon_levels d w ∙ rw (k.levels d, f.levels d);
        is = pair_levels a d ∙ rw (← f.level d, ← k.level d) (sym w.is);
        entries = entries_stay_then k.entries w.sets.entries;
      }

  pub coloned_without : key_of a d ≡ Absent → SeesColon b e d pair → Coloned a b b e d pair
  unfolding frame_keys
  coloned_without k w =
      record {
        words = w.sets.words ∙ rw (w.is, f.level d);
        keys = w.sets.keys (suc d) ∙ f.keys (suc d) ∙ rw k;
        levels = colon_levels d w ∙ rw (f.levels d);
        is = pair_levels a d ∙ rw (← f.level d) (sym w.is);
        entries = w.sets.entries;
      }

-- a pair begins only in flow, and a block only at level 0
abbrev starts_in : Read definition.Rolled → Bool
starts_in (got r) = r.starts
starts_in (refused n m) = false

not_both : {limits : Limits} {a b : List ℕ} {m : Mark} {s : State} {rolled : Rolled} (l : Level) → RollsAt limits a b m s (Ok rolled)
    → (pair_of s.flow_level l && rolled.starts) ≡ false
unfolding pair_of roll_at
not_both {s = s} l r =
    by_test (ltb 0 s.flow_level)
    (λ e. let f = rw (e, roll_at) at r.same in rw (ap starts_in f) (and-false (pair_of s.flow_level l)))
    (λ e. rw e)

one_start : {limits : Limits} {a b c e : List ℕ} {m : Mark} {s : State} {pair : Bool} {rolled : Rolled} → RollsAt limits a b m s (Ok rolled) → Coloned a b c e s.flow_level pair
    → (pair && rolled.starts) ≡ false
one_start {a = a} {s = s} r k = rw (← k.is, pair_levels a s.flow_level) (not_both (level_of a s.flow_level) r)

-- the events, by cases

abbrev token_at : Place → Token
token_at p = record { kind = Value; start = p.mark; end = along p.mark }

abbrev with_events : ℕ → Bool → Bool → Mark → Place → List Event
with_events n pair starts k p =
    put_before n (map (λ (kind : Kind). empty_token kind k) (kind_if pair FlowMappingStart ++ kind_if starts BlockMappingStart ++ (Key ∷ []))) ∷ put (token_at p) ∷ []

said_with : (used n : ℕ) (pair starts : Bool) (k : Mark) (p : Place) → (pair && starts) ≡ false
    → laid_of k (event_one (note_by n pair starts) opening.Nothing held_as.Value p) ≡ laid_events used (with_events n pair starts k p)
unfolding laid_of noted_of opened_of laid_events note_by laid kind_bytes
said_with used n true true k p h = true_false h
said_with used n true false k p h = refl
said_with used n false true k p h = refl
said_with used n false false k p h = refl

abbrev without_events : Bool → Bool → Place → List Event
without_events pair starts p = empty_if pair FlowMappingStart p.mark ++ empty_if starts BlockMappingStart p.mark ++ (put (token_at p) ∷ [])

said_without : (used : ℕ) (m : Mark) (p : Place) (pair starts : Bool) → (pair && starts) ≡ false
    → laid_of m (event_one note.Nothing (start_by pair starts) held_as.Value p) ≡ laid_events used (without_events pair starts p)
unfolding laid_of noted_of opened_of laid_events start_by laid kind_bytes
said_without used m p true true h = true_false h
said_without used m p true false h = refl
said_without used m p false true h = refl
said_without used m p false false h = refl

-- with a candidate

pub rollable_key : {limits : Limits} {text a : List ℕ} {s : State} {m : Mark} → Ready limits text a s → key_mark (key_of a s.flow_level) ≡ m → Rollable limits a m s
rollable_key {a = a} {s} y q = record { low = y.low; lent = y.lent; col = rw q at (key_low a s.flow_level) }

module _ {limits : Limits} (text a : List ℕ) {b : List ℕ} (s : State) (number : ℕ) (m : Mark) where
  pub with_shut : {f : Refusal} (count : ℕ) → RollsAt limits a b m s (Err f) → value_with limits number m (state_of text a count s) ≡ refused f.number f.mark
  unfolding value_with ◌>>=◌
  with_shut count r = rw (roll_seen text count r)

  pub with_goes : {e : List ℕ} {pair : Bool} {rolled : Rolled} → Ready limits text a s → OneByte text s.place → key_mark (key_of a s.flow_level) ≡ m
      → RollsAt limits a b m s (Ok rolled) → Coloned a b (put_key b s.flow_level Absent) e s.flow_level pair → (n : Counts)
      → FetchesQuiet limits text a e (with_words limits a m s) n s (value_with limits number m (state_of text a n.count s))
      (Ok (goes_one (s_with_indents s rolled.indents) (note_by number pair rolled.starts) opening.Nothing held_as.Value false))
  unfolding value_with ◌>>=◌
  with_goes {pair = pair} {rolled} y o q r k n =
      let h : rolled.indents.depth ≤ entry_words = omega (arith, r.low.deep, y.lent.entries_most) in
      one_goes y o r.low (with_events number pair rolled.starts m s.place)
      (rw q (said_with n.used number pair rolled.starts m s.place (one_start r k))) value
      (rw (roll_seen text n.count r, k.keys, k.levels, k.is, k.entries.entries rolled.indents.depth h))
      (k.words ∙ rw r.words)

-- without

module _ (limits : Limits) (text a : List ℕ) (s : State) where
  pub without_refused : (count : ℕ) → (eqb s.flow_level 0 && not s.simple_key_allowed) ≡ true → value_without limits (state_of text a count s) ≡ refused 46 s.place.mark
  unfolding value_without need ◌>>=◌
  without_refused count e = rw (in_flow_seen text a count s, key_not s.flow_level s.simple_key_allowed e)

  module _ {b : List ℕ} (e : (eqb s.flow_level 0 && not s.simple_key_allowed) ≡ false) where
    pub without_shut : {f : Refusal} (count : ℕ) → RollsAt limits a b s.place.mark s (Err f) → value_without limits (state_of text a count s) ≡ refused f.number f.mark
    unfolding value_without need ◌>>=◌
    without_shut count r = rw (in_flow_seen text a count s, key_may s.flow_level s.simple_key_allowed e, ← r.same)

    pub without_goes : {g : List ℕ} {pair : Bool} {rolled : Rolled} → Ready limits text a s → OneByte text s.place
        → RollsAt limits a b s.place.mark s (Ok rolled) → Coloned a b b g s.flow_level pair → (n : Counts)
        → FetchesQuiet limits text a g (without_words limits a s) n s (value_without limits (state_of text a n.count s))
        (Ok (goes_one (s_with_indents s rolled.indents) note.Nothing (start_by pair rolled.starts) held_as.Value (eqb s.flow_level 0)))
    unfolding value_without need ◌>>=◌
    without_goes {pair = pair} {rolled} y o r k n =
        let h : rolled.indents.depth ≤ entry_words = omega (arith, r.low.deep, y.lent.entries_most) in
        one_goes y o r.low (without_events pair rolled.starts s.place)
        (said_without n.used _ s.place pair rolled.starts (one_start r k)) value
        (rw (in_flow_seen text a n.count s, key_may s.flow_level s.simple_key_allowed e, ← r.same, k.keys, k.levels, k.is, level_zero s.flow_level, k.entries.entries rolled.indents.depth h))
        (k.words ∙ rw r.words)

-- by the candidate

module _ {limits : Limits} {text a e : List ℕ} {n : Counts} {s : State} {r : Result Fetched Refusal} where
  pub value_absent : key_of a s.flow_level ≡ Absent → FetchesQuiet limits text a e (without_words limits a s) n s (value_without limits (state_of text a n.count s)) r
      → FetchesQuiet limits text a e (colon_words limits a s) n s (fetch_value limits (state_of text a n.count s)) r
  unfolding value_by words_by
  value_absent q f = fetch_as (rw (top_seen a s.flow_level, q)) (rw q) f

  pub value_possible : {required : Bool} {number : ℕ} {m : Mark} → key_of a s.flow_level ≡ Possible required number m
      → FetchesQuiet limits text a e (with_words limits a m s) n s (value_with limits number m (state_of text a n.count s)) r
      → FetchesQuiet limits text a e (colon_words limits a s) n s (fetch_value limits (state_of text a n.count s)) r
  unfolding value_by words_by
  value_possible q f = fetch_as (rw (top_seen a s.flow_level, q)) (rw q) f
