-- What the definition's three rules come to: they emit the token from a state whose level was opened, was closed, or has a new entry.
use Prim.Native.Nat.{◌+◌, ◌-◌, ◌<◌, ◌≤◌, suc, ℕ}
use mathlib.Core.Bool.{Bool, beq, ◌&&◌, false, not, true}
use mathlib.Core.List.{List, ◌∷◌}
use mathlib.Core.Path.{◌∙◌, ◌≡◌, ap, refl, sym}
use native.Mathlib.Omega.{arith}
use lib.Dec.{leb}
use lib.ListN.{length}
use borrow.Author.Tests.{le-ltb, lt-ltb}
use Rattle.yaml_text.specs.declared.Refusal.{Refusal}
use Rattle.yaml_text.specs.Pick.{pick}
use Rattle.yaml_text.specs.Refusal.{◌>>=◌, need, refused}
use Rattle.yaml_text.specs.Test.{by_test}
use Rattle.yaml_lexeme.specs.Token.{FlowEntry, FlowMappingEnd, FlowMappingStart, FlowSequenceEnd, FlowSequenceStart}
use Rattle.yaml_scan.specs.declared.Candidate.TheVariants.{Absent}
use Rattle.yaml_scan.specs.declared.Level.{Level}
use Rattle.yaml_scan.specs.declared.Limits.{Limits}
use Rattle.yaml_scan.specs.Bracket.{closes_level, fetch_flow_collection_end, fetch_flow_collection_start, fetch_flow_entry, has_level_room, implicit_open, new_entry, new_level}
use Rattle.yaml_scan.specs.Indent.{top_ends}
use Rattle.yaml_scan.specs.State.{in_flow, on_level, remove_key, save_key, with_indents, with_keys, with_levels}
use Rattle.yaml_scan.specs.State as definition
use Rattle.chars.specs.View.{Stands}
use Rattle.std.specs.Prelude.{Err}
use Rattle.stacks.specs.declared.indent.Indents.{Indents}
use Rattle.stacks.specs.Frame.{SetsKey, SetsLevel, frame_keys, frame_levels, level_of, levels_length, with_level}
use Rattle.stacks.specs.Stack.{entry_words}
use Rattle.stacks.proofs.Entries.{entries_length, entries_stay_then}
use Rattle.stacks.proofs.Levels.{keys_opened, levels_first, levels_opened}
use Rattle.states.specs.declared.State.{State}
use Rattle.states.specs.Fetch.{OneByte}
use Rattle.states.specs.Key.{Removes, Saves}
use Rattle.states.specs.Seen.{in_flow_seen}
use Rattle.states.specs.State.{s_with_indents, s_with_level, state_of}
use Rattle.brackets.specs.Emit.{emit_bracket}
use Rattle.brackets.specs.Words.{OpensLevel, StacksBracket, bracket_indents, bracket_words, comma_words, stacks_entry}
use Rattle.brackets.proofs.Emitted.{Past, emits_refused}
use Rattle.brackets.proofs.Entry.{stacks_full, stacks_room}

-- a level that is opened
pub opens_level : {a b e : List ℕ} {l m : Level} (level : ℕ) → SetsKey a b (level + 1) Absent → SetsLevel b e (level + 1) m → m ≡ l → OpensLevel a e level l
opens_level level k w q =
    record {
      words = w.words ∙ rw (q, k.words);
      keys = keys_opened level refl k w;
      levels = levels_opened level refl k w ∙ rw q;
      entries = entries_stay_then k.entries w.entries;
    }

-- saving the candidate changes the candidates only

module _ (x : definition.State) where
  save_keys : save_key x ≡ with_keys (save_key x).keys x
  unfolding save_key
  save_keys = by_test x.simple_key_allowed (λ e. rw e) (λ e. rw e)

  saved_place : (save_key x).place ≡ x.place
  saved_place = ap (λ (y : definition.State). y.place) save_keys

  saved_levels : (save_key x).levels ≡ x.levels
  saved_levels = ap (λ (y : definition.State). y.levels) save_keys

  saved_indents : (save_key x).indents ≡ x.indents
  saved_indents = ap (λ (y : definition.State). y.indents) save_keys

  saved_flow : in_flow (save_key x) ≡ in_flow x
  unfolding in_flow
  saved_flow = rw saved_levels

-- '[' or '{'

-- the definition's state with the entry and the level, of y
abbrev pub opened_from : Bool → Bool → definition.State → definition.State
opened_from sequence entry y = with_keys (Absent ∷ y.keys) (with_levels (new_level sequence ∷ y.levels) (with_indents (bracket_indents entry y.indents) y))

module _ (limits : Limits) (sequence : Bool) (text a : List ℕ) (count : ℕ) (s : State) {entry : Bool} (q : entry ≡ stacks_entry a s) where
  abbrev x : definition.State
  x = state_of text a count s

  tested : (not (in_flow (save_key x)) && top_ends (save_key x).indents.entries) ≡ entry
  unfolding stacks_entry
  tested = rw (saved_flow x, in_flow_seen text a count s, saved_indents x) (sym q)

  counted : {b : Bool} → (entry && leb limits.entries s.indents.depth) ≡ b → (entry && leb limits.entries (length (save_key x).indents.entries)) ≡ b
  counted h = rw (saved_indents x, entries_length a s.indents.depth) h

  pub start_full : (entry && leb limits.entries s.indents.depth) ≡ true → fetch_flow_collection_start limits sequence x ≡ refused 48 s.place.mark
  unfolding fetch_flow_collection_start ◌>>=◌
  start_full h = rw (stacks_full limits (save_key x) entry tested (counted h), saved_place x)

  module _ (h : (entry && leb limits.entries s.indents.depth) ≡ false) where
    pub start_deep : limits.levels ≤ s.flow_level → fetch_flow_collection_start limits sequence x ≡ refused 28 s.place.mark
    unfolding fetch_flow_collection_start has_level_room need ◌>>=◌
    start_deep l =
        rw (stacks_room limits (save_key x) entry tested (counted h), saved_levels x, levels_length a s.flow_level, le-ltb s.flow_level limits.levels l, saved_place x)

    pub start_emits : s.flow_level < limits.levels → fetch_flow_collection_start limits sequence x
        ≡ emit_bracket (pick sequence FlowSequenceStart FlowMappingStart) false false (opened_from sequence entry (save_key x))
    unfolding fetch_flow_collection_start has_level_room need ◌>>=◌ emit_bracket
    start_emits l =
        let o : length (save_key x).levels ≡ s.flow_level = rw (saved_levels x) (levels_length a s.flow_level) in
        rw (stacks_room limits (save_key x) entry tested (counted h), o, lt-ltb s.flow_level limits.levels l)

    pub start_refused : {f : Refusal} → s.flow_level < limits.levels → Stands text s.place → OneByte text s.place → Past text s.place (Err f)
        → fetch_flow_collection_start limits sequence x ≡ refused f.number f.mark
    start_refused l g b w =
        start_emits l ∙ emits_refused g b w (pick sequence FlowSequenceStart FlowMappingStart) false false (opened_from sequence entry (save_key x)) (saved_place x)

-- by what the code did to the words: from a to b, c and e
module _ {limits : Limits} {sequence entry : Bool} {a b c e : List ℕ} {count : ℕ} {s : State} {i : Indents}
    (k : Saves a b count s) (w : StacksBracket limits entry b c s i) (o : OpensLevel c e s.flow_level (new_level sequence)) where
  pub start_state : i.depth ≤ entry_words → (text : List ℕ)
      → opened_from sequence entry (save_key (state_of text a count s)) ≡ state_of text e count (s_with_level (s_with_indents s i) (s.flow_level + 1))
  start_state h text =
      rw (← k.same text, o.keys, o.levels, o.entries.entries i.depth h, w.frames.keys (suc s.flow_level), w.frames.levels s.flow_level, ← w.same)

  pub start_words : entry ≡ stacks_entry a s → e ≡ bracket_words sequence a count s
  start_words q = o.words ∙ rw (w.words, k.words, q)

-- ']' or '}'

kind_by : (sequence b : Bool) → pick sequence b (not b) ≡ not (not (beq b sequence))
kind_by true true = refl
kind_by true false = refl
kind_by false true = refl
kind_by false false = refl

module _ (sequence : Bool) (text a : List ℕ) (count : ℕ) (s : State) where
  pub end_none : s.flow_level ≡ 0 → fetch_flow_collection_end sequence (state_of text a count s) ≡ refused 47 s.place.mark
  unfolding fetch_flow_collection_end closes_level frame_levels need ◌>>=◌
  end_none h = rw h

  -- in flow, by the innermost level
  module _ {l : Level} (n : s.flow_level ≡ 0 → ⊥) (top : l ≡ level_of a s.flow_level) where
    closes_by : closes_level sequence (frame_levels a s.flow_level) ≡ not (not (beq l.sequence sequence))
    unfolding closes_level
    closes_by = rw (levels_first a s.flow_level (omega arith), ← top) (kind_by sequence l.sequence)

    pub end_other : not (beq l.sequence sequence) ≡ true
        → fetch_flow_collection_end sequence (state_of text a count s) ≡ refused 47 s.place.mark
    unfolding fetch_flow_collection_end need ◌>>=◌
    end_other f = rw (closes_by, f)

    -- its candidate goes with its level
    pub end_emits : not (beq l.sequence sequence) ≡ false
        → fetch_flow_collection_end sequence (state_of text a count s)
        ≡ emit_bracket (pick sequence FlowSequenceEnd FlowMappingEnd) l.implicit true (state_of text a count (s_with_level s (s.flow_level - 1)))
    unfolding fetch_flow_collection_end implicit_open remove_key frame_keys need ◌>>=◌ emit_bracket
    end_emits f =
        let d : s.flow_level ≡ suc (s.flow_level - 1) = omega arith in
        rw (closes_by, f, levels_first a s.flow_level (omega arith), ← top, ap (frame_keys a) d)

    pub end_refused : {g : Refusal} → not (beq l.sequence sequence) ≡ false → Stands text s.place → OneByte text s.place → Past text s.place (Err g)
        → fetch_flow_collection_end sequence (state_of text a count s) ≡ refused g.number g.mark
    end_refused f h b w =
        end_emits f ∙ emits_refused h b w (pick sequence FlowSequenceEnd FlowMappingEnd) l.implicit true (state_of text a count (s_with_level s (s.flow_level - 1))) refl

-- ','

module _ {text : List ℕ} (a : List ℕ) (count : ℕ) (s : State) where
  pub entry_refused : {f : Refusal} → Stands text s.place → OneByte text s.place → Past text s.place (Err f)
      → fetch_flow_entry (state_of text a count s) ≡ refused f.number f.mark
  unfolding fetch_flow_entry remove_key emit_bracket
  entry_refused h b w =
      let x = state_of text a count s in
      emits_refused h b w FlowEntry (implicit_open x.levels) false (with_levels (new_entry x.levels) (remove_key x)) refl

-- by what the code did to the words: from a to b and e
module _ {a b e : List ℕ} {s : State} {l m : Level} (w : Removes a b s) (top : l ≡ level_of b s.flow_level) (v : SetsLevel b e s.flow_level m) (new : m ≡ new_level l.sequence) where
  pub entry_goes : s.indents.depth ≤ entry_words → 0 < s.flow_level → (text : List ℕ) (count : ℕ)
      → fetch_flow_entry (state_of text a count s) ≡ emit_bracket FlowEntry l.implicit false (state_of text e count s)
  unfolding fetch_flow_entry implicit_open on_level with_level ◌>>=◌ emit_bracket
  entry_goes d h text count =
      rw (← w.same text count, v.levels, v.keys (suc s.flow_level), v.entries.entries s.indents.depth d, levels_first b s.flow_level h, new, top)

  pub entry_words_left : e ≡ comma_words a s
  entry_words_left = v.words ∙ rw (new, top, w.sets.level s.flow_level, w.words)
