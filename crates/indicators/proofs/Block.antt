-- '-' and '?': what the definition answers, by the tests and by the roll; all that refuses comes before anything is stored.
use Prim.Native.Nat.{◌≤◌, suc, ℕ}
use mathlib.Core.Bool.{Bool, ◌&&◌, ◌||◌, false, not, true}
use mathlib.Core.List.{List, [], ◌++◌, ◌∷◌}
use mathlib.Core.Path.{◌∙◌, ◌≡◌, refl, sym}
use native.Mathlib.Omega.{arith}
use lib.Dec.{eqb, ltb}
use Rattle.std.specs.Prelude.{Ok, Err}
use Rattle.yaml_text.specs.declared.Mark.{Mark}
use Rattle.yaml_text.specs.declared.Refusal.{Refusal}
use Rattle.yaml_text.specs.Refusal.{◌>>=◌, need, refused}
use Rattle.yaml_text.specs.Mark.{along}
use Rattle.yaml_text.specs.Test.{by_test, true_false}
use Rattle.yaml_lexeme.specs.declared.Kind as held
use Rattle.yaml_lexeme.specs.declared.Kind.TheVariants as held_as
use Rattle.yaml_lexeme.specs.Token.{BlockEntry, Key, Kind, kind_bytes}
use Rattle.yaml_lexeme.specs.Record.{laid}
use Rattle.yaml_scan.specs.declared.Limits.{Limits}
use Rattle.yaml_scan.specs.State.{Event, empty_if, put}
use Rattle.yaml_scan.specs.Value.{fetch_block_entry, fetch_key}
use Rattle.chars.specs.declared.mark.Place.{Place}
use Rattle.stacks.specs.declared.indent.Rolled.{Rolled}
use Rattle.stacks.specs.Frame.{SetsLevel, level_of}
use Rattle.stacks.specs.Stack.{entry_words}
use Rattle.events.specs.declared.Counts.{Counts}
use Rattle.events.specs.declared.Note.TheVariants as note
use Rattle.events.specs.declared.Opening.{Opening}
use Rattle.events.specs.declared.Opening.TheVariants as opening
use Rattle.events.specs.Event.{laid_events, laid_of, opening_if}
use Rattle.events.specs.Laid.{OpeningIs, Textless, laid_of_opening, laid_opening, laid_textless, opens_mapping, opens_sequence}
use Rattle.states.specs.declared.State.{State}
use Rattle.states.specs.State.{s_with_indents, state_of}
use Rattle.states.specs.Seen.{in_flow_seen, level_zero}
use Rattle.states.specs.Key.{Removes}
use Rattle.states.specs.Fetch.{FetchesQuiet, OneByte, Ready}
use Rattle.indicators.specs.Indicator.{RollsAt, event_one, goes_one}
use Rattle.indicators.specs.Words.{dash_words, question_words, questioned_of}
use Rattle.indicators.proofs.Levels.{question_levels}
use Rattle.indicators.proofs.One.{one_goes}
use Rattle.indicators.proofs.Roll.{removed_seen}

block_entry : Textless BlockEntry held_as.BlockEntry
unfolding laid kind_bytes
block_entry = record { same = λ used. refl; bytes = refl }

key : Textless Key held_as.Key
unfolding laid kind_bytes
key = record { same = λ used. refl; bytes = refl }

-- an empty token where a test holds, then the one character here
module _ {k : Kind} {o : Opening} (a : OpeningIs k o) {l : Kind} {h : held.Kind} (b : Textless l h) where
  abbrev events : Bool → Place → List Event
  events starts p = empty_if starts k p.mark ++ (put (record { kind = l; start = p.mark; end = along p.mark }) ∷ [])

  said : (m : Mark) (used : ℕ) (starts : Bool) (p : Place)
      → laid_of m (event_one note.Nothing (opening_if starts o) h p) ≡ laid_events used (events starts p)
  unfolding laid_events
  said m used starts p =
      laid_of_opening m (record { kind = h; start = p.mark; end = along p.mark }) (opening_if starts o)
      ∙ sym (laid_opening a used p.mark _ starts ∙ rw (laid_textless b used p.mark (along p.mark) []))

-- the tests

module _ (a b : Bool) where
  entry_not : (a || not b) ≡ true → (not a && b) ≡ false
  entry_not = by_test a (λ e _. rw e) (λ e. by_test b (λ f g. true_false (sym (rw (e, f) at g))) (λ f _. rw (e, f)))

  entry_may : (a || not b) ≡ false → (not a && b) ≡ true
  entry_may = by_test a (λ e g. true_false (rw e at g)) (λ e. by_test b (λ f _. rw (e, f)) (λ f g. true_false (rw (e, f) at g)))

  not_allowed : (not a && not b) ≡ true → (a || b) ≡ false
  not_allowed = by_test a (λ e g. true_false (sym (rw e at g))) (λ e. by_test b (λ f g. true_false (sym (rw (e, f) at g))) (λ f _. rw (e, f)))

  allowed : (not a && not b) ≡ false → (a || b) ≡ true
  allowed = by_test a (λ e _. rw e) (λ e. by_test b (λ f _. rw (e, f)) (λ f g. true_false (rw (e, f) at g)))

module _ (d : ℕ) (b : Bool) where
  pub key_not : (eqb d 0 && not b) ≡ true → (ltb 0 d || b) ≡ false
  key_not e = not_allowed (ltb 0 d) b (rw (level_zero d) e)

  pub key_may : (eqb d 0 && not b) ≡ false → (ltb 0 d || b) ≡ true
  key_may e = allowed (ltb 0 d) b (rw (level_zero d) e)

-- '-'

module _ (limits : Limits) (text a : List ℕ) (s : State) where
  pub entry_refused : (count : ℕ) → (ltb 0 s.flow_level || not s.simple_key_allowed) ≡ true → fetch_block_entry limits (state_of text a count s) ≡ refused 46 s.place.mark
  unfolding fetch_block_entry need ◌>>=◌
  entry_refused count e = rw (in_flow_seen text a count s, entry_not (ltb 0 s.flow_level) s.simple_key_allowed e)

  module _ {b : List ℕ} (e : (ltb 0 s.flow_level || not s.simple_key_allowed) ≡ false) where
    pub entry_shut : {f : Refusal} (count : ℕ) → RollsAt limits a b s.place.mark s (Err f) → fetch_block_entry limits (state_of text a count s) ≡ refused f.number f.mark
    unfolding fetch_block_entry need ◌>>=◌
    entry_shut count r = rw (in_flow_seen text a count s, entry_may (ltb 0 s.flow_level) s.simple_key_allowed e, ← r.same)

    pub entry_goes : {c : List ℕ} {rolled : Rolled} → Ready limits text a s → OneByte text s.place → RollsAt limits a b s.place.mark s (Ok rolled) → Removes b c s → (n : Counts)
        → FetchesQuiet limits text a c (dash_words limits a s) n s (fetch_block_entry limits (state_of text a n.count s))
        (Ok (goes_one (s_with_indents s rolled.indents) note.Nothing (opening_if rolled.starts opening.BlockSequenceStart) held_as.BlockEntry true))
    unfolding fetch_block_entry need ◌>>=◌
    entry_goes {rolled = rolled} y o r k n =
        let h : rolled.indents.depth ≤ entry_words = omega (arith, r.low.deep, y.lent.entries_most) in
        one_goes y o r.low
        (events opens_sequence block_entry rolled.starts s.place) (said opens_sequence block_entry _ n.used rolled.starts s.place) block_entry
        (rw (in_flow_seen text a n.count s, entry_may (ltb 0 s.flow_level) s.simple_key_allowed e, ← r.same, ← removed_seen rolled.indents r.frames k h text n.count))
        (k.words ∙ rw r.words)

-- '?'

module _ (limits : Limits) (text a : List ℕ) (s : State) where
  pub key_refused : (count : ℕ) → (eqb s.flow_level 0 && not s.simple_key_allowed) ≡ true → fetch_key limits (state_of text a count s) ≡ refused 46 s.place.mark
  unfolding fetch_key need ◌>>=◌
  key_refused count e = rw (in_flow_seen text a count s, key_not s.flow_level s.simple_key_allowed e)

  module _ {b : List ℕ} (e : (eqb s.flow_level 0 && not s.simple_key_allowed) ≡ false) where
    pub key_shut : {f : Refusal} (count : ℕ) → RollsAt limits a b s.place.mark s (Err f) → fetch_key limits (state_of text a count s) ≡ refused f.number f.mark
    unfolding fetch_key need ◌>>=◌
    key_shut count r = rw (in_flow_seen text a count s, key_may s.flow_level s.simple_key_allowed e, ← r.same)

    pub key_goes : {c g : List ℕ} {rolled : Rolled} → Ready limits text a s → OneByte text s.place → RollsAt limits a b s.place.mark s (Ok rolled) → Removes b c s
        → SetsLevel c g s.flow_level (questioned_of (level_of c s.flow_level)) → (n : Counts)
        → FetchesQuiet limits text a g (question_words limits a s) n s (fetch_key limits (state_of text a n.count s))
        (Ok (goes_one (s_with_indents s rolled.indents) note.Nothing (opening_if rolled.starts opening.BlockMappingStart) held_as.Key (eqb s.flow_level 0)))
    unfolding fetch_key need ◌>>=◌
    key_goes {c} {rolled = rolled} y o r k q n =
        let h : rolled.indents.depth ≤ entry_words = omega (arith, r.low.deep, y.lent.entries_most) in
        one_goes y o r.low
        (events opens_mapping key rolled.starts s.place) (said opens_mapping key _ n.used rolled.starts s.place) key
        (rw (
          in_flow_seen text a n.count s,
          key_may s.flow_level s.simple_key_allowed e,
          ← r.same,
          ← removed_seen rolled.indents r.frames k h text n.count,
          in_flow_seen text c n.count (s_with_indents s rolled.indents),
          level_zero s.flow_level,
          question_levels s.flow_level q,
          q.keys (suc s.flow_level),
          q.entries.entries rolled.indents.depth h,
        ))
        (q.words ∙ rw (k.sets.level s.flow_level, r.frames.level s.flow_level, k.words, r.words))
