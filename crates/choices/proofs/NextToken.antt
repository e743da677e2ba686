-- The way to the next token: each of its ends is one case of the definition, by what the gap, the lapse and the unrolling answered.
use Prim.Native.Nat.{◌+◌, ◌<◌, ◌≤◌, ℕ}
use Rattle.std.specs.Prelude.{Ok, Err}
use mathlib.Core.Bool.{◌&&◌, not, true}
use mathlib.Core.List.{List, [], ◌∷◌}
use mathlib.Core.Path.{◌∙◌, ◌≡◌, refl, sym}
use native.Mathlib.Omega.{arith}
use lib.Dec.{ltb}
use lib.ListN.{drop, length}
use borrow.Author.Tests.{le-ltb, lt-ltb, not-true}
use Rattle.yaml_text.specs.declared.Mark.{Mark}
use Rattle.yaml_text.specs.declared.Refusal.{Refusal}
use Rattle.yaml_text.specs.Pick.{pick}
use Rattle.yaml_text.specs.Refusal.{Read, ◌>>=◌, got, need}
use Rattle.yaml_text.specs.Test.{both_true, by_test, true_false}
use Rattle.yaml_text.specs.Utf8.{chars}
use Rattle.yaml_lexeme.specs.declared.Before.TheVariants.{AfterText, Leading}
use Rattle.yaml_lexeme.specs.Gap as lexeme
use Rattle.yaml_scan.specs.declared.Candidate.{Candidate}
use Rattle.yaml_scan.specs.declared.Candidate.TheVariants.{Absent, Possible}
use Rattle.yaml_scan.specs.declared.Limits.{Limits}
use Rattle.yaml_scan.specs.Keys.{lapse, stale, top_key}
use Rattle.yaml_scan.specs.Scan.{to_next_token, unrolled}
use Rattle.yaml_scan.specs.State.{lapse_key, with_keys}
use Rattle.gaps.specs.declared.Gap.{Gap}
use Rattle.gaps.specs.Gap.{Skips, seen_gap}
use Rattle.stacks.specs.declared.indent.Unrolled.{Unrolled}
use Rattle.stacks.specs.Frame.{frame_keys, key_of}
use Rattle.stacks.specs.Indent.{Low, Unrolls}
use Rattle.stacks.proofs.Entries.{below_same, low_below}
use Rattle.stacks.proofs.Rolls.{refused_got}
use Rattle.states.specs.declared.State.{State}
use Rattle.states.specs.Answer.{lent_kept}
use Rattle.states.specs.Fetch.{Ready}
use Rattle.states.specs.Key.{Lapses, lapsed_seen, lapsed_words, lapses_at, removed_words}
use Rattle.states.specs.Seen.{in_flow_seen}
use Rattle.states.specs.State.{s_moved, s_with_indents, state_of}
use Rattle.choices.specs.Advance.{AdvancesTo, Stops, UnrollsHere}

-- the unrolling

module _ (stacks : List ℕ) (s : State) where
  pub unrolls_none : {room : ℕ} → Low room s.indents → 0 < s.flow_level → UnrollsHere stacks s (record { ended = 0; indents = s.indents })
  unfolding unrolled
  unrolls_none l h =
      record {
        same = λ text count. rw (in_flow_seen text stacks count s, lt-ltb 0 s.flow_level h, unrolled);
        below = below_same l.indent;
        few = omega arith;
      }

  pub unrolls_here : {u : Unrolled} → s.flow_level ≤ 0 → Unrolls stacks (s.place.mark.col + 1) s.indents u → UnrollsHere stacks s u
  unfolding unrolled
  unrolls_here h w =
      record {
        same = λ text count. rw (in_flow_seen text stacks count s, le-ltb 0 s.flow_level h, unrolled) w.same;
        below = w.below;
        few = w.few;
      }

-- a lapse that is refused leaves the words

lapse_goes : (m : Mark) (k : Candidate) → lapses_at m k ≡ true → lapse m k ≡ got Absent
unfolding lapses_at lapse need ◌>>=◌
lapse_goes m Absent e = true_false (sym e)
lapse_goes m (Possible required n k) e = let b = both_true (stale k m) (not required) e in rw (b.0, lapse, b.1)

module _ (a : List ℕ) (s : State) where
  key_lapses : (not (ltb 0 s.flow_level) && lapses_at s.place.mark (key_of a s.flow_level)) ≡ true
      → lapse_key (state_of [] a 0 s) ≡ got (with_keys (Absent ∷ frame_keys a s.flow_level) (state_of [] a 0 s))
  unfolding lapse_key top_key frame_keys ◌>>=◌
  key_lapses t =
      let b = both_true (not (ltb 0 s.flow_level)) (lapses_at s.place.mark (key_of a s.flow_level)) t in
      rw (in_flow_seen [] a 0 s, not-true (ltb 0 s.flow_level) b.0, lapse_key, lapse_goes s.place.mark (key_of a s.flow_level) b.1)

  pub refused_stays : {e : List ℕ} {f : Refusal} → Lapses a e s (Err f) → e ≡ a
  unfolding lapsed_words lapsed_seen
  refused_stays l =
      l.words
      ∙ by_test (not (ltb 0 s.flow_level) && lapses_at s.place.mark (key_of a s.flow_level))
      (λ t. refused_got (l.same [] 0 ∙ key_lapses t))
      (λ t. rw t)

-- the whole way

abbrev pub gap_of : List ℕ → State → Read lexeme.Gap
gap_of text s =
    lexeme.skip_gap (ltb 0 s.flow_level) s.simple_key_allowed (pick s.leading_whitespace Leading AfterText) s.place.mark (chars (drop s.place.at text))

abbrev pub behind : State → Gap → State
behind s g = s_moved s g.place g.leading_whitespace g.simple_key_allowed

module _ (text a : List ℕ) (s : State) where
  pub gap_refused : {f : Refusal} → Skips text s.place (Err f) (gap_of text s) → Stops text a a s f.number f.mark
  unfolding to_next_token seen_gap ◌>>=◌
  gap_refused k = record { same = λ count. rw (in_flow_seen text a count s, ← k.same); words = refl }

  module _ {g : Gap} (k : Skips text s.place (Ok g) (gap_of text s)) where
    pub lapse_refused : {e : List ℕ} {f : Refusal} → Lapses a e (behind s g) (Err f) → Stops text a e s f.number f.mark
    unfolding to_next_token seen_gap lapsed_seen ◌>>=◌
    lapse_refused l =
        record {
          same = λ count. rw (in_flow_seen text a count s, ← k.same) (sym (l.same text count));
          words = refused_stays a (behind s g) l;
        }

    pub advances : {limits : Limits} {e : List ℕ} {u : Unrolled} → Ready limits text a s → length e ≡ length a → Lapses a e (behind s g) (Ok tt)
        → UnrollsHere e (behind s g) u
        → AdvancesTo limits text a e s (s_with_indents (behind s g) u.indents) u.ended
    unfolding to_next_token seen_gap lapsed_seen lapsed_words removed_words ◌>>=◌
    advances y q l u =
        record {
          found = λ count. rw (in_flow_seen text a count s, ← k.same) (sym (l.same text count));
          left = λ count. sym (u.same text count);
          words = l.words;
          onward = k.onward.1;
          few = u.few;
          ready = record {
            stands = k.onward.0;
            low = low_below y.low u.below;
            deep = y.deep;
            lent = lent_kept q y.lent;
          };
        }
