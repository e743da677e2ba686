-- Theorems about specs/Alone, and what rests on them.
use Rattle.std.specs.Prelude.{◌+◌, suc, ℕ, Bool, false, true, List, [], ◌++◌, ◌∷◌, ◌⊎◌, ◌≡◌, refl, drop}
use Rattle.std.proofs.Common.{append_assoc, inl, inr, ◌∙◌, ap, sym, arith}
use Rattle.yaml_text.specs.declared.Mark.{Mark}
use Rattle.yaml_text.specs.Mark.{Place}
use Rattle.yaml_text.specs.Test.{by_pick, by_test, true_false}
use Rattle.yaml_text.specs.All.{All}
use Rattle.yaml_lexeme.specs.Token.{FlowMappingStart, StreamEnd, Token, empty_token}
use Rattle.yaml_scan.specs.declared.Candidate.{Candidate}
use Rattle.yaml_scan.specs.declared.Candidate.TheVariants.{Absent, Possible}
use Rattle.yaml_scan.specs.declared.Level.{Level}
use Rattle.yaml_scan.specs.declared.Limits.{Limits}
use Rattle.yaml_scan.specs.Indent.{Indents}
use Rattle.yaml_scan.specs.Keys.{set_key, top_key}
use Rattle.yaml_scan.specs.State.{Event, News, State, block_ends, empty_if, ends_with, goes_on, mark_of, preceded, put, put_before, puts, save_key, unroll_to}
use Rattle.yaml_scan.specs.Document.{all_ends}
use Rattle.yaml_scan.specs.Scan.{step, unrolled}
use Rattle.yaml_scan.specs.Candidates.{Fall, fall_drop, fall_less}
use Rattle.yaml_scan.specs.Runs.{puts_ends}
use Rattle.yaml_scan.specs.Moves.{Move, Moves, begins, block_start, closes, goes_in, leaves, opens, pair_end, parts, tells, uses}
use Rattle.yaml_scan.specs.Steps.{Gapped, Takes, gapped, inside, lapses, stays, unrolled_state}
use Rattle.yaml_scan.proofs.Steps.{step_by}
use Rattle.yaml_stream.specs.Stream.{possible}
use Rattle.yaml_stream.specs.Kept.{From, puts_append}
use Rattle.yaml_stream.specs.Alone.{Absents, absents_drop, IsFirstKey, possible_more, gap_count, Last, LastOf, outer, none, only}

absents_from : (k : ℕ) (ks : List Candidate) → Absents ks → From k ks
absents_from k [] h = tt
absents_from k (Absent ∷ ks) h = absents_from k ks h
absents_from k (Possible required n m ∷ ks) h = absurd h

fall_top : (b : ℕ) (ks : List Candidate) → Fall b ks → Fall b (set_key (top_key ks) ks)
unfolding top_key
fall_top b [] f = tt
fall_top b (k ∷ ks) f = f

possible_drop : (n : ℕ) (ks : List Candidate) → possible n (drop 1 ks) ≡ true → possible n ks ≡ true
possible_drop n [] e = e
possible_drop n (c ∷ ks) e = possible_more n c ks e

-- what is no candidate is none of a level further out
pub not_outer : (n : ℕ) (ks : List Candidate) → possible n ks ≡ false → possible n (drop 1 ks) ≡ false
not_outer n ks e = by_test (possible n (drop 1 ks)) (λ f. true_false (sym (possible_drop n ks f) ∙ e)) (λ f. f)

holds_lapsed : (n : ℕ) (ks : List Candidate) → IsFirstKey n ks → IsFirstKey n (set_key Absent ks)
holds_lapsed n ks (outer e) = outer e
holds_lapsed n ks (none h) = none (absents_drop ks h)
holds_lapsed n ks (only e h) = none h

holds_top : (n : ℕ) (ks : List Candidate) → IsFirstKey n ks → IsFirstKey n (set_key (top_key ks) ks)
unfolding top_key
holds_top n [] h = none tt
holds_top n (c ∷ ks) h = h

gap_holds : {s t : State} (n : ℕ) → Gapped s t → IsFirstKey n s.keys → IsFirstKey n t.keys
gap_holds n (gapped f spares (inside e)) h = h
gap_holds {s} n (gapped f spares (lapses e)) h = holds_lapsed n s.keys h
gap_holds {s} n (gapped f spares (stays e k)) h = holds_top n s.keys h

gap_falls : {s t : State} → Gapped s t → Fall s.count s.keys → Fall s.count t.keys
gap_falls (gapped f spares (inside e)) h = h
gap_falls {s} (gapped f spares (lapses e)) h = fall_drop s.count s.keys h
gap_falls {s} (gapped f spares (stays e k)) h = fall_top s.count s.keys h

-- the candidate of this level is gone, or the level
gone : (n k : ℕ) (ks : List Candidate) → IsFirstKey n ks → (possible n (drop 1 ks) ≡ true) ⊎ From k (drop 1 ks)
gone n k ks (outer e) = inl e
gone n k ks (none h) = inr (absents_from k (drop 1 ks) (absents_drop ks h))
gone n k ks (only e h) = inr (absents_from k (drop 1 ks) h)

-- the token may be the candidate of this level
abbrev Saved : ℕ → State → List Candidate → Type 0
Saved n s ks = (Fall s.count s.keys → Fall (suc s.count) ks) × (IsFirstKey n s.keys → (possible n ks ≡ true) ⊎ From s.count ks)

saved_new : (n : ℕ) (s : State) (required : Bool) (m : Mark) → Saved n s (Possible required s.count m ∷ drop 1 s.keys)
saved_new n s required m = (λ f. (omega arith, fall_drop s.count s.keys f), λ h. new (gone n s.count s.keys h))
  where
    new : (possible n (drop 1 s.keys) ≡ true) ⊎ From s.count (drop 1 s.keys)
        → (possible n (Possible required s.count m ∷ drop 1 s.keys) ≡ true) ⊎ From s.count (Possible required s.count m ∷ drop 1 s.keys)
    new (inl e) = inl (possible_more n (Possible required s.count m) (drop 1 s.keys) e)
    new (inr h) = inr (omega arith, h)

saved_none : (n : ℕ) (s : State) → Saved n s s.keys
saved_none n s = (λ f. fall_less s.count (suc s.count) s.keys (omega arith) f, old)
  where
    old : IsFirstKey n s.keys → (possible n s.keys ≡ true) ⊎ From s.count s.keys
    old (outer e) = inl (possible_drop n s.keys e)
    old (none h) = inr (absents_from s.count s.keys h)
    old (only e h) = inl e

saved : (n : ℕ) (s : State) → Saved n s (save_key s).keys
unfolding save_key
saved n s = by_pick (λ (t : State). Saved n s t.keys) s.simple_key_allowed _ s (saved_new n s _ (mark_of s)) (saved_none n s)

-- a token that may be a candidate
tells_last : (n : ℕ) (s : State) (t : Token) (ks : List Candidate) → Saved n s ks → Last n s.count s (put t ∷ []) ks
unfolding puts
tells_last n s t ks h = record { front = []; last = t; is = refl; numbered = omega arith; falls = h.0; alone = h.1 }

-- a token behind others, the candidate gone
gone_last : (n : ℕ) (s : State) (es : List Event) (t : Token) → Last n (s.count + puts es) s (es ++ (put t ∷ [])) (drop 1 s.keys)
gone_last n s es t =
    record {
      front = es;
      last = t;
      is = refl;
      numbered = refl;
      falls = λ f. fall_less s.count (suc (s.count + puts es)) (drop 1 s.keys) (omega arith) (fall_drop s.count s.keys f);
      alone = λ h. gone n (s.count + puts es) s.keys h;
    }

-- with no candidate at the front
absent_last : {n k : ℕ} {s : State} {es : List Event} {ks : List Candidate} → Last n k s es ks → Last n k s es (Absent ∷ ks)
unfolding possible
absent_last l = record { front = l.front; last = l.last; is = l.is; numbered = l.numbered; falls = l.falls; alone = l.alone }

move_last : (n : ℕ) (s : State) {t : Token} {q : Place} {es : List Event} {i : Indents} {ks : List Candidate} {ls : List Level} → Move s t q es i ks ls → (k : ℕ) × Last n k s es ks
move_last n s {t} (tells e same) = (s.count, tells_last n s t (save_key s).keys (saved n s))
move_last n s {t} (leaves e f) = (_, absent_last (gone_last n s (all_ends s) t))
move_last n s {t} (opens sequence e same) = (s.count, absent_last (tells_last n s t (save_key s).keys (saved n s)))
move_last n s {t} (closes sequence m e c) = (_, gone_last n s (pair_end m s) t)
move_last n s {t} (parts m e) = (_, absent_last (gone_last n s (pair_end m s) t))
move_last n s {t} (begins {pair = p} {r = r} sequence m e b) =
    (_, absent_last (gone_last n s (empty_if p FlowMappingStart m ++ empty_if r.starts (block_start sequence) m) t))
move_last n s {t} (uses {pair = p} {n = k} {m = m} {r = r} e b c) = (_, absent_last (gone_last n s (put_before k (goes_in p r.starts m) ∷ []) t))

last_after : {n k : ℕ} {s t : State} {es : List Event} {ks : List Candidate} (j : ℕ) (m : Mark) → Gapped s t → Last n k (unrolled_state t) es ks → j ≡ (unrolled t).ended
    → Last n k s (block_ends j m ++ es) ks
last_after {n} {s = s} {t = t} j m g l e =
    record {
      front = block_ends j m ++ l.front;
      last = l.last;
      is = ap (λ (fs : List Event). block_ends j m ++ fs) l.is ∙ sym (append_assoc (block_ends j m) l.front (put l.last ∷ []));
      numbered = omega (arith, l.numbered, puts_append (block_ends j m) l.front, puts_ends j m, gap_count g);
      falls = λ f. l.falls (fall_less s.count (t.count + (unrolled t).ended) t.keys (omega (arith, gap_count g)) (gap_falls g f));
      alone = λ h. l.alone (gap_holds n g h);
    }

puts_last : (es : List Event) (t : Token) → puts (es ++ (put t ∷ [])) ≡ suc (puts es)
unfolding puts
puts_last es t = omega (arith, puts_append es (put t ∷ []))

pub step_last : (n : ℕ) (limits : Limits) (s : State) → All News (LastOf n s) (step limits s)
step_last n limits s = step_by limits s by_news
  where
    by_news : (t : State) → Gapped s t → (w : News) → Moves (unrolled_state t) w → Takes (unrolled_state t) w → LastOf n s (preceded (block_ends (unrolled t).ended (mark_of t)) w)
    by_news t g (goes_on es u) m k =
        let l = move_last n (unrolled_state t) m.2 in
        let f = ap (λ (fs : List Event). puts fs) l.1.is in
        (l.0, last_after (unrolled t).ended (mark_of t) g l.1 refl, omega (arith, m.3, l.1.numbered, puts_last l.1.front l.1.last))
    by_news t g (ends_with es) m k =
        let e = empty_token StreamEnd m.0 in
        let f = ap (λ (fs : List Event). puts fs) m.2 in
        omega (arith, puts_append (block_ends (unrolled t).ended (mark_of t)) es, puts_last (block_ends (unroll_to 0 (unrolled_state t)).ended m.0) e)
