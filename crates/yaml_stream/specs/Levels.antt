-- Candidates and flow levels: a step moves no candidate to another level, and a new one is that of the level from which the step was made.
use Rattle.std.specs.Prelude.{◌≤◌, ℕ, ◌||◌, false, true, List, [], ◌∷◌, ◌≡◌, refl, eqb, drop, length}
use Rattle.std.proofs.Common.{◌∙◌, ap, sym, arith, length-drop, eq-eqb, eqb-true, ne_eqb}
use Rattle.yaml_text.specs.Mark.{Place}
use Rattle.yaml_text.specs.Test.{by_pick, true_false}
use Rattle.yaml_text.specs.All.{All}
use Rattle.yaml_lexeme.specs.Token.{Token}
use Rattle.yaml_scan.specs.declared.Candidate.{Candidate}
use Rattle.yaml_scan.specs.declared.Candidate.TheVariants.{Absent, Possible}
use Rattle.yaml_scan.specs.declared.Level.{Level}
use Rattle.yaml_scan.specs.declared.Limits.{Limits}
use Rattle.yaml_scan.specs.Indent.{Indents}
use Rattle.yaml_scan.specs.Keys.{set_key, top_key}
use Rattle.yaml_scan.specs.State.{Event, News, State, block_ends, ends_with, goes_on, mark_of, preceded, save_key}
use Rattle.yaml_scan.specs.Scan.{step, unrolled}
use Rattle.yaml_scan.specs.Candidates.{Fall}
use Rattle.yaml_scan.specs.Moves.{Move, Moves, begins, closes, leaves, opens, parts, tells, uses}
use Rattle.yaml_scan.specs.Steps.{Gapped, Takes, gapped, inside, lapses, stays, unrolled_state}
use Rattle.yaml_scan.proofs.Steps.{step_by}
use Rattle.yaml_stream.specs.Stream.{possible}
use Rattle.yaml_stream.specs.Here.{Levelled}
use Rattle.yaml_stream.specs.Lowest.{names}

-- the candidate of flow level l, in a list that has the current level first and level 0 last
unfoldable pub level_key : ℕ → List Candidate → Candidate
level_key l [] = Absent
level_key l (k ∷ ks) = elim (eqb l (length ks)) [ true ↦ k | false ↦ level_key l ks ]

-- token n is a possible key exactly if it is the candidate of level l
abbrev pub At : ℕ → ℕ → List Candidate → Type 0
At n l ks = possible n ks ≡ names n (level_key l ks)

-- a level whose candidate is token n is level l
abbrev pub OnLevel : ℕ → ℕ → List Candidate → Type 0
OnLevel n l [] = Unit {0}
OnLevel n l (k ∷ ks) = (names n k ≡ true → l ≡ length ks) × OnLevel n l ks

pub possible_first : (n : ℕ) (k : Candidate) (ks : List Candidate) → possible n (k ∷ ks) ≡ (names n k || possible n ks)
unfolding possible names
possible_first n Absent ks = refl
possible_first n (Possible required j m) ks = refl

-- the current level is the first
pub level_top : (k : Candidate) (ks : List Candidate) → level_key (length ks) (k ∷ ks) ≡ k
unfolding level_key
level_top k ks = rw (eq-eqb (length ks) (length ks) refl, level_key)

pub level_below : (l : ℕ) (k : Candidate) (ks : List Candidate) → (l ≡ length ks → ⊥) → level_key l (k ∷ ks) ≡ level_key l ks
unfolding level_key
level_below l k ks h = rw (ne_eqb l (length ks) h, level_key)

-- a level that is not there has none
pub level_none : (l : ℕ) (ks : List Candidate) → length ks ≤ l → level_key l ks ≡ Absent
unfolding level_key
level_none l [] h = refl
level_none l (k ∷ ks) h = level_below l k ks (λ e. omega arith) ∙ level_none l ks (omega arith)

-- a token to come is no possible key
pub fall_not : (n b : ℕ) (ks : List Candidate) → Fall b ks → b ≤ n → possible n ks ≡ false
unfolding possible
fall_not n b [] f h = refl
fall_not n b (Absent ∷ ks) f h = fall_not n b ks f h
fall_not n b (Possible required k m ∷ ks) f h = rw (ne_eqb n k (λ e. omega (arith, f.0)), fall_not n k ks f.1 (omega (arith, f.0)))

-- what a step makes of the candidates

on_drop : (n l : ℕ) (ks : List Candidate) → OnLevel n l ks → OnLevel n l (drop 1 ks)
on_drop n l [] h = tt
on_drop n l (k ∷ ks) h = h.1

on_absent : (n l : ℕ) (ks : List Candidate) → OnLevel n l ks → OnLevel n l (Absent ∷ ks)
unfolding names
on_absent n l ks h = (λ e. true_false (sym e), h)

on_top : (n l : ℕ) (ks : List Candidate) → OnLevel n l ks → OnLevel n l (set_key (top_key ks) ks)
unfolding top_key names
on_top n l [] h = on_absent n l [] tt
on_top n l (k ∷ ks) h = h

on_saved : (n l : ℕ) (s : State) → Levelled s.keys s.levels → (n ≡ s.count → l ≡ length s.levels) → OnLevel n l s.keys → OnLevel n l (save_key s).keys
unfolding save_key names
on_saved n l s v c h =
    by_pick (λ (t : State). OnLevel n l t.keys) s.simple_key_allowed _ s
    (λ e. omega (arith, c (eqb-true n s.count e), v, length-drop 1 s.keys), on_drop n l s.keys h) h

on_gap : {s t : State} (n l : ℕ) → Gapped s t → OnLevel n l s.keys → OnLevel n l t.keys
on_gap n l (gapped f spares (inside e)) h = h
on_gap {s} n l (gapped f spares (lapses e)) h = on_absent n l (drop 1 s.keys) (on_drop n l s.keys h)
on_gap {s} n l (gapped f spares (stays e k)) h = on_top n l s.keys h

-- the level, the number and the height of the candidates are those before the gap
gap_same : {s t : State} → Gapped s t → Levelled s.keys s.levels → (t.levels ≡ s.levels) × (t.count ≡ s.count) × Levelled t.keys s.levels
gap_same (gapped f spares (inside e)) h = (refl, refl, h)
gap_same {s} (gapped f spares (lapses e)) h = (refl, refl, omega (arith, length-drop 1 s.keys))
gap_same {s} (gapped f spares (stays e k)) h = (refl, refl, omega (arith, length-drop 1 s.keys))

on_move : (n l : ℕ) (s : State) {t : Token} {q : Place} {es : List Event} {i : Indents} {ks : List Candidate} {ls : List Level} → Move s t q es i ks ls
    → Levelled s.keys s.levels → (n ≡ s.count → l ≡ length s.levels) → OnLevel n l s.keys → OnLevel n l ks
on_move n l s (tells e same) v c h = on_saved n l s v c h
on_move n l s (leaves e f) v c h = on_absent n l (drop 1 s.keys) (on_drop n l s.keys h)
on_move n l s (opens sequence e same) v c h = on_absent n l (save_key s).keys (on_saved n l s v c h)
on_move n l s (closes sequence m e k) v c h = on_drop n l s.keys h
on_move n l s (parts m e) v c h = on_absent n l (drop 1 s.keys) (on_drop n l s.keys h)
on_move n l s (begins sequence m e b) v c h = on_absent n l (drop 1 s.keys) (on_drop n l s.keys h)
on_move n l s (uses e b k) v c h = on_absent n l (drop 1 s.keys) (on_drop n l s.keys h)

abbrev pub OnIn : ℕ → ℕ → News → Type 0
OnIn n l (goes_on es t) = OnLevel n l t.keys
OnIn n l (ends_with es) = Unit {0}

pub step_on : (n l : ℕ) (limits : Limits) (s : State) → Levelled s.keys s.levels → (s.count ≤ n → l ≡ length s.levels) → OnLevel n l s.keys → All News (OnIn n l) (step limits s)
step_on n l limits s v c h = step_by limits s by_news
  where
    by_news : (t : State) → Gapped s t → (w : News) → Moves (unrolled_state t) w → Takes (unrolled_state t) w → OnIn n l (preceded (block_ends (unrolled t).ended (mark_of t)) w)
    by_news t g (goes_on es u) m k =
        let i = gap_same g v in
        on_move n l (unrolled_state t) m.2 (rw i.0 i.2) (λ e. c (omega (arith, i.1)) ∙ ap length (sym i.0)) (on_gap n l g h)
    by_news t g (ends_with es) m k = tt
