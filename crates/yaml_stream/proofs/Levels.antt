-- Theorems about specs/Levels, and what rests on them.
use Rattle.std.specs.Prelude.{◌≤◌, ℕ, Bool, ◌||◌, false, List, [], ◌∷◌, ◌≡◌, refl, eqb, length}
use Rattle.std.proofs.Common.{◌∙◌, ap, sym, arith, eq-eqb, eqb-true}
use Rattle.yaml_text.specs.Refusal.{got}
use Rattle.yaml_text.specs.Test.{by_test, true_false}
use Rattle.yaml_text.specs.All.{all_got}
use Rattle.yaml_scan.specs.declared.Candidate.{Candidate}
use Rattle.yaml_scan.specs.declared.Limits.{Limits}
use Rattle.yaml_scan.specs.State.{Event, State, goes_on}
use Rattle.yaml_scan.specs.Scan.{step}
use Rattle.yaml_scan.specs.Candidates.{Fall}
use Rattle.yaml_stream.specs.Stream.{possible}
use Rattle.yaml_stream.specs.Alone.{Absents, absents_not}
use Rattle.yaml_stream.specs.Here.{Levelled}
use Rattle.yaml_stream.specs.Lowest.{names, or_none}
use Rattle.yaml_stream.specs.Levels.{level_key, At, OnLevel, possible_first, level_top, level_none, fall_not, step_on}

pub on_at : (n l : ℕ) (ks : List Candidate) → OnLevel n l ks → At n l ks
unfolding level_key possible names
on_at n l [] h = refl
on_at n l (k ∷ ks) h = by_rest (on_at n l ks h.1)
  where
    by_rest : At n l ks → At n l (k ∷ ks)
    by_rest a =
        by_test (eqb l (length ks))
        (λ e.
        let d = eqb-true l (length ks) e in
        let f : possible n ks ≡ false = a ∙ ap (names n) (level_none l ks (omega arith)) in
        let g : level_key l (k ∷ ks) ≡ k = ap (λ (i : ℕ). level_key i (k ∷ ks)) d ∙ level_top k ks in
        possible_first n k ks ∙ rw (f, g) (or_none (names n k)))
        (λ e. by_test (names n k)
        (λ f. true_false (sym (eq-eqb l (length ks) (h.0 f)) ∙ e))
        (λ f.
        let g : level_key l (k ∷ ks) ≡ level_key l ks = rw (e, level_key) in
        possible_first n k ks ∙ rw (f, g) a))

-- where token n is no possible key, every level will do
pub on_none : (n l : ℕ) (ks : List Candidate) → possible n ks ≡ false → OnLevel n l ks
unfolding possible names
on_none n l [] e = tt
on_none n l (k ∷ ks) e =
    by_test (names n k)
    (λ f. true_false (ap (λ (p : Bool). p || possible n ks) (sym f) ∙ sym (possible_first n k ks) ∙ e))
    (λ f. (λ g. true_false (sym g ∙ f), on_none n l ks (ap (λ (p : Bool). p || possible n ks) (sym f) ∙ sym (possible_first n k ks) ∙ e)))

pub on_absents : (n l : ℕ) (ks : List Candidate) → Absents ks → OnLevel n l ks
on_absents n l ks h = on_none n l ks (absents_not n ks h)

-- a new one is on the level from which the step was made
pub new_on : (n : ℕ) (limits : Limits) (s : State) (es : List Event) (t : State) → step limits s ≡ got (goes_on es t) → Levelled s.keys s.levels
    → Fall s.count s.keys → s.count ≤ n → OnLevel n (length s.levels) t.keys
new_on n limits s es t e v f b =
    all_got (step_on n (length s.levels) limits s v (λ _. refl) (on_none n (length s.levels) s.keys (fall_not n s.count s.keys f b))) e
