-- Where a required key may stand. In flow none is required. At level 0 one stands before the current mark; as long as its line goes on,
-- no simple key is allowed, or the text is over.
use Rattle.std.specs.Prelude.{◌<◌, ◌≤◌, Bool, false, true, List, [], ◌∷◌, ◌⊎◌, ◌≡◌, refl, ltb, drop}
use Rattle.std.proofs.Math.Logic.{inl}
use Rattle.std.proofs.Common.{inr, ◌∙◌, sym, arith, ltb-false, ltb-true}
use Rattle.yaml_text.specs.declared.Mark.{Mark}
use Rattle.yaml_text.specs.Mark.{Place}
use Rattle.yaml_text.specs.Test.{by_test, true_false}
use Rattle.yaml_text.specs.All.{All, all_bind, all_both, holds}
use Rattle.yaml_text.specs.DecodeLaws.{NoNul}
use Rattle.yaml_text.specs.PlaceLaws.{FurtherOn, fits_no_nul}
use Rattle.yaml_lexeme.specs.Fits.{skip_gap_fit}
use Rattle.yaml_scan.specs.declared.Candidate.{Candidate}
use Rattle.yaml_scan.specs.declared.Candidate.TheVariants.{Absent, Possible}
use Rattle.yaml_scan.specs.declared.Level.{Level}
use Rattle.yaml_scan.specs.Keys.{is_required, set_key, top_key}
use Rattle.yaml_scan.specs.State.{News, State, allow, at_place, ends_with, goes_on, in_flow, lapse_key, mark_of, rest_of, with_keys}
use Rattle.yaml_scan.specs.Scan.{to_next_token}
use Rattle.yaml_scan.specs.Candidates.{Over}
use Rattle.yaml_scan.specs.Fetches.{behind_first}
use Rattle.yaml_scan.specs.LinesOver.{gap_forbids, none_further}
use Rattle.yaml_scan.specs.Runs.{lapsed, still_over}

-- the candidate stands before the mark
abbrev pub KeyPassed : Mark → Candidate → Type 0
KeyPassed m Absent = Unit {0}
KeyPassed m (Possible required n k) = (k.line ≤ m.line) × (m.line ≡ k.line → k.col < m.col)

-- in flow no candidate is required, and that of level 0 stands before the mark
abbrev pub Held : Mark → List Candidate → List Level → Type 0
Held m [] ls = Unit {0}
Held m (k ∷ ks) [] = KeyPassed m k
Held m (k ∷ ks) (l ∷ ls) = (is_required k ≡ false) × Held m ks ls

-- before a token, behind the lapse
pub record BeforeToken (s : State) : Type 0 where
  pub held : Held (mark_of s) s.keys s.levels
  pub waits : in_flow s ≡ false → is_required (top_key s.keys) ≡ true → (0 < (mark_of s).col) × ((s.simple_key_allowed ≡ false) ⊎ (rest_of s ≡ []))
  pub no_nul : NoNul (rest_of s)

-- between two steps
pub record BetweenSteps (s : State) : Type 0 where
  pub held : Held (mark_of s) s.keys s.levels
  pub waits : in_flow s ≡ false → is_required (top_key s.keys) ≡ true → Over (mark_of s) (top_key s.keys) ⊎ ((s.simple_key_allowed ≡ false) ⊎ (rest_of s ≡ []))
  pub no_nul : NoNul (rest_of s)

-- on to a later mark

abbrev Later : Mark → Mark → Type 0
Later m m' = (m.line ≤ m'.line) × (m'.line ≡ m.line → m.col ≤ m'.col)

pub later : {p q : Place} → FurtherOn p q → Later p.mark q.mark
later f = (f.line_on, f.col_on)

passed_on : (m m' : Mark) (k : Candidate) → Later m m' → KeyPassed m k → KeyPassed m' k
passed_on m m' Absent f h = tt
passed_on m m' (Possible required n k) f h =
    (omega (arith, f.0, h.0), λ e. omega (arith, h.1 (omega (arith, f.0, h.0)), f.1 (omega (arith, f.0, h.0))))

pub held_on : (m m' : Mark) (ks : List Candidate) (ls : List Level) → Later m m' → Held m ks ls → Held m' ks ls
held_on m m' [] ls f h = tt
held_on m m' (k ∷ ks) [] f h = passed_on m m' k f h
held_on m m' (k ∷ ks) (l ∷ ls) f h = (h.0, held_on m m' ks ls f h.1)

-- the changes of the candidates

pub held_drop : (m : Mark) (ks : List Candidate) (l : Level) (ls : List Level) → Held m ks (l ∷ ls) → Held m (drop 1 ks) ls
held_drop m [] l ls h = tt
held_drop m (k ∷ ks) l ls h = h.1

pub held_without : (m : Mark) (ks : List Candidate) (ls : List Level) → Held m ks ls → Held m (set_key Absent ks) ls
unfolding is_required
held_without m ks [] h = tt
held_without m ks (l ∷ ls) h = (refl, held_drop m ks l ls h)

held_top : (m : Mark) (ks : List Candidate) (ls : List Level) → Held m ks ls → Held m (set_key (top_key ks) ks) ls
unfolding top_key is_required
held_top m [] [] h = tt
held_top m [] (l ∷ ls) h = (refl, tt)
held_top m (k ∷ ks) ls h = h

-- where the scan is
abbrev pub inside : List Level → Bool
inside ls = elim ls [ [] ↦ false | l ∷ ls ↦ true ]

-- at level 0
pub zero_passed : (m : Mark) (ks : List Candidate) (ls : List Level) → inside ls ≡ false → Held m ks ls → KeyPassed m (top_key ks)
unfolding top_key
zero_passed m [] ls e h = tt
zero_passed m (k ∷ ks) [] e h = h
zero_passed m (k ∷ ks) (l ∷ ls) e h = true_false e

-- in flow
pub flow_none : (m : Mark) (ks : List Candidate) (ls : List Level) → inside ls ≡ true → Held m ks ls → is_required (top_key ks) ≡ false
unfolding top_key is_required
flow_none m [] ls e h = refl
flow_none m (k ∷ ks) [] e h = true_false (sym e)
flow_none m (k ∷ ks) (l ∷ ls) e h = h.0

-- a candidate that stands before the mark, on a later line
pub line_over : (m m' : Mark) (k : Candidate) → m.line < m'.line → KeyPassed m k → Over m' k
line_over m m' Absent f h = tt
line_over m m' (Possible required n k) f h = omega (arith, h.0)

-- one whose line is not over: the column is above 0
above_zero : (m : Mark) (k : Candidate) → is_required k ≡ true → KeyPassed m k → (Over m k → ⊥) → 0 < m.col
unfolding is_required
above_zero m Absent r h o = true_false (sym r)
above_zero m (Possible required n k) r h o =
    by_test (ltb k.line m.line)
    (λ e. absurd (o (ltb-true k.line m.line e)))
    (λ e. omega (arith, h.1 (omega (arith, h.0, ltb-false k.line m.line e))))

-- the gap and the lapse

module _ (s : State) (h : BetweenSteps s) (p : Place) (leads a : Bool) (f : FurtherOn s.place p)
    (forbids : s.simple_key_allowed ≡ false → (a ≡ false) ⊎ ((mark_of s).line < p.mark.line)) where
  -- the candidate that is left
  waits_on : in_flow s ≡ false → (Over p.mark (top_key s.keys) → ⊥) → is_required (top_key s.keys) ≡ true
      → (0 < p.mark.col) × ((a ≡ false) ⊎ (p.rest ≡ []))
  unfolding in_flow
  waits_on e o r =
      let k = zero_passed (mark_of s) s.keys s.levels e h.held in
      (above_zero p.mark (top_key s.keys) r (passed_on (mark_of s) p.mark (top_key s.keys) (later f) k) o, by_wait k (h.waits e r))
    where
      by_line : KeyPassed (mark_of s) (top_key s.keys) → (a ≡ false) ⊎ ((mark_of s).line < p.mark.line) → (a ≡ false) ⊎ (p.rest ≡ [])
      by_line k (inl z) = inl z
      by_line k (inr z) = absurd (o (line_over (mark_of s) p.mark (top_key s.keys) z k))

      by_wait : KeyPassed (mark_of s) (top_key s.keys) → Over (mark_of s) (top_key s.keys) ⊎ ((s.simple_key_allowed ≡ false) ⊎ (rest_of s ≡ []))
          → (a ≡ false) ⊎ (p.rest ≡ [])
      by_wait k (inl z) = absurd (o (still_over (mark_of s) p.mark (top_key s.keys) f.line_on z))
      by_wait k (inr (inl z)) = by_line k (forbids z)
      by_wait k (inr (inr z)) = inr (none_further f z)

  lapse_ahead : All State BeforeToken (lapse_key (at_place p leads (allow a s)))
  unfolding lapse_key in_flow top_key is_required
  lapse_ahead =
      by_test (in_flow s)
      (λ e. rw (e, lapse_key) (holds (record { held = on; waits = λ z. true_false (sym e ∙ z); no_nul = fits_no_nul f h.no_nul })))
      (λ e. rw (e, lapse_key) (all_bind _ (lapsed p.mark (top_key s.keys)) (λ c k. holds (by_lapse e c k))))
    where
      on : Held p.mark s.keys s.levels
      on = held_on (mark_of s) p.mark s.keys s.levels (later f) h.held

      by_lapse : in_flow s ≡ false → (c : Candidate) → (c ≡ Absent) ⊎ ((c ≡ top_key s.keys) × (Over p.mark (top_key s.keys) → ⊥))
          → BeforeToken (with_keys (set_key c s.keys) (at_place p leads (allow a s)))
      by_lapse e c (inl k) =
          rw k (record { held = held_without p.mark s.keys s.levels on; waits = λ _ r. true_false (sym r); no_nul = fits_no_nul f h.no_nul })
      by_lapse e c (inr k) =
          rw k.0 (record { held = held_top p.mark s.keys s.levels on; waits = λ _ r. waits_on e k.1 r; no_nul = fits_no_nul f h.no_nul })

pub to_next_token_ahead : (s : State) → BetweenSteps s → All State BeforeToken (to_next_token s)
unfolding to_next_token
to_next_token_ahead s h =
    all_bind _ (all_both (skip_gap_fit _ _ _ (mark_of s) (rest_of s)) (gap_forbids _ s.simple_key_allowed _ (mark_of s) (rest_of s)))
    (λ g k. lapse_ahead s h g.place g.leading_whitespace g.simple_key_allowed k.0 k.1)

-- what each fetch keeps

abbrev pub KeepsBetween : State → News → Type 0
KeepsBetween s (goes_on es t) = FurtherOn (behind_first s.place) t.place → BeforeToken s → BetweenSteps t
KeepsBetween s (ends_with es) = Unit {0}

-- brackets
