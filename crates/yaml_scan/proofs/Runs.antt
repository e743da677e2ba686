-- Theorems about specs/Runs, and what rests on them.
use Rattle.std.specs.Prelude.{◌+◌, ◌≤◌, ℕ, Bool, true, List, [], ◌∷◌, ◌⊎◌, ◌≡◌, refl, drop, length}
use Rattle.std.proofs.Common.{inl, inr, ◌∙◌, sym, le_refl, zero-add, arith}
use Rattle.yaml_text.specs.declared.Mark.{Mark}
use Rattle.yaml_text.specs.Class.{is_z}
use Rattle.yaml_text.specs.Mark.{Place, look, origin}
use Rattle.yaml_text.specs.Test.{by_test, true_false}
use Rattle.yaml_text.specs.All.{All, all_bind, all_got, all_weak, holds}
use Rattle.yaml_text.specs.PlaceLaws.{FurtherOn, fits_left, fits_no_nul, fits_refl, fits_trans, left}
use Rattle.yaml_lexeme.specs.Fits.{skip_gap_fit}
use Rattle.yaml_scan.specs.declared.Candidate.{Candidate}
use Rattle.yaml_scan.specs.declared.Candidate.TheVariants.{Absent}
use Rattle.yaml_scan.specs.declared.Level.{Level}
use Rattle.yaml_scan.specs.Indent.{Indents}
use Rattle.yaml_scan.specs.Keys.{set_key, top_key}
use Rattle.yaml_scan.specs.declared.Limits.{Limits}
use Rattle.yaml_scan.specs.State.{Event, News, State, allow, at_place, block_ends, counting, ends_with, goes_on, in_flow, lapse_key, mark_of, preceded, rest_of, with_indents}
use Rattle.yaml_scan.specs.Choice.{choice}
use Rattle.yaml_scan.specs.Fetch.{fetch, fetch_next}
use Rattle.yaml_scan.specs.Scan.{begin, step, to_next_token, unrolled}
use Rattle.yaml_scan.specs.Candidates.{GivenToken, Over, Placed, Ready, ReadyState, Sound, fall_less, fresh, given, given_append, given_length, late, only_ends, only_placed, placed_append, ready, same_ready, stays_known, without_ready}
use Rattle.yaml_scan.specs.Fetches.{Fetched, behind_first, stream_end_news}
use Rattle.yaml_scan.specs.ChoiceLaws.{choice_says}
use Rattle.yaml_scan.proofs.ChoiceLaws.{fetch_news}
use Rattle.yaml_scan.specs.Runs.{still_over, lapsed, TakesOrEnds, some_left, Stepped, puts_ends, StepsReach, Reached, here, then_step}

move_ready : {gs : List GivenToken} {n : ℕ} {ks : List Candidate} {ls : List Level} {p q : Place} → FurtherOn p q → Ready gs n ks ls p → Ready gs n ks ls q
move_ready f r = record { counted = r.counted; levelled = r.levelled; known = r.known; ordered = r.ordered; no_nul = fits_no_nul f r.no_nul }

-- over a gap the state stays sound
over_gap : {gs : List GivenToken} (s : State) (p : Place) (leads a : Bool) → FurtherOn s.place p → Sound gs s → Sound gs (at_place p leads (allow a s))
unfolding in_flow
over_gap s p leads a f (ready r) = ready (move_ready f r)
over_gap s p leads a f (late e o r) = late e (still_over (mark_of s) p.mark (top_key s.keys) f.line_on o) (move_ready f r)

lapse_key_ready : (gs : List GivenToken) (s : State) → All State (λ t. (t.place ≡ s.place) × (Sound gs s → ReadyState gs t)) (lapse_key s)
unfolding lapse_key
lapse_key_ready gs s =
    by_test (in_flow s)
    (λ e. rw (e, lapse_key) (holds (refl, in_level e)))
    (λ e. rw (e, lapse_key) (all_bind _ (lapsed (mark_of s) (top_key s.keys)) (λ c f. holds (refl, outside c f))))
  where
    in_level : in_flow s ≡ true → Sound gs s → ReadyState gs s
    in_level e (ready r) = r
    in_level e (late f o r) = true_false (sym e ∙ f)

    outside : (c : Candidate) → (c ≡ Absent) ⊎ ((c ≡ top_key s.keys) × (Over (mark_of s) (top_key s.keys) → ⊥)) → Sound gs s
        → Ready gs s.count (set_key c s.keys) s.levels s.place
    outside c (inl e) (ready r) = rw e (without_ready r)
    outside c (inl e) (late f o r) = rw e r
    outside c (inr h) (ready r) = rw h.0 (same_ready s.keys r)
    outside c (inr h) (late f o r) = absurd (h.1 o)

to_next_token_ready : (gs : List GivenToken) (s : State) → All State (λ t. FurtherOn s.place t.place × (Sound gs s → ReadyState gs t)) (to_next_token s)
unfolding to_next_token
to_next_token_ready gs s =
    all_bind _ (skip_gap_fit _ _ _ (mark_of s) (rest_of s))
    (λ g f. all_weak (λ t h. (rw h.0 f, λ k. h.1 (over_gap s g.place g.leading_whitespace g.simple_key_allowed f k))) (lapse_key_ready gs _))

takes_one : (p : Place) → 1 ≤ left p → FurtherOn p (behind_first p)
takes_one p h = record { taken = 1; within = h; rest_is = refl; index_is = refl; line_on = le_refl _; col_on = λ _. le_refl _ }

takes_first : (gs : List GivenToken) (s : State) → 1 ≤ left s.place → (w : News) → Fetched gs s w → TakesOrEnds gs s w
takes_first gs s h (goes_on es t) f =
    let g = takes_one s.place h in
    (omega (arith, fits_left f.0, fits_left g), fits_trans g f.0, f.1)
takes_first gs s h (ends_with es) f = f

pub next_news : (gs : List GivenToken) (limits : Limits) (s : State) → All News (TakesOrEnds gs s) (fetch_next limits s)
unfolding choice fetch
next_news gs limits s =
    by_test (is_z (look s.place))
    (λ e. rw (e, choice) (stream_end_news gs s (λ es k. k)))
    (λ e. all_weak (takes_first gs s (some_left (rest_of s) e)) (fetch_news gs limits (choice s) s (choice_says s)))

-- behind the ends of blocks
ends_ready : {gs : List GivenToken} {c : ℕ} {ks : List Candidate} {ls : List Level} {p : Place} (n : ℕ) (m : Mark) → Ready gs c ks ls p → Ready (given gs (block_ends n m)) (c + n) ks ls p
ends_ready {gs} {c} {ks} n m r =
    let e = given_length gs (block_ends n m) in
    let f = puts_ends n m in
    record {
      counted = omega arith;
      levelled = r.levelled;
      known = stays_known gs (block_ends n m) ks (only_ends n m) r.known;
      ordered = fall_less c (c + n) ks (omega arith) r.ordered;
      no_nul = r.no_nul;
    }

-- a gap, the ends of blocks, and one token
stepped : (gs : List GivenToken) (s t : State) (n : ℕ) (i : Indents) → FurtherOn s.place t.place → (Sound gs s → ReadyState gs t) → (w : News)
    → TakesOrEnds (given gs (block_ends n (mark_of t))) (counting n (with_indents i t)) w → Stepped gs s (preceded (block_ends n (mark_of t)) w)
stepped gs s t n i f r (goes_on es u) h =
    let bs = block_ends n (mark_of t) in
    record {
      takes = omega (arith, fits_left f, h.0);
      onward = fits_trans f h.1;
      sound = λ k. let j = h.2 (ends_ready n (mark_of t) (r k)) in (placed_append gs bs es (only_placed gs _ (only_ends n (mark_of t))) j.0, rw (given_append gs bs es) j.1);
    }
stepped gs s t n i f r (ends_with es) h =
    λ k. placed_append gs (block_ends n (mark_of t)) es (only_placed gs _ (only_ends n (mark_of t))) (h (ends_ready n (mark_of t) (r k)))

pub step_news : (gs : List GivenToken) (limits : Limits) (s : State) → All News (Stepped gs s) (step limits s)
unfolding step
step_news gs limits s =
    all_bind _ (to_next_token_ready gs s)
    (λ t h. all_bind _ (next_news (given gs (block_ends (unrolled t).ended (mark_of t))) limits (counting (unrolled t).ended (with_indents (unrolled t).indents t)))
    (λ w k. holds (stepped gs s t (unrolled t).ended (unrolled t).indents h.0 h.1 w k)))

-- in every state that a run reaches the candidates are known or late, the place is further on in the text, and what was said is placed
pub reached : {limits : Limits} {s : State} {es : List Event} {t : State} (gs : List GivenToken) → Sound gs s → StepsReach limits s es t → Reached gs s es t
unfolding given Placed
reached gs h here = record { onward = fits_refl _; placed = tt; sound = h }
reached {limits} gs h (then_step {es = es} {fs = fs} {t = t} r e) =
    let k = reached gs h r in
    let n = all_got (step_news (given gs es) limits t) e in
    let j = n.sound k.sound in
    record { onward = fits_trans k.onward n.onward; placed = placed_append gs es fs k.placed j.0; sound = rw (given_append gs es fs) j.1 }

-- in a text from its first character on, a place has as many characters behind it as its index says
pub reached_place : {limits : Limits} {es : List Event} {t : State} (cs : List ℕ) → Sound (fresh origin ∷ []) (begin cs) → StepsReach limits (begin cs) es t
    → (t.place.rest ≡ drop t.place.mark.index cs) × (t.place.mark.index ≤ length cs)
reached_place {t} cs h r =
    let f = (reached (fresh origin ∷ []) h r).onward in
    let e : t.place.mark.index ≡ f.taken = f.index_is ∙ zero-add _ in
    (rw e f.rest_is, rw e f.within)
