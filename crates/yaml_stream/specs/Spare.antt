-- Where as many blocks are open as the indent stack has entries, no bracket was opened since the candidate, and so few tokens came since it (K2's 1,024 characters).
use Rattle.std.specs.Prelude.{◌+◌, ◌<◌, ◌≤◌, suc, zero, ℕ, Bool, false, true, List, [], ◌∷◌, ◌⊎◌, ◌≡◌, refl, ltb}
use Rattle.std.proofs.Common.{inl, inr, ◌∙◌, ap, sym, arith, lt-ltb, ltb-false}
use Rattle.yaml_text.specs.declared.Mark.{Mark}
use Rattle.yaml_text.specs.Mark.{Place}
use Rattle.yaml_text.specs.Refusal.{got}
use Rattle.yaml_text.specs.Test.{by_pick, by_test, true_false}
use Rattle.yaml_text.specs.All.{All, all_bind, all_both, all_need, holds}
use Rattle.yaml_text.specs.PlaceLaws.{FurtherOn, fits_left}
use Rattle.yaml_lexeme.specs.Token.{Token}
use Rattle.yaml_lexeme.specs.Fits.{skip_gap_fit}
use Rattle.yaml_scan.specs.declared.Candidate.{Candidate}
use Rattle.yaml_scan.specs.declared.Candidate.TheVariants.{Absent, Possible}
use Rattle.yaml_scan.specs.declared.Level.{Level}
use Rattle.yaml_scan.specs.declared.Limits.{Limits}
use Rattle.yaml_scan.specs.Indent.{Indents, Rolled}
use Rattle.yaml_scan.specs.IndentLaws.{blocks_of, unroll_blocks}
use Rattle.yaml_scan.specs.Keys.{lapse, set_key, stale, top_key}
use Rattle.yaml_scan.specs.State.{Event, News, State, allow, at_place, block_ends, ends_with, goes_on, in_flow, lapse_key, mark_of, on_level, preceded, puts, rest_of, save_key, with_keys}
use Rattle.yaml_scan.specs.Bracket.{closes_level}
use Rattle.yaml_scan.specs.Choice.{choice}
use Rattle.yaml_scan.specs.Scan.{step, to_next_token, unrolled}
use Rattle.yaml_scan.specs.Runs.{TakesOrEnds}
use Rattle.yaml_scan.proofs.Runs.{next_news}
use Rattle.yaml_scan.specs.Moves.{Begins, Move, Moves, begins, closes, leaves, opens, parts, tells, uses}
use Rattle.yaml_scan.specs.Steps.{unrolled_state}
use Rattle.yaml_scan.proofs.Steps.{next_moves, unrolled_blocks}
use Rattle.yaml_stream.specs.Waits.{or_false}
use Rattle.yaml_stream.specs.Depth.{depth, gap_depth, unrolled_depth}
use Rattle.yaml_stream.specs.Totals.{blocks_depth}
use Rattle.yaml_stream.specs.Opened.{Opened, fetch_opened}

-- the gap and the lapse, with K2's measure

-- the candidate's line is not over at the mark m, nor are its 1,024 characters
abbrev pub Fresh : Mark → Candidate → Type 0
Fresh m Absent = Unit {0}
Fresh m (Possible required n k) = (k.line < m.line → ⊥) × (m.index ≤ k.index + 1024)

lapsed_fresh : (m : Mark) (k : Candidate) → All Candidate (λ c. (c ≡ Absent) ⊎ ((c ≡ k) × Fresh m k)) (lapse m k)
unfolding lapse stale
lapsed_fresh m Absent = holds (inl refl)
lapsed_fresh m (Possible required n k) =
    by_test (stale k m)
    (λ e. rw (e, lapse) (all_need _ 41 m _ (holds (inl refl))))
    (λ e.
    let f = or_false (ltb k.line m.line) (ltb (k.index + 1024) m.index) e in
    rw (e, lapse) (holds (inr (refl, ((λ o. true_false (sym (lt-ltb k.line m.line o) ∙ f.0)), ltb-false (k.index + 1024) m.index f.1)))))

pub record GapTo (s v : State) : Type 0 where
  pub onward : FurtherOn s.place v.place
  pub indents_are : v.indents ≡ s.indents
  pub levels_are : v.levels ≡ s.levels
  pub count_is : v.count ≡ s.count
  pub key : in_flow s ≡ false → (top_key v.keys ≡ Absent) ⊎ ((top_key v.keys ≡ top_key s.keys) × Fresh (mark_of v) (top_key s.keys))

lapse_gap : (s : State) (p : Place) (leads a : Bool) → FurtherOn s.place p → All State (GapTo s) (lapse_key (at_place p leads (allow a s)))
unfolding lapse_key in_flow top_key
lapse_gap s p leads b f =
    by_test (in_flow s)
    (λ e. rw (e, lapse_key) (within e))
    (λ e. rw (e, lapse_key) (all_bind _ (lapsed_fresh p.mark (top_key s.keys)) (λ c k. outside c k)))
  where
    within : in_flow s ≡ true → All State (GapTo s) (got (at_place p leads (allow b s)))
    within e =
        let g : GapTo s (at_place p leads (allow b s)) = record { onward = f; indents_are = refl; levels_are = refl; count_is = refl; key = λ z. true_false (sym e ∙ z) } in
        holds g

    outside : (c : Candidate) → (c ≡ Absent) ⊎ ((c ≡ top_key s.keys) × Fresh p.mark (top_key s.keys))
        → All State (GapTo s) (got (with_keys (set_key c s.keys) (at_place p leads (allow b s))))
    outside c k =
        let g : GapTo s (with_keys (set_key c s.keys) (at_place p leads (allow b s))) = record { onward = f; indents_are = refl; levels_are = refl; count_is = refl; key = λ _. k } in
        holds g

gap_to : (s : State) → All State (GapTo s) (to_next_token s)
unfolding to_next_token
gap_to s = all_bind _ (skip_gap_fit _ _ _ (mark_of s) (rest_of s)) (λ g f. lapse_gap s g.place g.leading_whitespace g.simple_key_allowed f)

-- to show something of every step
pub step_within : {Q : News → Type 0} (limits : Limits) (s : State) → depth s ≤ limits.entries → 1 ≤ limits.entries
    → ((v : State) → GapTo s v → (w : News) → Moves (unrolled_state v) w → TakesOrEnds [] (unrolled_state v) w → Opened limits (unrolled_state v) w
    → Q (preceded (block_ends (unrolled v).ended (mark_of v)) w))
    → All News Q (step limits s)
unfolding step
step_within limits s d o h =
    all_bind _ (all_both (gap_to s) (gap_depth limits.entries s d))
    (λ v g. all_bind _
    (all_both (next_moves limits (unrolled_state v))
    (all_both (next_news [] limits (unrolled_state v)) (fetch_opened limits (choice (unrolled_state v)) (unrolled_state v) (unrolled_depth limits.entries v g.1) o)))
    (λ w k. holds (h v g.0 w k.0 k.1.0 k.1.1)))

-- what holds between two steps

-- of a candidate, so many tokens given, at that index: the tokens since it are as many as the characters at most, and 1,025
abbrev pub Near : ℕ → ℕ → Candidate → Type 0
Near count index Absent = Unit {0}
Near count index (Possible required k m) = (count + m.index ≤ index + k) × (count ≤ k + 1025)

pub record Brief (ks : List Candidate) (ls : List Level) (count index : ℕ) : Type 0 where
  pub level_0 : ls ≡ []
  pub near : Near count index (top_key ks)

-- a block fewer is open than the limit has entries, or the candidate is near
abbrev pub SpareAt : ℕ → Indents → List Candidate → List Level → ℕ → ℕ → Type 0
SpareAt room i ks ls count index = (suc (blocks_of i) ≤ room) ⊎ Brief ks ls count index

abbrev pub Spare : Limits → State → Type 0
Spare limits s = SpareAt limits.entries s.indents s.keys s.levels s.count (mark_of s).index

-- no candidate at level 0
quiet : (ks : List Candidate) (ls : List Level) (count index : ℕ) → ls ≡ [] → Brief (Absent ∷ ks) ls count index
unfolding top_key
quiet ks ls count index e = record { level_0 = e; near = tt }

saved_near : (count index : ℕ) (u : State) → count ≡ suc u.count → (mark_of u).index < index → Near count index (top_key u.keys) → Near count index (top_key (save_key u).keys)
unfolding save_key top_key
saved_near count index u c i h = by_pick (λ (t : State). Near count index (top_key t.keys)) u.simple_key_allowed _ u (omega arith, omega arith) h

-- behind the gap, before the token: the same, or the candidate is near enough for one more
abbrev Ready : ℕ → ℕ → State → Type 0
Ready room index u = (suc (blocks_of u.indents) ≤ room) ⊎ ((u.levels ≡ []) × Near (suc u.count) index (top_key u.keys))

begins_spare : {q : Place} {pair : Bool} {r : Rolled} {ls : List Level} {ks : List Candidate} (room count index : ℕ) (u : State) → Begins u q pair r ls → Ready room index u
    → SpareAt room r.indents (Absent ∷ ks) ls count index
unfolding in_flow
begins_spare {pair = pair} {r = r} {ls = ls} {ks = ks} room count index u b h = by_levels u.levels refl
  where
    inside : r ≡ record { starts = false; indents = u.indents } → (u.levels ≡ [] → ⊥) → Ready room index u → SpareAt room r.indents (Absent ∷ ks) ls count index
    inside e f (inl k) = inl (rw e k)
    inside e f (inr k) = absurd (f k.0)

    by_levels : (ms : List Level) → u.levels ≡ ms → SpareAt room r.indents (Absent ∷ ks) ls count index
    by_levels [] e = let k = rw e at b.enters in inr (quiet ks ls count index k.0)
    by_levels (l ∷ ms) e = inside (b.rolls.flows (rw e)) (λ f. let z : ◌≡◌ {A = ℕ} 0 1 = cc in omega arith) h

move_spare : (room count index : ℕ) (u : State) {t : Token} {q : Place} {es : List Event} {i : Indents} {ks : List Candidate} {ls : List Level} → Move u t q es i ks ls
    → count ≡ u.count + puts es → (mark_of u).index < index → ((ls ≡ [] → ⊥) → u.levels ≡ [] → suc (blocks_of i) ≤ room) → Ready room index u → SpareAt room i ks ls count index
unfolding puts on_level closes_level
move_spare room count index u (tells e same) c i o (inl h) = inl (omega (arith, same.blocks))
move_spare room count index u (tells e same) c i o (inr h) =
    let d : count ≡ suc u.count = omega arith in
    inr (record { level_0 = h.0; near = saved_near count index u d i (rw d h.1) })
move_spare room count index u (leaves e f) c i o (inl h) = inl (omega (arith, unroll_blocks 0 u.indents.indent u.indents.entries))
move_spare room count index u (leaves e f) c i o (inr h) = inr (quiet _ _ count index h.0)
move_spare room count index u (opens sequence e same) c i o (inl h) = inl (omega (arith, same.blocks))
move_spare room count index u (opens sequence e same) c i o (inr h) = inl (o (λ f. let z : ◌≡◌ {A = ℕ} 0 1 = cc in omega arith) h.0)
move_spare room count index u (closes sequence m e k) c i o (inl h) = inl h
move_spare room count index u (closes sequence m e k) c i o (inr h) = true_false (sym (rw h.0 at k))
move_spare room count index u (parts m e) c i o (inl h) = inl h
move_spare room count index u (parts m e) c i o (inr h) = inr (quiet _ _ count index (rw h.0))
move_spare room count index u (begins sequence m e b) c i o h = begins_spare room count index u b h
move_spare room count index u (uses e b k) c i o h = begins_spare room count index u b h

-- a step

at_level_0 : (s : State) → s.levels ≡ [] → in_flow s ≡ false
unfolding in_flow
at_level_0 s e = rw e

not_level_0 : (s : State) → (s.levels ≡ [] → ⊥) → in_flow s ≡ true
unfolding in_flow
not_level_0 s h = by_levels s.levels refl
  where
    by_levels : (ls : List Level) → s.levels ≡ ls → elim s.levels [ [] ↦ false | l ∷ ks ↦ true ] ≡ true
    by_levels [] e = absurd (h e)
    by_levels (l ∷ ls) e = rw e

-- one more is near enough: no block ended, or one fewer is open
near_more : (room index : ℕ) (s v : State) (c : Candidate) → GapTo s v → Fresh (mark_of v) c → Near s.count (mark_of s).index c → (mark_of v).index < index → depth s ≤ room
    → (suc (blocks_of (unrolled_state v).indents) ≤ room) ⊎ Near (suc (unrolled_state v).count) index c
near_more room index s v Absent g f n i d = inr tt
near_more room index s v (Possible required k m) g f n i d = by_ended (unrolled v).ended refl
  where
    blocks_are : blocks_of v.indents ≡ blocks_of s.indents
    blocks_are = ap (λ (j : Indents). blocks_of j) g.indents_are

    by_ended : (e : ℕ) → (unrolled v).ended ≡ e → (suc (blocks_of (unrolled_state v).indents) ≤ room) ⊎ Near (suc (unrolled_state v).count) index (Possible required k m)
    by_ended zero e = inr (omega (arith, n.0, g.onward.index_is, g.count_is), omega (arith, n.0, f.1, g.onward.index_is, g.count_is))
    by_ended (suc j) e = inl (omega (arith, unrolled_blocks v, blocks_are, blocks_depth s.indents.entries))

gap_ready : (room index : ℕ) (s v : State) → GapTo s v → (mark_of v).index < index → depth s ≤ room → SpareAt room s.indents s.keys s.levels s.count (mark_of s).index
    → Ready room index (unrolled_state v)
gap_ready room index s v g i d (inl h) =
    let e = ap (λ (j : Indents). blocks_of j) g.indents_are in
    inl (omega (arith, unrolled_blocks v))
gap_ready room index s v g i d (inr h) = by_key (g.key (at_level_0 s h.level_0))
  where
    by_more : (c : Candidate) → top_key v.keys ≡ c → (suc (blocks_of (unrolled_state v).indents) ≤ room) ⊎ Near (suc (unrolled_state v).count) index c → Ready room index (unrolled_state v)
    by_more c e (inl k) = inl k
    by_more c e (inr k) = inr (g.levels_are ∙ h.level_0, rw e k)

    by_key : (top_key v.keys ≡ Absent) ⊎ ((top_key v.keys ≡ top_key s.keys) × Fresh (mark_of v) (top_key s.keys)) → Ready room index (unrolled_state v)
    by_key (inl e) = inr (g.levels_are ∙ h.level_0, rw e tt)
    by_key (inr k) = by_more (top_key s.keys) k.0 (near_more room index s v (top_key s.keys) g k.1 h.near i d)

abbrev pub SpareOn : Limits → News → Type 0
SpareOn limits (goes_on es t) = Spare limits t
SpareOn limits (ends_with es) = Unit {0}

pub step_spare : (limits : Limits) (s : State) → depth s ≤ limits.entries → 1 ≤ limits.entries → Spare limits s → All News (SpareOn limits) (step limits s)
step_spare limits s d o h = step_within limits s d o by_news
  where
    by_news : (v : State) → GapTo s v → (w : News) → Moves (unrolled_state v) w → TakesOrEnds [] (unrolled_state v) w → Opened limits (unrolled_state v) w
        → SpareOn limits (preceded (block_ends (unrolled v).ended (mark_of v)) w)
    by_news v g (goes_on es t) m x p =
        let i : (mark_of v).index < (mark_of t).index = omega (arith, x.0, fits_left x.1, x.1.index_is) in
        move_spare limits.entries t.count (mark_of t).index (unrolled_state v) m.2 m.3 i
        (λ f z. p (at_level_0 (unrolled_state v) z) (not_level_0 t f)) (gap_ready limits.entries (mark_of t).index s v g i d h)
    by_news v g (ends_with es) m x p = tt
