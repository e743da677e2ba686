-- Theorems about specs/Tight, and what rests on them.
use Rattle.std.specs.Prelude.{◌+◌, ◌≤◌, suc, ℕ, Bool, false, true, List, [], ◌++◌, ◌∷◌, ◌⊎◌, ◌≡◌, refl, eqb, drop, length}
use Rattle.std.proofs.Common.{inl, inr, ◌∙◌, ap, sym, arith, eqb-true}
use Rattle.yaml_text.specs.declared.Mark.{Mark}
use Rattle.yaml_text.specs.Mark.{Place, edge_of}
use Rattle.yaml_text.specs.Refusal.{got}
use Rattle.yaml_text.specs.Test.{by_test, true_false}
use Rattle.yaml_text.specs.All.{All, all_both, all_got}
use Rattle.yaml_lexeme.specs.Token.{FlowMappingEnd, FlowMappingStart, StreamEnd, Token, empty_token}
use Rattle.yaml_lexeme.specs.Role.{Open}
use Rattle.yaml_scan.specs.declared.Candidate.{Candidate}
use Rattle.yaml_scan.specs.declared.Candidate.TheVariants.{Absent, Possible}
use Rattle.yaml_scan.specs.declared.Level.{Level}
use Rattle.yaml_scan.specs.declared.Limits.{Limits}
use Rattle.yaml_scan.specs.Indent.{Indents}
use Rattle.yaml_scan.specs.IndentLaws.{blocks_of, same_refl, unroll_blocks, unroll_none}
use Rattle.yaml_scan.specs.Keys.{top_key}
use Rattle.yaml_scan.specs.State.{Event, News, State, block_ends, empty_if, ends_with, goes_on, in_flow, mark_of, preceded, unroll_to}
use Rattle.yaml_scan.specs.Bracket.{implicit_open}
use Rattle.yaml_scan.specs.Document.{all_ends}
use Rattle.yaml_scan.specs.Scan.{standard, step, unrolled}
use Rattle.yaml_scan.specs.Slots.{Slot, flat, slots}
use Rattle.yaml_scan.specs.SlotLaws.{total}
use Rattle.yaml_scan.specs.Budget.{on_news}
use Rattle.yaml_scan.specs.Runs.{TakesOrEnds}
use Rattle.yaml_scan.specs.Moves.{Move, Moves, begins, block_start, closes, leaves, opens, pair_end, parts, tells, uses}
use Rattle.yaml_scan.specs.Steps.{one_most, unrolled_state}
use Rattle.yaml_scan.proofs.Steps.{unrolled_blocks}
use Rattle.theorems.specs.Opened.{Built, Stays, outside}
use Rattle.theorems.specs.NestingMoves.{Stands, goes_to, zero_level}
use Rattle.theorems.specs.NestingSteps.{begin_stands, unrolled_in, unrolled_out}
use Rattle.theorems.proofs.NestingSteps.{step_stands}
use Rattle.yaml_stream.specs.Stream.{Stream, after_news, behind, broken, closing, fresh, give, most_waiting, possible, ready, scanning, stepped, waits}
use Rattle.yaml_stream.specs.Sizes.{total_append}
use Rattle.yaml_stream.specs.Waits.{waits_total}
use Rattle.yaml_stream.specs.Changes.{behind_by, fresh_by}
use Rattle.yaml_stream.proofs.Changes.{give_by}
use Rattle.yaml_stream.specs.Depth.{depth}
use Rattle.yaml_stream.specs.Totals.{blocks_depth, goes_in_length, not_both, total_ends, total_if, total_then}
use Rattle.yaml_stream.specs.Waiting.{Held, StreamKeeps, StreamReaches, fresh_keeps, here, not_false, then_give, then_step}
use Rattle.yaml_stream.proofs.Waiting.{few_before, reaches_keeps}
use Rattle.yaml_stream.specs.Alone.{Absents, absents_not}
use Rattle.yaml_stream.specs.Here.{levelled_alone}
use Rattle.yaml_stream.specs.Opened.{Opened}
use Rattle.yaml_stream.specs.Spare.{Brief, Fresh, GapTo, Near, Spare, step_spare, step_within}
use Rattle.yaml_stream.specs.Tight.{Thin, thin_waits, thin_flat, step_thin, Tight, Tightly}

-- a ':' that uses up a candidate; u: the state behind the gap
abbrev Uses : State → List Event → Type 0
Uses u es = (total es ≤ 3) × (required : Bool) × (n : ℕ) × (m : Mark) × (top_key u.keys ≡ Possible required n m)

move_adds : (u : State) {t : Token} {q : Place} {es : List Event} {i : Indents} {ks : List Candidate} {ls : List Level} → Move u t q es i ks ls
    → (total es ≤ blocks_of u.indents + 2) ⊎ Uses u es
unfolding total
move_adds u (tells e same) = inl (omega arith)
move_adds u {t} (leaves e f) =
    inl (omega (arith, total_then (all_ends u) t, total_ends (unroll_to 0 u).ended (mark_of u), unroll_blocks 0 u.indents.indent u.indents.entries))
move_adds u (opens sequence e same) = inl (omega arith)
move_adds u {t} (closes sequence m e c) =
    inl (omega (arith, total_then (pair_end m u) t, total_if (implicit_open u.levels) FlowMappingEnd m, one_most (implicit_open u.levels)))
move_adds u {t} (parts m e) =
    inl (omega (arith, total_then (pair_end m u) t, total_if (implicit_open u.levels) FlowMappingEnd m, one_most (implicit_open u.levels)))
move_adds u {t} (begins {pair = p} {r = r} sequence m e b) =
    let fs = empty_if p FlowMappingStart m in
    let gs = empty_if r.starts (block_start sequence) m in
    inl (omega (arith, total_then (fs ++ gs) t, total_append fs gs, total_if p FlowMappingStart m, total_if r.starts (block_start sequence) m, not_both b))
move_adds u (uses {pair = p} {required = required} {n = n} {m = m} {r = r} e b c) = inr (omega (arith, goes_in_length p r.starts m, not_both b), required, n, m, c)

stays_top : {i : Indents} {m : Mark} {xs : List Slot} {u : List Open} {n : ℕ} {ks : List Candidate} → Built i m xs u n ks [] → Stays i m (top_key ks)
unfolding top_key
stays_top (outside h s l) = s

-- the candidate stands at the innermost block's column or behind it, and before the mark in its line
same_line : (v : State) (required : Bool) (n : ℕ) (k : Mark) → Stays v.indents (mark_of v) (Possible required n k) → Fresh (mark_of v) (Possible required n k)
    → (unroll_to (edge_of (mark_of v)) v).ended ≡ 0
same_line v required n k st f =
    let over = f.0 in
    let l = st.1 in
    (unroll_none (edge_of (mark_of v)) v.indents.indent v.indents.entries (omega (arith, st.0, st.2 (omega arith)))).0

none_ends : (s v : State) (ys : List Slot) (required : Bool) (n : ℕ) (k : Mark) → Stands s ys → GapTo s v → top_key v.keys ≡ Possible required n k → (unrolled v).ended ≡ 0
unfolding in_flow
none_ends s v ys required n k h g e = by_test (in_flow v) (λ z. rw (unrolled_in v z)) (λ z. rw (unrolled_out v z) (level_0 z (g.key (flat_level z))))
  where
    flat_level : in_flow v ≡ false → in_flow s ≡ false
    flat_level z = rw g.levels_are at z

    level_0 : in_flow v ≡ false → (top_key v.keys ≡ Absent) ⊎ ((top_key v.keys ≡ top_key s.keys) × Fresh (mark_of v) (top_key s.keys))
        → (unroll_to (edge_of (mark_of v)) v).ended ≡ 0
    level_0 z (inl a) = let q : ◌≡◌ {A = ℕ} 0 1 = cc in absurd (omega arith)
    level_0 z (inr a) =
        let c : top_key s.keys ≡ Possible required n k = sym a.0 ∙ e in
        let b : Built s.indents (mark_of s) ys [] (length ys) s.keys [] = rw (zero_level s (flat_level z)) at h.built in
        let st : Stays s.indents (mark_of v) (top_key s.keys) = (goes_to (same_refl s.indents) g.onward).stays (top_key s.keys) (stays_top b) in
        same_line v required n k (rw g.indents_are (rw c at st)) (rw c at a.1)

-- so a step says at most two tokens besides the ends of the blocks that are open, or three in all
abbrev Says : State → News → Type 0
Says s (goes_on es t) = (total es ≤ blocks_of s.indents + 2) ⊎ (total es ≤ 3)
Says s (ends_with es) = (total es ≤ blocks_of s.indents + 2) ⊎ (total es ≤ 3)

step_says : (limits : Limits) (s : State) (ys : List Slot) → depth s ≤ limits.entries → 1 ≤ limits.entries → Stands s ys → All News (Says s) (step limits s)
step_says limits s ys d o h = step_within limits s d o by_news
  where
    by_move : (v : State) (es : List Event) → GapTo s v → (total es ≤ blocks_of (unrolled_state v).indents + 2) ⊎ Uses (unrolled_state v) es
        → (total (block_ends (unrolled v).ended (mark_of v) ++ es) ≤ blocks_of s.indents + 2) ⊎ (total (block_ends (unrolled v).ended (mark_of v) ++ es) ≤ 3)
    by_move v es g (inl k) =
        let i = ap (λ (j : Indents). blocks_of j) g.indents_are in
        inl (omega (arith, total_append (block_ends (unrolled v).ended (mark_of v)) es, total_ends (unrolled v).ended (mark_of v), unrolled_blocks v))
    by_move v es g (inr k) =
        let z = none_ends s v ys k.1 k.2 k.3 h g k.4 in
        inr (omega (arith, total_append (block_ends (unrolled v).ended (mark_of v)) es, total_ends (unrolled v).ended (mark_of v), k.0))

    by_news : (v : State) → GapTo s v → (w : News) → Moves (unrolled_state v) w → TakesOrEnds [] (unrolled_state v) w → Opened limits (unrolled_state v) w
        → Says s (preceded (block_ends (unrolled v).ended (mark_of v)) w)
    by_news v g (goes_on es t) m x p = by_move v es g (move_adds (unrolled_state v) m.2)
    by_news v g (ends_with es) m x p =
        let n = (unroll_to 0 (unrolled_state v)).ended in
        let e = ap (λ (fs : List Event). total fs) m.2 in
        by_move v es g (inl (omega (
          arith,
          total_then (block_ends n m.0) (empty_token StreamEnd m.0),
          total_ends n m.0,
          unroll_blocks 0 (unrolled_state v).indents.indent (unrolled_state v).indents.entries,
        )))

behind_tight : (limits : Limits) (room : ℕ) (s : State) (n : ℕ) (xs : List Slot) (used : ℕ) → Tight limits s xs → Tightly limits (behind room s n xs used)
behind_tight limits room s n xs used h = behind_by (Tightly limits) room s n xs used tt (λ _. tt) (λ _. h)

scanned_tight : (limits : Limits) (room : ℕ) (s : State) (n : ℕ) (xs : List Slot) (used : ℕ) → 1 ≤ limits.entries → depth s ≤ limits.entries → Tight limits s xs
    → Tightly limits (after_news room n xs used (step limits s))
scanned_tight limits room s n xs used o d h =
    on_news (λ w. Tightly limits (after_news room n xs used w))
    (all_both (step_stands limits s) (all_both (step_spare limits s d o h.spare) (step_thin limits s)))
    (λ es t i. behind_tight limits room t n (waits n xs es) _
    (record { all = slots h.all es; stands = i.0 h.all h.stands; spare = i.1.0; thin = thin_waits n xs es i.1.1 h.thin }))
    (λ _ _. tt) (λ _ _. tt)

stepped_tight : (limits : Limits) (room : ℕ) (x : Stream) → 1 ≤ limits.entries → StreamKeeps limits x → Tightly limits x → Tightly limits (stepped limits room x)
unfolding stepped
stepped_tight limits room (scanning s n xs used) o k h = scanned_tight limits room s n xs used o k.shallow h
stepped_tight limits room (closing xs) o k h = tt
stepped_tight limits room (broken j m) o k h = tt

give_tight : (limits : Limits) (x : Stream) → Tightly limits x → Tightly limits (give x).stream
give_tight limits x h =
    give_by (Tightly limits)
    (λ s n used b bs t xs k. record { all = k.all; stands = k.stands; spare = k.spare; thin = (omega (arith, k.thin.0), k.thin.1) })
    (λ s n used t xs e k. record { all = k.all; stands = k.stands; spare = k.spare; thin = k.thin.1 })
    (λ b bs t xs k. tt) (λ t xs k. tt) x h

fresh_tight : (limits : Limits) (bytes : List ℕ) (words : ℕ) → Tightly limits (fresh limits bytes words)
unfolding top_key
fresh_tight limits bytes words =
    fresh_by (Tightly limits) limits bytes words tt tt (λ k m. tt)
    (λ cs _. record { all = _; stands = begin_stands cs; spare = inr (record { level_0 = refl; near = tt }); thin = (omega arith, tt) })

reaches_tight : (limits : Limits) (room : ℕ) {x y : Stream} → 1 ≤ limits.entries → StreamKeeps limits x → Tightly limits x → StreamReaches limits room x y → Tightly limits y
reaches_tight limits room o k h here = h
reaches_tight limits room o k h (then_step {y = y} r e) = stepped_tight limits room y o (reaches_keeps limits room k r) (reaches_tight limits room o k h r)
reaches_tight limits room o k h (then_give {y = y} r) = give_tight limits y (reaches_tight limits room o k h r)

only_top : (n : ℕ) (ks : List Candidate) → possible n ks ≡ true → Absents (drop 1 ks) → (required : Bool) × (m : Mark) × (top_key ks ≡ Possible required n m)
unfolding possible top_key
only_top n [] e h = true_false (sym e)
only_top n (Absent ∷ ks) e h = true_false (sym (sym (absents_not n ks h) ∙ e))
only_top n (Possible required k m ∷ ks) e h =
    by_test (eqb n k)
    (λ i. let j : k ≡ n = sym (eqb-true n k i) in (required, m, rw j))
    (λ i. let z : possible n ks ≡ true = rw i at e in true_false (sym (sym (absents_not n ks h) ∙ z)))

brief_few : (limits : Limits) (s : State) (n used : ℕ) (xs : List Slot) → Held limits s n xs → Thin xs → Brief s.keys s.levels s.count (mark_of s).index
    → ready (scanning s n xs used) ≡ false → length (flat xs) ≤ 3075
unfolding ready flat in_flow
brief_few limits s n used [] h t b r = omega arith
brief_few limits s n used (x ∷ xs) h t b r =
    let p = not_false (possible n s.keys) r in
    let a = levelled_alone s h.levelled (rw b.level_0) in
    let o = only_top n s.keys p a in
    let c : Near s.count (mark_of s).index (Possible o.0 n o.1) = rw o.2 at b.near in
    omega (arith, thin_flat (x ∷ xs) t, c.1, h.counted)

-- m more at most: one more than the limit of entries, and three at least
tight_few : (limits : Limits) (s : State) (n used m : ℕ) (xs : List Slot) (es : List Event) → suc limits.entries ≤ m → 3 ≤ m → Held limits s n xs → Tight limits s xs
    → ready (scanning s n xs used) ≡ false → (total es ≤ blocks_of s.indents + 2) ⊎ (total es ≤ 3) → length (flat (waits n xs es)) ≤ most_waiting + m
tight_few limits s n used m xs es o c h k r (inr t) = omega (arith, few_before used h r, waits_total n xs es)
tight_few limits s n used m xs es o c h k r (inl t) = by_spare k.spare
  where
    by_spare : Spare limits s → length (flat (waits n xs es)) ≤ most_waiting + m
    by_spare (inl b) = omega (arith, few_before used h r, waits_total n xs es)
    by_spare (inr b) = omega (arith, brief_few limits s n used xs h k.thin b r, waits_total n xs es, blocks_depth s.indents.entries, h.shallow)

module _ (limits : Limits) (bytes : List ℕ) (words room : ℕ) (some : 1 ≤ limits.entries) where
  -- behind a step
  pub waiting_behind : {s : State} {n used : ℕ} {xs : List Slot} (m : ℕ) → suc limits.entries ≤ m → 3 ≤ m → StreamReaches limits room (fresh limits bytes words) (scanning s n xs used)
      → ready (scanning s n xs used) ≡ false → (es : List Event) (t : State) → step limits s ≡ got (goes_on es t) → length (flat (waits n xs es)) ≤ most_waiting + m
  waiting_behind {s = s} {n = n} {used = used} {xs = xs} m o c r e es t f =
      let h = reaches_keeps limits room (fresh_keeps limits bytes words) r in
      let k = reaches_tight limits room some (fresh_keeps limits bytes words) (fresh_tight limits bytes words) r in
      tight_few limits s n used m xs es o c h k e (all_got (step_says limits s k.all h.shallow some k.stands) f)

  -- and behind the last
  pub waiting_at_end : {s : State} {n used : ℕ} {xs : List Slot} (m : ℕ) → suc limits.entries ≤ m → 3 ≤ m → StreamReaches limits room (fresh limits bytes words) (scanning s n xs used)
      → ready (scanning s n xs used) ≡ false → (es : List Event) → step limits s ≡ got (ends_with es) → length (flat (waits n xs es)) ≤ most_waiting + m
  waiting_at_end {s = s} {n = n} {used = used} {xs = xs} m o c r e es f =
      let h = reaches_keeps limits room (fresh_keeps limits bytes words) r in
      let k = reaches_tight limits room some (fresh_keeps limits bytes words) (fresh_tight limits bytes words) r in
      tight_few limits s n used m xs es o c h k e (all_got (step_says limits s k.all h.shallow some k.stands) f)

-- under 01's limits at most 4,352 wait
pub standard_behind : (bytes : List ℕ) (words room : ℕ) {s : State} {n used : ℕ} {xs : List Slot} → StreamReaches standard room (fresh standard bytes words) (scanning s n xs used)
    → ready (scanning s n xs used) ≡ false → (es : List Event) (t : State) → step standard s ≡ got (goes_on es t) → length (flat (waits n xs es)) ≤ 4_352
standard_behind bytes words room r e es t f = waiting_behind standard bytes words room (omega arith) 256 (omega arith) (omega arith) r e es t f

pub standard_at_end : (bytes : List ℕ) (words room : ℕ) {s : State} {n used : ℕ} {xs : List Slot} → StreamReaches standard room (fresh standard bytes words) (scanning s n xs used)
    → ready (scanning s n xs used) ≡ false → (es : List Event) → step standard s ≡ got (ends_with es) → length (flat (waits n xs es)) ≤ 4_352
standard_at_end bytes words room r e es f = waiting_at_end standard bytes words room (omega arith) 256 (omega arith) (omega arith) r e es f
