-- Theorems about specs/NestingSteps, and what rests on them.
use Rattle.std.specs.Prelude.{◌<◌, ℕ, false, true, List, [], ◌++◌, ◌∷◌, ◌≡◌, length}
use Rattle.std.proofs.Common.{◌∙◌, sym, le_refl, arith}
use Rattle.yaml_text.specs.declared.Mark.{Mark}
use Rattle.yaml_text.specs.Mark.{Place, edge_of, origin}
use Rattle.yaml_text.specs.Test.{by_test, true_false}
use Rattle.yaml_text.specs.All.{All}
use Rattle.yaml_text.specs.PlaceLaws.{FurtherOn, fits_refl}
use Rattle.yaml_lexeme.specs.Token.{StreamEnd, StreamStart, Token, empty_token}
use Rattle.yaml_lexeme.specs.Role.{Open}
use Rattle.yaml_scan.specs.declared.Candidate.{Candidate}
use Rattle.yaml_scan.specs.declared.Candidate.TheVariants.{Absent, Possible}
use Rattle.yaml_scan.specs.declared.Level.{Level}
use Rattle.yaml_scan.specs.declared.Limits.{Limits}
use Rattle.yaml_scan.specs.Indent.{Indents, unroll}
use Rattle.yaml_scan.specs.IndentLaws.{Rises, Same, same_refl, unroll_all, unroll_blocks, unroll_none, unroll_rises, unroll_within}
use Rattle.yaml_scan.specs.Keys.{top_key}
use Rattle.yaml_scan.specs.State.{Event, News, State, block_ends, ends_with, goes_on, in_flow, mark_of, preceded, put, unroll_to}
use Rattle.yaml_scan.specs.Scan.{outcome, scanned, step, unrolled}
use Rattle.yaml_scan.specs.Candidates.{Over}
use Rattle.yaml_scan.specs.Slots.{Slot, flat, slot, slots, tokens_of}
use Rattle.yaml_scan.specs.SlotLaws.{flat_append, slots_append, slots_length}
use Rattle.yaml_scan.specs.Moves.{Move, Moves, begins, closes, leaves, opens, parts, tells, uses}
use Rattle.yaml_scan.specs.Steps.{Gapped, Takes, gapped, inside, lapses, stays, unrolled_state}
use Rattle.yaml_scan.proofs.Steps.{step_by}
use Rattle.yaml_scan.specs.Runs.{puts_ends}
use Rattle.theorems.specs.Induction.{outcome_good}
use Rattle.theorems.specs.NestedLaws.{silent}
use Rattle.theorems.specs.Opened.{Built, built_says, built_top, built_without, outside}
use Rattle.theorems.specs.NestingMoves.{AtEdge, Stands, at_zero, ends_lead, ends_turn, goes_to, zero_level}
use Rattle.theorems.proofs.NestingMoves.{move_builds}
use Rattle.theorems.specs.NestingSteps.{unrolled_in, unrolled_out, Closes, StandsOn, begin_stands}

-- a candidate that is left at the mark m is of this line
abbrev Calm : Mark → Candidate → Type 0
Calm m Absent = Unit {0}
Calm m (Possible required n k) = k.line < m.line → ⊥

calm : (m : Mark) (c : Candidate) → (Over m c → ⊥) → Calm m c
calm m Absent h = tt
calm m (Possible required n k) h = h

-- the same slots, further on
further : {i : Indents} {p q : Place} {xs : List Slot} {u : List Open} {n : ℕ} {ks : List Candidate} {ls : List Level} → FurtherOn p q → Built i p.mark xs u n ks ls → Built i q.mark xs u n ks ls
unfolding slots
further {xs = xs} {u = u} {n = n} f h = built_says {es = []} u u xs (le_refl n) (λ os. silent) (goes_to (same_refl _) f) h

gap_stands : {s t : State} {xs : List Slot} → Gapped s t → Stands s xs → Stands t xs × (in_flow t ≡ false → Calm (mark_of t) (top_key t.keys))
unfolding in_flow top_key
gap_stands (gapped f spares (inside e)) h = (record { counted = h.counted; rises = h.rises; built = further f h.built }, λ z. true_false (sym e ∙ z))
gap_stands (gapped f spares (lapses e)) h = (record { counted = h.counted; rises = h.rises; built = further f (built_without h.built) }, λ _. tt)
gap_stands {s} {t} (gapped f spares (stays e k)) h = (record { counted = h.counted; rises = h.rises; built = further f (built_top h.built) }, λ _. calm (mark_of t) (top_key s.keys) k)

-- at level 0; while a candidate is left none ends
ends_build : {xs : List Slot} {ks : List Candidate} (i : Indents) (p : Place) (c : Candidate) → Calm p.mark c → Built i p.mark xs [] (length xs) (c ∷ ks) []
    → let u = unroll (edge_of p.mark) i.indent i.entries in
    let ys = slots xs (block_ends u.ended p.mark) in
    Built u.indents p.mark ys [] (length ys) (c ∷ ks) []
unfolding slots
ends_build {xs} i p Absent k (outside h s l) =
    outside tt tt (ends_lead (edge_of p.mark) i xs (ends_turn (unroll (edge_of p.mark) i.indent i.entries).ended p.mark) l)
ends_build {xs} i p (Possible required n m) k (outside h s l) =
    let edge = edge_of p.mark in
    let e = unroll_none edge i.indent i.entries (omega (arith, s.2 (omega arith))) in
    let same : Same i (unroll edge i.indent i.entries).indents =
    record { blocks = omega (arith, e.0, unroll_blocks edge i.indent i.entries); at = e.1; rises = unroll_rises edge i.indent i.entries } in
    rw e.0 (built_says {es = []} [] [] xs (le_refl (length xs)) (λ os. silent) (goes_to same (fits_refl p)) (outside {c = Possible required n m} h s l))

zero_build : {i : Indents} {xs : List Slot} {ks : List Candidate} (p : Place) → Calm p.mark (top_key ks) → Built i p.mark xs [] (length xs) ks []
    → let u = unroll (edge_of p.mark) i.indent i.entries in
    let ys = slots xs (block_ends u.ended p.mark) in
    Built u.indents p.mark ys [] (length ys) ks []
unfolding top_key
zero_build {i} p k (outside {c = c} h s l) = ends_build i p c k (outside {c = c} h s l)

not_zero : (t : State) → in_flow t ≡ true → t.levels ≡ [] → ⊥
unfolding in_flow
not_zero t e z = true_false (sym (rw z at e))

unrolled_stands : (t : State) (xs : List Slot) → Stands t xs → (in_flow t ≡ false → Calm (mark_of t) (top_key t.keys))
    → Stands (unrolled_state t) (slots xs (block_ends (unrolled t).ended (mark_of t))) × AtEdge (unrolled_state t)
unfolding slots
unrolled_stands t xs h c =
    let n = (unroll_to (edge_of (mark_of t)) t).ended in
    by_test (in_flow t)
    (λ e. rw (unrolled_in t e) (record { counted = omega (arith, h.counted); rises = h.rises; built = h.built }, λ z. absurd (not_zero t e z)))
    (λ e. rw (unrolled_out t e) (
      record {
        counted = omega (arith, h.counted, slots_length xs (block_ends n (mark_of t)), puts_ends n (mark_of t));
        rises = unroll_rises _ t.indents.indent t.indents.entries h.rises;
        built = rw (zero_level t e) (zero_build t.place (c e) (rw (zero_level t e) at h.built));
      },
      λ _. unroll_within _ t.indents.indent t.indents.entries h.rises,
    ))

abbrev Good : State → List Event → Type 0
Good s fs = (xs : List Slot) → Stands s xs → Closes (flat (slots xs fs))

abbrev Ready : State → List Event → Type 0
Ready s fs = (xs : List Slot) → Stands s xs → AtEdge s → Closes (flat (slots xs fs))

gap_nested : (s t : State) (fs : List Event) → Gapped s t → Ready (unrolled_state t) fs → Good s (block_ends (unrolled t).ended (mark_of t) ++ fs)
gap_nested s t fs g r xs h =
    let k = gap_stands g h in
    let b = unrolled_stands t xs k.0 k.1 in
    rw (slots_append xs (block_ends (unrolled t).ended (mark_of t)) fs) (r (slots xs (block_ends (unrolled t).ended (mark_of t))) b.0 b.1)

move_rises : {s : State} {t : Token} {q : Place} {es : List Event} {i : Indents} {ks : List Candidate} {ls : List Level} → Move s t q es i ks ls → Rises s.indents → Rises i
move_rises (tells e same) r = same.rises r
move_rises {s} (leaves e f) r = unroll_rises 0 s.indents.indent s.indents.entries r
move_rises (opens sequence e same) r = same.rises r
move_rises (closes sequence m e c) r = r
move_rises (parts m e) r = r
move_rises (begins sequence m e b) r = b.rolls.rises r
move_rises (uses e b k) r = b.rolls.rises r

move_stands : (s u : State) (es : List Event) → Moves s (goes_on es u) → Takes s (goes_on es u) → (xs : List Slot) → Stands s xs → AtEdge s → Stands u (slots xs es)
move_stands s u es m k xs h edge =
    record {
      counted = omega (arith, m.3, h.counted, slots_length xs es);
      rises = move_rises m.2 h.rises;
      built = move_builds s m.0 u.place xs k.1 m.2 h edge;
    }

move_nested : (s u : State) (es fs : List Event) → Moves s (goes_on es u) → Takes s (goes_on es u) → Good u fs → Ready s (es ++ fs)
move_nested s u es fs m k g xs h edge = rw (slots_append xs es fs) (g (slots xs es) (move_stands s u es m k xs h edge))

end_nested : (s : State) (es : List Event) → Moves s (ends_with es) → Ready s es
unfolding slots flat
end_nested s es m xs h edge =
    let t = empty_token StreamEnd m.0 in
    let bs = block_ends (unroll_to 0 s).ended m.0 in
    let l = ends_lead 0 s.indents xs (ends_turn (unroll_to 0 s).ended m.0) (at_zero (rw (zero_level s m.1) at h.built)) [] in (
      flat (slots xs bs),
      m.0,
      rw (m.2, slots_append xs bs (put t ∷ []), flat_append (slots xs bs) (slot t [] ∷ [])),
      rw (unroll_all s.indents.indent s.indents.entries h.rises) at l,
    )

pub step_stands : (limits : Limits) (s : State) → All News (StandsOn s) (step limits s)
step_stands limits s = step_by limits s by_news
  where
    by_news : (t : State) → Gapped s t → (w : News) → Moves (unrolled_state t) w → Takes (unrolled_state t) w → StandsOn s (preceded (block_ends (unrolled t).ended (mark_of t)) w)
    by_news t g (goes_on es u) m k = λ xs h.
        let bs = block_ends (unrolled t).ended (mark_of t) in
        let j = gap_stands g h in
        let b = unrolled_stands t xs j.0 j.1 in
        rw (slots_append xs bs es) (move_stands (unrolled_state t) u es m k (slots xs bs) b.0 b.1)
    by_news t g (ends_with es) m k = gap_nested s t es g (end_nested (unrolled_state t) es m)

pub scan_nested : (limits : Limits) (bytes : List ℕ) (es : List Event) → outcome limits bytes ≡ scanned es → Closes (tokens_of es)
unfolding slots
scan_nested limits bytes es e =
    let r = outcome_good limits Good Ready gap_nested move_nested end_nested bytes es e in
    let xs : List Slot = slot (empty_token StreamStart origin) [] ∷ [] in
    rw r.whole (r.good xs (begin_stands r.text))
