-- Theorems about specs/Required, and what rests on them.
use Rattle.std.specs.Prelude.{◌<◌, Bool, ◌&&◌, ◌||◌, false, not, true, List, [], ◌∷◌, ◌⊎◌, ◌≡◌, refl, drop}
use Rattle.std.proofs.Math.Logic.{inl}
use Rattle.std.proofs.Common.{inr, sym, arith}
use Rattle.yaml_text.specs.declared.Mark.{Mark}
use Rattle.yaml_text.specs.Mark.{Place, skip_by}
use Rattle.yaml_text.specs.Refusal.{got}
use Rattle.yaml_text.specs.Test.{on_pick, true_false}
use Rattle.yaml_text.specs.All.{All, all_any, all_bind, all_both, all_need, all_test, holds, not_read}
use Rattle.yaml_text.specs.DecodeLaws.{NoNul, no_nul_drop}
use Rattle.yaml_text.specs.PlaceLaws.{FurtherOn, fits_no_nul}
use Rattle.yaml_lexeme.specs.Token.{FlowEntry}
use Rattle.yaml_lexeme.specs.Fits.{flow_scalar_fit, plain_fit}
use Rattle.yaml_lexeme.proofs.BlockFits.{block_scalar_fit}
use Rattle.yaml_lexeme.specs.TagFits.{anchor_fit, tag_fit}
use Rattle.yaml_lexeme.specs.Directive.{scan_directive}
use Rattle.yaml_scan.specs.declared.Candidate.{Candidate}
use Rattle.yaml_scan.specs.declared.Candidate.TheVariants.{Absent, Possible}
use Rattle.yaml_scan.specs.declared.Choice.{Choice}
use Rattle.yaml_scan.specs.declared.Choice.TheVariants.{AtAnchor, AtBlock, AtByteOrderMark, AtColon, AtComma, AtDash, AtDirective, AtEnd, AtMarker, AtPlain, AtQuestion, AtQuoted, AtTag, BelowIndent, Closes, Opens, Stray}
use Rattle.yaml_scan.specs.declared.Level.{Level}
use Rattle.yaml_scan.specs.declared.Limits.{Limits}
use Rattle.yaml_scan.specs.Indent.{drop_non_ending}
use Rattle.yaml_scan.specs.Keys.{is_required, set_key, top_key}
use Rattle.yaml_scan.specs.State.{Event, News, State, goes_on, in_flow, mark_of, on_level, remove_key, save_key}
use Rattle.yaml_scan.specs.Bracket.{closes_level, fetch_flow_collection_end, fetch_flow_collection_start, fetch_flow_entry, new_level, scan_bracket}
use Rattle.yaml_scan.specs.Value.{begins_pair, fetch_block_entry, fetch_key, roll_state, value_by, value_with, value_without}
use Rattle.yaml_scan.specs.Document.{after_marker, fetch_byte_order_mark, fetch_directive, fetch_document_indicator, fetch_stream_end, forced, leave_blocks}
use Rattle.yaml_scan.specs.Fetch.{fetch, fetch_anchor, fetch_block_scalar, fetch_flow_scalar, fetch_plain_scalar, fetch_tag}
use Rattle.yaml_scan.specs.Candidates.{Over}
use Rattle.yaml_scan.specs.Fetches.{behind_first, bracket_fit, save_key_place, stack_bracket_is}
use Rattle.yaml_scan.specs.ChoiceLaws.{ChoiceSays}
use Rattle.yaml_scan.specs.LinesOver.{block_scalar_over}
use Rattle.yaml_scan.specs.Required.{Held, BeforeToken, BetweenSteps, later, held_on, held_drop, held_without, inside, zero_passed, line_over, KeepsBetween}

held_level : (m : Mark) (f : Level → Level) (ks : List Candidate) (ls : List Level) → Held m ks ls → Held m ks (on_level f ls)
unfolding on_level
held_level m f ks [] h = h
held_level m f [] (l ∷ ls) h = tt
held_level m f (k ∷ ks) (l ∷ ls) h = h

kept : {s : State} {es : List Event} {t : State} → (FurtherOn (behind_first s.place) t.place → BeforeToken s → BetweenSteps t) → All News (KeepsBetween s) (got (goes_on es t))
kept {s} {es} {t} h = let k : KeepsBetween s (goes_on es t) = h in holds k

-- behind the first character
no_nul_behind : (p : Place) {q : Place} → FurtherOn (behind_first p) q → NoNul p.rest → NoNul q.rest
no_nul_behind p f n = fits_no_nul f (no_nul_drop 1 p.rest n)

-- the candidate goes
gone_by : (s : State) {es : List Event} {t : State} → t.keys ≡ set_key Absent s.keys
    → ((m : Mark) → Held m (set_key Absent s.keys) s.levels → Held m (set_key Absent s.keys) t.levels) → All News (KeepsBetween s) (got (goes_on es t))
unfolding top_key is_required
gone_by s {t = t} k l =
    kept (λ f h. record {
      held = rw k (l (mark_of t) (held_without (mark_of t) s.keys s.levels (held_on (mark_of s) (mark_of t) s.keys s.levels (later f) h.held)));
      waits = λ _ r. true_false (sym (rw k at r));
      no_nul = no_nul_behind s.place f h.no_nul;
    })

gone : (s : State) {es : List Event} {t : State} → t.keys ≡ set_key Absent s.keys → t.levels ≡ s.levels → All News (KeepsBetween s) (got (goes_on es t))
gone s k l = gone_by s k (λ m h. rw l h)

-- and its level is changed
gone_in : (s : State) (g : Level → Level) {es : List Event} {t : State} → t.keys ≡ set_key Absent s.keys → t.levels ≡ on_level g s.levels
    → All News (KeepsBetween s) (got (goes_on es t))
gone_in s g k l = gone_by s k (λ m h. rw l (held_level m g (set_key Absent s.keys) s.levels h))

-- a candidate is saved: in flow it is not required
saved_held : (s : State) (q : Place) → FurtherOn (skip_by 1 s.place) q → Held (mark_of s) s.keys s.levels → Held q.mark (save_key s).keys (save_key s).levels
unfolding save_key in_flow is_required
saved_held s q f h =
    on_pick (λ (u : State). Held q.mark u.keys u.levels) s.simple_key_allowed (λ _. by_level _ _ s.levels on) (λ _. on)
  where
    on : Held q.mark s.keys s.levels
    on = held_on (mark_of s) q.mark s.keys s.levels (f.line_on, λ e. omega (arith, f.col_on e)) h

    by_level : (a b : Bool) (ls : List Level) → Held q.mark s.keys ls
        → Held q.mark (set_key (Possible (not (inside ls) && a && b) s.count (mark_of s)) s.keys) ls
    by_level a b [] k = (f.line_on, λ e. omega (arith, f.col_on e))
    by_level a b (l ∷ ls) k = (refl, held_drop q.mark s.keys l ls k)

-- no other is allowed behind it
saves : {s : State} {es : List Event} {t : State} → FurtherOn (skip_by 1 s.place) t.place → t.keys ≡ (save_key s).keys → t.levels ≡ (save_key s).levels → t.simple_key_allowed ≡ false
    → All News (KeepsBetween s) (got (goes_on es t))
saves {s} {t = t} g k l a =
    kept (λ f h. record { held = rw (k, l) (saved_held s t.place g h.held); waits = λ _ _. inr (inl a); no_nul = no_nul_behind s.place f h.no_nul })

-- a block scalar's line is over
saved_over : (s : State) (m : Mark) → in_flow s ≡ false → Held (mark_of s) s.keys s.levels → (mark_of s).line < m.line → Over m (top_key (save_key s).keys)
unfolding save_key in_flow top_key
saved_over s m e h o =
    on_pick (λ (u : State). Over m (top_key u.keys)) s.simple_key_allowed (λ _. o) (λ _. line_over (mark_of s) m (top_key s.keys) o (zero_passed (mark_of s) s.keys s.levels e h))

block_keeps : (literal : Bool) (s : State) → in_flow s ≡ false → All News (KeepsBetween s) (fetch_block_scalar literal s)
unfolding fetch_block_scalar
block_keeps literal s e =
    let i = drop_non_ending s.indents.indent s.indents.entries in
    all_bind _ (all_both (block_scalar_fit literal i.indent s.place) (block_scalar_over literal i.indent s.place))
    (λ l b. kept (λ f h. record {
      held = saved_held s l.place b.0.onward h.held;
      waits = λ _ _. by_end (saved_over s l.place.mark e h.held) (b.1 h.no_nul);
      no_nul = no_nul_behind s.place f h.no_nul;
    }))
  where
    by_end : {A B C D : Type 0} → (A → B) → A ⊎ C → B ⊎ (D ⊎ C)
    by_end f (inl x) = inl (f x)
    by_end f (inr x) = inr (inr x)

opens_keeps : (limits : Limits) (sequence : Bool) (s : State) → All News (KeepsBetween s) (fetch_flow_collection_start limits sequence s)
unfolding fetch_flow_collection_start in_flow is_required
opens_keeps limits sequence s =
    all_bind _ (stack_bracket_is limits (save_key s))
    (λ t i. rw i.2 (all_need _ 28 _ _ (all_bind _ (bracket_fit _ (save_key s).place)
    (λ l r. kept (λ f h. record {
      held = (refl, saved_held s l.place (rw (save_key_place s) at r.onward) h.held);
      waits = λ e. true_false e;
      no_nul = no_nul_behind s.place f h.no_nul;
    })))))

closes_keeps : (sequence : Bool) (s : State) → All News (KeepsBetween s) (fetch_flow_collection_end sequence s)
unfolding fetch_flow_collection_end remove_key closes_level
closes_keeps sequence s =
    all_test _ 47 (mark_of s) _ (λ c. all_bind _ (bracket_fit _ s.place)
    (λ l r. kept (λ f h. record {
      held = outward l.place.mark s.levels c (held_on (mark_of s) l.place.mark s.keys s.levels (later f) h.held);
      waits = λ _ _. inr (inl refl);
      no_nul = no_nul_behind s.place f h.no_nul;
    })))
  where
    outward : (m : Mark) (ls : List Level) → closes_level sequence ls ≡ true → Held m s.keys ls → Held m (drop 1 s.keys) (drop 1 ls)
    outward m [] c h = true_false (sym c)
    outward m (l ∷ ls) c h = held_drop m s.keys l ls h

-- what ':' makes of its level
abbrev with_colon : List Level → Level → Level
with_colon ls l = record { sequence = l.sequence; colon = true; question = l.question; implicit = l.implicit || begins_pair ls }

value_by_keeps : (limits : Limits) (k : Candidate) (s : State) → All News (KeepsBetween s) (value_by limits k s)
unfolding value_by value_with value_without
value_by_keeps limits Absent s =
    all_need _ 46 (mark_of s) _ (all_bind _ (all_any (roll_state limits (mark_of s) s)) (λ r _. gone_in s (with_colon s.levels) refl refl))
value_by_keeps limits (Possible required n k) s = all_bind _ (all_any (roll_state limits k s)) (λ r _. gone_in s (with_colon s.levels) refl refl)

pub fetch_keeps : (limits : Limits) (c : Choice) (s : State) → ChoiceSays c s → All News (KeepsBetween s) (fetch limits c s)
unfolding fetch fetch_directive fetch_byte_order_mark fetch_document_indicator fetch_stream_end fetch_flow_entry fetch_block_entry fetch_key fetch_tag fetch_plain_scalar
    fetch_anchor fetch_flow_scalar leave_blocks remove_key
fetch_keeps limits AtEnd s h = all_need _ 47 (mark_of s) _ (all_need _ 41 (forced (mark_of s)) _ (holds tt))
fetch_keeps limits AtDirective s h = all_bind _ (all_any (scan_directive s.place)) (λ l _. gone s refl refl)
fetch_keeps limits AtByteOrderMark s h = gone s refl refl
fetch_keeps limits BelowIndent s h = not_read
fetch_keeps limits Stray s h = not_read
fetch_keeps limits (AtMarker starts) s h =
    all_need _ 47 (mark_of s) _ (all_bind _ (all_any (after_marker starts (skip_by 3 s.place))) (λ p _. gone s refl refl))
fetch_keeps limits (Opens sequence) s h = opens_keeps limits sequence s
fetch_keeps limits (Closes sequence) s h = closes_keeps sequence s
fetch_keeps limits AtComma s h = all_bind _ (all_any (scan_bracket FlowEntry s.place)) (λ l _. gone_in s (λ l. new_level l.sequence) refl refl)
fetch_keeps limits AtDash s h =
    all_need _ 46 (mark_of s) _ (all_bind _ (all_any (roll_state limits (mark_of s) s)) (λ r _. gone s refl refl))
fetch_keeps limits AtQuestion s h =
    all_need _ 46 (mark_of s) _ (all_bind _ (all_any (roll_state limits (mark_of s) s)) (λ r _. gone_in s (λ l. record { sequence = l.sequence; colon = l.colon; question = true; implicit = l.implicit }) refl refl))
fetch_keeps limits AtColon s h = value_by_keeps limits (top_key s.keys) s
fetch_keeps limits AtTag s h = all_bind _ (tag_fit (in_flow s) s.place) (λ l r. saves r.onward refl refl refl)
fetch_keeps limits AtPlain s h = saves (plain_fit (in_flow s) s.place).onward refl refl refl
fetch_keeps limits (AtAnchor alias) s h = all_bind _ (anchor_fit alias s.place) (λ l r. saves r.onward refl refl refl)
fetch_keeps limits (AtBlock literal) s h = block_keeps literal s h
fetch_keeps limits (AtQuoted single) s h =
    all_bind _ (flow_scalar_fit (in_flow s) single s.indents.indent s.place) (λ l r. saves r.onward refl refl refl)
