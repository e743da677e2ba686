-- Theorems about specs/FetchLeaves, and what rests on them.
use Rattle.std.specs.Prelude.{◌+◌, ◌≤◌, ◌<◌, ℕ, Bool, ◌&&◌, ◌||◌, false, not, true, List, [], ◌++◌, ◌∷◌, ◌⊎◌, ◌≡◌, refl, leb, ltb, drop}
use Rattle.std.proofs.Common.{inl, inr, ◌∙◌, ap, sym, arith}
use Rattle.yaml_text.specs.declared.Mark.{Mark}
use Rattle.yaml_text.specs.Pick.{pick}
use Rattle.yaml_text.specs.Class.{none_left, same}
use Rattle.yaml_text.specs.Mark.{Place}
use Rattle.yaml_text.specs.Refusal.{got}
use Rattle.yaml_text.specs.Test.{both_true, by_pick, by_test}
use Rattle.yaml_text.specs.All.{All, all_any, all_bind, all_both, all_need, all_test, holds, not_read}
use Rattle.yaml_lexeme.specs.declared.Style.{Style}
use Rattle.yaml_lexeme.specs.Token.{BlockMappingStart, BlockSequenceStart, FlowEntry, FlowMappingEnd, FlowMappingStart, FlowSequenceStart, Kind, Lexeme, Token, empty_token}
use Rattle.yaml_lexeme.specs.Plain.{scan_plain_scalar}
use Rattle.yaml_lexeme.specs.Quoted.{scan_flow_scalar}
use Rattle.yaml_lexeme.specs.Block.{Layout, Margin, block_content, opens_content, scan_block_scalar}
use Rattle.yaml_lexeme.specs.Tag.{scan_tag}
use Rattle.yaml_lexeme.specs.Anchor.{scan_anchor}
use Rattle.yaml_lexeme.specs.Directive.{directive_of, reserved_directive, scan_directive, tag_directive, tag_name, version_directive, yaml_name}
use Rattle.yaml_scan.specs.declared.Candidate.{Candidate}
use Rattle.yaml_scan.specs.declared.Candidate.TheVariants.{Absent, Possible}
use Rattle.yaml_scan.specs.declared.Choice.{Choice}
use Rattle.yaml_scan.specs.declared.Choice.TheVariants.{AtAnchor, AtBlock, AtByteOrderMark, AtColon, AtComma, AtDash, AtDirective, AtEnd, AtMarker, AtPlain, AtQuestion, AtQuoted, AtTag, BelowIndent, Closes, Opens, Stray}
use Rattle.yaml_scan.specs.declared.Limits.{Limits}
use Rattle.yaml_scan.specs.Keys.{set_key, top_key}
use Rattle.yaml_scan.specs.State.{Event, News, State, block_ends, empty_if, ends_with, goes_on, in_flow, lapse_key, mark_of, preceded, put, put_before, remove_key, rest_of, save_key, unroll_to, with_keys}
use Rattle.yaml_scan.specs.Bracket.{fetch_flow_collection_end, fetch_flow_collection_start, fetch_flow_entry, implicit_open, scan_bracket}
use Rattle.yaml_scan.specs.Value.{begins_pair, fetch_block_entry, fetch_key, value_by, value_with, value_without}
use Rattle.yaml_scan.specs.Document.{all_ends, fetch_byte_order_mark, fetch_directive, fetch_document_indicator, fetch_stream_end, leave_blocks}
use Rattle.yaml_scan.specs.Choice.{choice}
use Rattle.yaml_scan.specs.Fetch.{fetch, fetch_anchor, fetch_block_scalar, fetch_flow_scalar, fetch_plain_scalar, fetch_tag}
use Rattle.yaml_scan.specs.Scan.{step, to_next_token, unrolled}
use Rattle.yaml_scan.specs.Candidates.{Fall, fall_drop}
use Rattle.yaml_scan.specs.Fetches.{save_key_place, stack_bracket_is}
use Rattle.yaml_scan.specs.LinesOver.{gap_forbids}
use Rattle.yaml_scan.specs.Runs.{TakesOrEnds}
use Rattle.yaml_scan.proofs.Runs.{next_news}
use Rattle.yaml_scan.specs.Steps.{Gapped, gapped, inside, lapses, stays, to_next_token_gapped, unrolled_state}
use Rattle.yaml_stream.specs.Stream.{possible}
use Rattle.yaml_stream.specs.Alone.{gap_count}
use Rattle.yaml_stream.proofs.Alone.{not_outer}
use Rattle.yaml_stream.specs.Here.{flow_scalar_ends}
use Rattle.yaml_stream.specs.Orderly.{Part, block_scalar, colon, comma, is_scalar, line_scalar, list_start, mapping_start, may_be_key, other, part, part_of, property, scalar_part}
use Rattle.yaml_stream.specs.FetchLeaves.{Fillers, FetchLeaves, LeavesIn, end_fillers, a_text, a_bracket, a_use, a_rest}

abbrev Is : Part → Lexeme → Type 0
Is a l = part_of l.token ≡ a

flow_scalar_is : (flow single : Bool) (indent : ℕ) (p : Place) → All Lexeme (Is line_scalar) (scan_flow_scalar flow single indent p)
unfolding scan_flow_scalar part scalar_part
flow_scalar_is flow single indent p =
    all_bind _ (all_any _) (λ r _. all_bind _ (all_any _) (λ e _. all_need _ _ _ _ (holds (by_pick (λ (s : Style). scalar_part s ≡ line_scalar) single _ _ refl refl))))

content_is : (b : Layout) (style : Style) (parent : ℕ) (start : Mark) (g : Margin) → scalar_part style ≡ block_scalar → All Lexeme (Is block_scalar) (block_content b style parent start g)
unfolding block_content part
content_is b style parent start g h =
    let p = g.place in
    by_test (none_left p.rest)
    (λ e. rw (e, block_content) (holds h))
    (λ e. by_test (opens_content p.mark p.rest && ltb p.mark.col b.column && leb parent p.mark.col)
    (λ f. rw (e, f, block_content) not_read)
    (λ f. rw (e, f, block_content) (holds h)))

block_scalar_is : (literal : Bool) (parent : ℕ) (p : Place) → All Lexeme (Is block_scalar) (scan_block_scalar literal parent p)
unfolding scan_block_scalar scalar_part
block_scalar_is literal parent p =
    all_bind _ (all_any _) (λ h _. all_bind _ (all_any _) (λ e _. all_need _ _ _ _ (all_need _ _ _ _
    (content_is _ _ parent p.mark _ (by_pick (λ (s : Style). scalar_part s ≡ block_scalar) literal _ _ refl refl)))))

tag_is : (flow : Bool) (p : Place) → All Lexeme (Is property) (scan_tag flow p)
unfolding scan_tag part
tag_is flow p = all_bind _ (all_any _) (λ t _. all_need _ _ _ _ (holds refl))

anchor_is : (alias : Bool) (p : Place) → All Lexeme (Is property) (scan_anchor alias p)
unfolding scan_anchor part
anchor_is alias p = all_need _ _ _ _ (holds (by_pick (λ (k : Kind). part k ≡ property) alias _ _ refl refl))

directive_of_is : (start : Mark) (name : List ℕ) (p : Place) → All Lexeme (Is other) (directive_of start name p)
unfolding directive_of version_directive tag_directive reserved_directive part
directive_of_is start name p =
    by_test (same name yaml_name)
    (λ e. rw (e, directive_of) (all_bind _ (all_any _) (λ a _. all_need _ _ _ _ (all_bind _ (all_any _) (λ b _. holds refl)))))
    (λ e. by_test (same name tag_name)
    (λ f. rw (e, f, directive_of) (all_bind _ (all_any _) (λ h _. all_bind _ (all_any _) (λ r _. all_need _ _ _ _ (holds refl)))))
    (λ f. rw (e, f, directive_of) (holds refl)))

directive_is : (p : Place) → All Lexeme (Is other) (scan_directive p)
unfolding scan_directive
directive_is p =
    all_need _ _ _ _ (all_need _ _ _ _ (all_bind _ (directive_of_is p.mark _ _) (λ l h. all_bind _ (all_any _) (λ e _. all_need _ _ _ _ (holds h)))))

bracket_token : (k : Kind) (p : Place) → All Lexeme (λ l. (l.token.kind ≡ k) × (l.token.start ≡ p.mark)) (scan_bracket k p)
unfolding scan_bracket
bracket_token k p = all_bind _ (all_any _) (λ e _. holds (refl, refl))

abbrev Front : Type 0
Front = (fs : List Event) × Fillers fs

-- an empty token, or none
abbrev front_if : Bool → (k : Kind) → Mark → (part k ≡ other) ⊎ (part k ≡ mapping_start) → Front
front_if b k m h = (empty_if b k m, by_pick Fillers b (put (empty_token k m) ∷ []) [] (h, tt) tt)

abbrev all_ended : State → Front
all_ended v = (all_ends v, end_fillers (unroll_to 0 v).ended (mark_of v))

-- an implicit pair's end, or none
abbrev pair_ended : State → Front
unfolding part
pair_ended v = front_if (implicit_open v.levels) FlowMappingEnd (mark_of v) (inl refl)

both_fillers : (es fs : List Event) → Fillers es → Fillers fs → Fillers (es ++ fs)
both_fillers [] fs h k = k
both_fillers (put t ∷ es) fs h k = (h.0, both_fillers es fs h.1 k)
both_fillers (put_before n ts ∷ es) fs h k = absurd h

abbrev fronts : Front → Front → Front
fronts es fs = (es.0 ++ fs.0, both_fillers es.0 fs.0 es.1 fs.1)

abbrev LeavesFrom : State → News → Type 0
LeavesFrom v (goes_on es t) = FetchLeaves v es t
LeavesFrom v (ends_with es) = Unit {0}

made : {v : State} {es : List Event} {t : State} → FetchLeaves v es t → All News (LeavesFrom v) (got (goes_on es t))
made {v} {es} {t} f = holds {a = goes_on es t} f

-- scalars in a line
line_made : {v t : State} (k : Token) → part_of k ≡ line_scalar → t.simple_key_allowed ≡ false → k.end ≡ mark_of t → t.keys ≡ (save_key v).keys
    → All News (LeavesFrom v) (got (goes_on (put k ∷ []) t))
unfolding is_scalar
line_made k e a m h = made (a_text k (inl (ap is_scalar e)) (λ _. (a, m)) h)

-- in blocks
block_made : {v t : State} (k : Token) → part_of k ≡ block_scalar → t.keys ≡ (save_key v).keys → All News (LeavesFrom v) (got (goes_on (put k ∷ []) t))
unfolding is_scalar
block_made k e h = made (a_text k (inl (ap is_scalar e)) (λ f. let z : ◌≡◌ {A = ℕ} 0 1 = cc in absurd (omega arith)) h)

property_made : {v t : State} (k : Token) → part_of k ≡ property → t.keys ≡ (save_key v).keys → All News (LeavesFrom v) (got (goes_on (put k ∷ []) t))
property_made k e h = made (a_text k (inr e) (λ f. let z : ◌≡◌ {A = ℕ} 0 1 = cc in absurd (omega arith)) h)

-- the others
rest_made : {v t : State} {a : Part} (fs : Front) (k : Token) → part_of k ≡ a → may_be_key a ≡ false → (a ≡ colon → (t.simple_key_allowed ≡ false) ⊎ (v.simple_key_allowed ≡ true))
    → (t.keys ≡ set_key Absent v.keys) ⊎ (t.keys ≡ drop 1 v.keys) → All News (LeavesFrom v) (got (goes_on (fs.0 ++ (put k ∷ [])) t))
rest_made fs k e n c h = made (a_rest fs.0 k fs.1 (ap may_be_key e ∙ n) (λ i. c (sym e ∙ i)) h)

-- ':' and '?' forbid a simple key in flow; elsewhere one was allowed before them
flow_or_allowed : (flow allowed : Bool) → (flow || allowed) ≡ true → (not flow ≡ false) ⊎ (allowed ≡ true)
flow_or_allowed true allowed e = inl refl
flow_or_allowed false allowed e = inr e

collection_start_leaves : (limits : Limits) (sequence : Bool) (v : State) → All News (LeavesFrom v) (fetch_flow_collection_start limits sequence v)
unfolding fetch_flow_collection_start part
collection_start_leaves limits sequence v =
    all_bind _ (stack_bracket_is limits (save_key v))
    (λ t i. rw i.2 (all_need _ _ _ _ (all_bind _ (bracket_token _ (save_key v).place)
    (λ l b. made (a_bracket l.token (rw b.0 (starts sequence)) (b.1 ∙ ap (λ (p : Place). p.mark) (save_key_place v)) refl)))))
  where
    starts : (q : Bool) → (part (pick q FlowSequenceStart FlowMappingStart) ≡ list_start) ⊎ (part (pick q FlowSequenceStart FlowMappingStart) ≡ mapping_start)
    starts true = inl refl
    starts false = inr refl

value_leaves : (limits : Limits) (c : Candidate) (v : State) → top_key v.keys ≡ c → All News (LeavesFrom v) (value_by limits c v)
unfolding value_by value_with value_without part may_be_key
value_leaves limits Absent v h =
    all_test _ _ _ _ (λ e. all_bind _ (all_any _) (λ r _.
    rest_made (fronts (front_if (begins_pair v.levels) FlowMappingStart (mark_of v) (inr refl)) (front_if r.starts BlockMappingStart (mark_of v) (inl refl))) _
    refl refl (λ _. flow_or_allowed (in_flow v) v.simple_key_allowed e) (inl refl)))
value_leaves limits (Possible required n m) v h = all_bind _ (all_any _) (λ r _. made (a_use _ refl h refl refl))

fetch_leaves : (limits : Limits) (c : Choice) (v : State) → All News (LeavesFrom v) (fetch limits c v)
unfolding fetch fetch_directive fetch_byte_order_mark fetch_document_indicator fetch_stream_end fetch_flow_entry fetch_block_entry fetch_key fetch_tag fetch_plain_scalar
    fetch_anchor fetch_block_scalar fetch_flow_scalar fetch_flow_collection_end scan_plain_scalar leave_blocks remove_key in_flow part scalar_part may_be_key
fetch_leaves limits AtEnd v = all_need _ _ _ _ (all_need _ _ _ _ (holds tt))
fetch_leaves limits AtDirective v = all_bind _ (directive_is v.place) (λ l e. rest_made (all_ended v) _ e refl (λ _. inl refl) (inl refl))
fetch_leaves limits AtByteOrderMark v = rest_made {a = other} (all_ended v) _ refl refl (λ e. let z : ◌≡◌ {A = ℕ} 0 1 = cc in absurd (omega arith)) (inl refl)
fetch_leaves limits BelowIndent v = not_read
fetch_leaves limits Stray v = not_read
fetch_leaves limits (AtMarker starts) v =
    all_need _ _ _ _ (all_bind _ (all_any _) (λ p _. rest_made (all_ended v) _ (by_pick (λ (k : Kind). part k ≡ other) starts _ _ refl refl) refl (λ _. inl refl) (inl refl)))
fetch_leaves limits (Opens sequence) v = collection_start_leaves limits sequence v
fetch_leaves limits (Closes sequence) v =
    all_need _ _ _ _ (all_bind _ (bracket_token _ v.place)
    (λ l b. rest_made (pair_ended v) _ (ap part b.0 ∙ by_pick (λ (k : Kind). part k ≡ other) sequence _ _ refl refl) refl (λ _. inl refl) (inr refl)))
fetch_leaves limits AtComma v =
    all_bind _ (bracket_token FlowEntry v.place)
    (λ l b. rest_made {a = comma} (pair_ended v) _ (ap part b.0) refl (λ e. let z : ◌≡◌ {A = ℕ} 0 1 = cc in absurd (omega arith)) (inl refl))
fetch_leaves limits AtDash v =
    all_test _ _ _ _ (λ e. all_bind _ (all_any _)
    (λ r _. rest_made (front_if r.starts BlockSequenceStart (mark_of v) (inl refl)) _ refl refl (λ _. inr (both_true (not (in_flow v)) _ e).1) (inl refl)))
fetch_leaves limits AtQuestion v =
    all_test _ _ _ _ (λ e. all_bind _ (all_any _)
    (λ r _. rest_made (front_if r.starts BlockMappingStart (mark_of v) (inl refl)) _ refl refl (λ _. flow_or_allowed (in_flow v) _ e) (inl refl)))
fetch_leaves limits AtColon v = value_leaves limits (top_key v.keys) v refl
fetch_leaves limits AtTag v = all_bind _ (tag_is (in_flow v) v.place) (λ l e. property_made l.token e refl)
fetch_leaves limits AtPlain v = line_made _ refl refl refl refl
fetch_leaves limits (AtAnchor alias) v = all_bind _ (anchor_is alias v.place) (λ l e. property_made l.token e refl)
fetch_leaves limits (AtBlock literal) v = all_bind _ (block_scalar_is literal _ v.place) (λ l e. block_made l.token e refl)
fetch_leaves limits (AtQuoted single) v =
    all_bind _ (all_both (flow_scalar_is (in_flow v) single _ v.place) (flow_scalar_ends (in_flow v) single _ v.place)) (λ l h. line_made l.token h.0 refl h.1 refl)

-- to show something of the candidates behind it, show it of those before it, and where this level's is gone
gap_leaves : {s v : State} (P : List Candidate → Type 0) → Gapped s v → P s.keys → P (set_key Absent s.keys) → P v.keys
unfolding top_key
gap_leaves P (gapped f spares (inside e)) h k = h
gap_leaves P (gapped f spares (lapses e)) h k = k
gap_leaves {s} P (gapped f spares (stays e o)) h k = by_top s.keys h k
  where
    by_top : (ks : List Candidate) → P ks → P (set_key Absent ks) → P (set_key (top_key ks) ks)
    by_top [] i j = j
    by_top (c ∷ ks) i j = i

gap_line : {s v : State} → Gapped s v → (mark_of s).line ≤ (mark_of v).line
gap_line (gapped f spares l) = f.line_on

-- on the same line no simple key gets allowed
abbrev Calm : State → State → Type 0
Calm s v = s.simple_key_allowed ≡ false → (v.simple_key_allowed ≡ false) ⊎ ((mark_of s).line < (mark_of v).line)

lapse_calm : (s u : State) → Calm s u → All State (Calm s) (lapse_key u)
unfolding lapse_key
lapse_calm s u h =
    by_test (in_flow u)
    (λ e. rw (e, lapse_key) (holds {a = u} h))
    (λ e. rw (e, lapse_key) (all_bind _ (all_any _) (λ k _. holds {a = with_keys (set_key k u.keys) u} h)))

gap_calm : (s : State) → All State (Calm s) (to_next_token s)
unfolding to_next_token
gap_calm s = all_bind _ (gap_forbids _ s.simple_key_allowed _ (mark_of s) (rest_of s)) (λ g h. lapse_calm s _ h)

pub step_leaves : (limits : Limits) (s : State) → All News (LeavesIn s) (step limits s)
unfolding step possible
step_leaves limits s =
    all_bind _ (all_both (to_next_token_gapped s) (gap_calm s))
    (λ v g. let u = unrolled_state v in
    all_bind _ (all_both (fetch_leaves limits (choice u) u) (next_news [] limits u)) (λ w k. holds (by_news v g.0 g.1 w k.0 k.1)))
  where
    by_news : (v : State) → Gapped s v → Calm s v → (w : News) → LeavesFrom (unrolled_state v) w → TakesOrEnds [] (unrolled_state v) w
        → LeavesIn s (preceded (block_ends (unrolled v).ended (mark_of v)) w)
    by_news v g c (goes_on es t) f o =
        record {
          before_token = unrolled_state v;
          ended = (unrolled v).ended;
          said = es;
          events = refl;
          fetched = f;
          counted = ap (λ (n : ℕ). n + (unrolled v).ended) (gap_count g);
          shrinks = λ i e. gap_leaves (λ ks. possible i ks ≡ false) g e (not_outer i s.keys e);
          shrinks_outer = λ i e. gap_leaves (λ ks. possible i (drop 1 ks) ≡ false) g e e;
          falls = λ b h. gap_leaves (Fall b) g h (fall_drop b s.keys h);
          calm = c;
          line_on = gap_line g;
          line_behind = o.1.line_on;
        }
    by_news v g c (ends_with es) f o = tt
