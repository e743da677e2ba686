-- What each fetch keeps: it goes on in the text behind its first character, what it says is placed, and the state behind it is sound.
use Rattle.std.specs.Prelude.{◌+◌, ◌<◌, ◌≤◌, suc, ℕ, Bool, ◌&&◌, false, not, true, List, [], ◌++◌, ◌∷◌, ◌⊎◌, ◌≡◌, refl, drop, length}
use Rattle.std.proofs.Common.{inl, inr, ◌∙◌, ap, sym, le_refl, arith, length-drop}
use Rattle.yaml_text.specs.declared.Mark.{Mark}
use Rattle.yaml_text.specs.Mark.{Place, here, over_bom, skip_by}
use Rattle.yaml_text.specs.Refusal.{got}
use Rattle.yaml_text.specs.Test.{by_pick, by_test, on_pick, true_false}
use Rattle.yaml_text.specs.All.{All, all_any, all_bind, all_need, all_test, holds}
use Rattle.yaml_text.specs.DecodeLaws.{NoNul, no_nul_drop}
use Rattle.yaml_text.specs.PlaceLaws.{FurtherOn, fits_no_nul, fits_refl, fits_trans, left, skip_on}
use Rattle.yaml_lexeme.specs.Token.{BlockMappingStart, BlockSequenceStart, FlowMappingEnd, Kind, Lexeme, Token}
use Rattle.yaml_lexeme.specs.Fits.{Reads, blanks_and_comment_fit, flow_scalar_fit, plain_fit}
use Rattle.yaml_lexeme.proofs.BlockFits.{block_scalar_fit}
use Rattle.yaml_lexeme.specs.TagFits.{anchor_fit, directive_fit, tag_fit}
use Rattle.yaml_scan.specs.declared.Candidate.{Candidate}
use Rattle.yaml_scan.specs.declared.Level.{Level}
use Rattle.yaml_scan.specs.Indent.{Indents, drop_non_ending, top_ends}
use Rattle.yaml_scan.specs.IndentLaws.{Same, same_refl, stack_same}
use Rattle.yaml_scan.specs.Keys.{top_key}
use Rattle.yaml_scan.specs.declared.Limits.{Limits}
use Rattle.yaml_scan.specs.State.{Event, News, State, allow, at_place, block_ends, counting, empty_if, ends_with, goes_on, in_flow, mark_of, on_level, put, puts, remove_key, save_key, unroll_to, with_indents}
use Rattle.yaml_scan.specs.Bracket.{closes_level, fetch_flow_collection_end, fetch_flow_collection_start, fetch_flow_entry, implicit_open, scan_bracket, stack_bracket}
use Rattle.yaml_scan.specs.Value.{fetch_block_entry, fetch_key, roll_state}
use Rattle.yaml_scan.specs.Document.{after_marker, fetch_byte_order_mark, fetch_directive, fetch_document_indicator, fetch_stream_end, forced, leave_blocks}
use Rattle.yaml_scan.specs.Fetch.{fetch_anchor, fetch_block_scalar, fetch_flow_scalar, fetch_plain_scalar, fetch_tag}
use Rattle.yaml_scan.specs.Candidates.{AllKnown, Fall, GivenToken, OnlyPuts, Placed, Ready, ReadyState, Sound, fall_less, given, given_length, known_next, late, only_append, only_ends, only_if, only_one, only_placed, ready, stays_known, without_ready}

-- behind the first character, at no later column
abbrev pub behind_first : Place → Place
behind_first p = here (over_bom p.mark) (drop 1 p.rest)

first_fit : (p : Place) → FurtherOn (behind_first p) (skip_by 1 p)
first_fit p = record { taken = 0; within = omega arith; rest_is = refl; index_is = omega arith; line_on = le_refl _; col_on = λ _. omega arith }

-- from the state s, after the tokens gs
abbrev pub Fetched : List GivenToken → State → News → Type 0
Fetched gs s (goes_on es t) = FurtherOn (behind_first s.place) t.place × (ReadyState gs s → Placed gs es × Sound (given gs es) t)
Fetched gs s (ends_with es) = ReadyState gs s → Placed gs es

-- what the events say, and the count, candidates and levels behind them
pub record Told (gs : List GivenToken) (es : List Event) (n : ℕ) (ks : List Candidate) (ls : List Level) : Type 0 where
  pub placed : Placed gs es
  pub counted : n ≡ length gs + puts es
  pub levelled : length ks ≡ suc (length ls)
  pub known : AllKnown (given gs es) ks
  pub ordered : Fall n ks

-- behind them, at a place further on
told_ready : {gs : List GivenToken} {es : List Event} {n : ℕ} {ks : List Candidate} {ls : List Level} {q : Place} (p : Place) → FurtherOn (behind_first p) q → NoNul p.rest
    → Told gs es n ks ls → Ready (given gs es) n ks ls q
told_ready {gs} {es} p f r k =
    let e = given_length gs es in
    record { counted = omega arith; levelled = k.levelled; known = k.known; ordered = k.ordered; no_nul = fits_no_nul f (no_nul_drop 1 p.rest r) }

said_behind : {gs : List GivenToken} (s : State) {es : List Event} {t : State} → FurtherOn (behind_first s.place) t.place
    → (ReadyState gs s → Told gs es t.count t.keys t.levels) → All News (Fetched gs s) (got (goes_on es t))
said_behind {gs} s {es} {t} f h =
    let k : Fetched gs s (goes_on es t) = (f, λ r. ((h r).placed, ready (told_ready s.place f r.no_nul (h r)))) in holds k

pub said : {gs : List GivenToken} (s : State) {es : List Event} {t : State} → FurtherOn (skip_by 1 s.place) t.place
    → (ReadyState gs s → Told gs es t.count t.keys t.levels) → All News (Fetched gs s) (got (goes_on es t))
said s f h = said_behind s (fits_trans (first_fit s.place) f) h

-- where tokens are given and the candidates stay
pub kept : {gs : List GivenToken} {n : ℕ} {ks : List Candidate} {ls : List Level} {p : Place} (es : List Event) → OnlyPuts es → Ready gs n ks ls p → Told gs es (n + puts es) ks ls
kept {gs} {n} {ks} es o r =
    record {
      placed = only_placed gs es o;
      counted = ap (λ (k : ℕ). k + puts es) r.counted;
      levelled = r.levelled;
      known = stays_known gs es ks o r.known;
      ordered = fall_less n (n + puts es) ks (omega arith) r.ordered;
    }

-- where a level is changed besides
pub relevelled : {gs : List GivenToken} {es : List Event} {n : ℕ} {ks : List Candidate} {ls : List Level} (f : Level → Level) → Told gs es n ks ls → Told gs es n ks (on_level f ls)
unfolding on_level
relevelled {ls} f k =
    record { placed = k.placed; counted = k.counted; levelled = k.levelled ∙ ap suc (same_length ls); known = k.known; ordered = k.ordered }
  where
    same_length : (ls : List Level) → length ls ≡ length (on_level f ls)
    same_length [] = refl
    same_length (l ∷ ls) = refl

-- where a candidate is saved for the token that is given
saved : {gs : List GivenToken} (s : State) (t : Token) → t.start ≡ mark_of s → ReadyState gs s
    → Told gs (put t ∷ []) ((save_key s).count + puts (put t ∷ [])) (save_key s).keys (save_key s).levels
unfolding save_key given puts
saved {gs} s t e r =
    on_pick (λ (u : State). Told gs (put t ∷ []) (u.count + puts (put t ∷ [])) u.keys u.levels) s.simple_key_allowed
    (λ _. let w = without_ready r in
    let k = kept (put t ∷ []) (only_one t) w in
    record {
      placed = k.placed;
      counted = k.counted;
      levelled = k.levelled;
      known = (rw e (known_next gs s.count (mark_of s) r.counted), k.known.1);
      ordered = (omega arith, w.ordered);
    })
    (λ _. kept (put t ∷ []) (only_one t) r)

-- the small changes of the state

pub stack_bracket_is : (limits : Limits) (s : State) → All State (λ t. (i : Indents) × Same s.indents i × (t ≡ with_indents i s)) (stack_bracket limits s)
unfolding stack_bracket
stack_bracket_is limits s =
    by_test (not (in_flow s) && top_ends s.indents.entries)
    (λ e. rw (e, stack_bracket) (all_bind _ (stack_same limits.entries (mark_of s) s.indents) (λ i k. holds (i, k, refl))))
    (λ e. rw (e, stack_bracket) (holds (s.indents, same_refl _, refl)))

pub save_key_place : (s : State) → (save_key s).place ≡ s.place
unfolding save_key
save_key_place s = by_pick (λ (t : State). t.place ≡ s.place) s.simple_key_allowed _ s refl refl

-- brackets

pub bracket_fit : (k : Kind) (p : Place) → All Lexeme (Reads p.mark (skip_by 1 p)) (scan_bracket k p)
unfolding scan_bracket
bracket_fit k p = all_bind _ (blanks_and_comment_fit (skip_by 1 p)) (λ e f. holds (record { onward = f; starts = refl }))

pub flow_collection_start_news : (gs : List GivenToken) (limits : Limits) (sequence : Bool) (s : State) → All News (Fetched gs s) (fetch_flow_collection_start limits sequence s)
unfolding fetch_flow_collection_start
flow_collection_start_news gs limits sequence s =
    all_bind _ (stack_bracket_is limits (save_key s))
    (λ t i. rw i.2 (all_need _ 28 _ _ (all_bind _ (bracket_fit _ (save_key s).place)
    (λ l r. said s (rw (save_key_place s) at r.onward) (λ h. let k = saved s l.token (rw (save_key_place s) at r.starts) h in
    record { placed = k.placed; counted = k.counted; levelled = ap suc k.levelled; known = (tt, k.known); ordered = k.ordered })))))

closes_some : (sequence : Bool) (ls : List Level) → closes_level sequence ls ≡ true → 0 < length ls
unfolding closes_level
closes_some sequence [] e = true_false (sym e)
closes_some sequence (l ∷ ls) e = omega arith

-- an empty token, or none, and a token
only_two : (b : Bool) (k : Kind) (m : Mark) (t : Token) → OnlyPuts (empty_if b k m ++ (put t ∷ []))
only_two b k m t = only_append (empty_if b k m) (put t ∷ []) (only_if b k m) (only_one t)

pub flow_collection_end_news : (gs : List GivenToken) (sequence : Bool) (s : State) → All News (Fetched gs s) (fetch_flow_collection_end sequence s)
unfolding fetch_flow_collection_end remove_key
flow_collection_end_news gs sequence s =
    all_test _ 47 (mark_of s) _ (λ c. all_bind _ (bracket_fit _ s.place)
    (λ l r. said s r.onward (λ h.
    let i = closes_some sequence s.levels c in
    let k = kept _ (only_two (implicit_open s.levels) FlowMappingEnd (mark_of s) l.token) (without_ready h) in
    record {
      placed = k.placed;
      counted = k.counted;
      levelled = omega (arith, length-drop 1 s.keys, length-drop 1 s.levels);
      known = k.known.1;
      ordered = k.ordered;
    })))

pub flow_entry_news : (gs : List GivenToken) (s : State) → All News (Fetched gs s) (fetch_flow_entry s)
unfolding fetch_flow_entry remove_key
flow_entry_news gs s =
    all_bind _ (bracket_fit _ s.place)
    (λ l r. said s r.onward (λ h. relevelled _
    (kept _ (only_two (implicit_open s.levels) FlowMappingEnd (mark_of s) l.token) (without_ready h))))

-- '-', '?' and ':'

pub block_entry_news : (gs : List GivenToken) (limits : Limits) (s : State) → All News (Fetched gs s) (fetch_block_entry limits s)
unfolding fetch_block_entry remove_key
block_entry_news gs limits s =
    all_need _ 46 (mark_of s) _ (all_bind _ (all_any (roll_state limits (mark_of s) s))
    (λ r _. said s (fits_refl _) (λ h. kept _ (only_two r.starts BlockSequenceStart (mark_of s) _) (without_ready h))))

pub key_news : (gs : List GivenToken) (limits : Limits) (s : State) → All News (Fetched gs s) (fetch_key limits s)
unfolding fetch_key remove_key
key_news gs limits s =
    all_need _ 46 (mark_of s) _ (all_bind _ (all_any (roll_state limits (mark_of s) s))
    (λ r _. said s (fits_refl _) (λ h. relevelled _
    (kept _ (only_two r.starts BlockMappingStart (mark_of s) _) (without_ready h)))))

-- scalars, tags and anchors

pub plain_scalar_news : (gs : List GivenToken) (s : State) → All News (Fetched gs s) (fetch_plain_scalar s)
unfolding fetch_plain_scalar
plain_scalar_news gs s = let r = plain_fit (in_flow s) s.place in said s r.onward (λ h. saved s _ r.starts h)

pub flow_scalar_news : (gs : List GivenToken) (single : Bool) (s : State) → All News (Fetched gs s) (fetch_flow_scalar single s)
unfolding fetch_flow_scalar
flow_scalar_news gs single s =
    all_bind _ (flow_scalar_fit (in_flow s) single s.indents.indent s.place) (λ l r. said s r.onward (λ h. saved s _ r.starts h))

pub tag_news : (gs : List GivenToken) (s : State) → All News (Fetched gs s) (fetch_tag s)
unfolding fetch_tag
tag_news gs s = all_bind _ (tag_fit (in_flow s) s.place) (λ l r. said s r.onward (λ h. saved s _ r.starts h))

pub anchor_news : (gs : List GivenToken) (alias : Bool) (s : State) → All News (Fetched gs s) (fetch_anchor alias s)
unfolding fetch_anchor
anchor_news gs alias s = all_bind _ (anchor_fit alias s.place) (λ l r. said s r.onward (λ h. saved s _ r.starts h))

-- the state behind a block scalar
abbrev behind_block : Lexeme → Indents → State → State
behind_block l i s = counting (puts (put l.token ∷ [])) (at_place l.place true (allow true (with_indents i s)))

-- where it starts elsewhere, its candidate's line is over
block_sound : {gs : List GivenToken} (s : State) (l : Lexeme) (i : Indents) → in_flow s ≡ false → FurtherOn (behind_first s.place) l.place
    → (l.token.start ≡ mark_of s) ⊎ ((mark_of s).line < l.place.mark.line) → ReadyState gs s → Sound (given gs (put l.token ∷ [])) (behind_block l i (save_key s))
unfolding save_key in_flow top_key
block_sound s l i e f (inl o) r = ready (told_ready s.place f r.no_nul (saved s l.token o r))
block_sound {gs} s l i e f (inr o) r =
    let es = put l.token ∷ [] in
    on_pick (λ (t : State). Sound (given gs es) (behind_block l i t)) s.simple_key_allowed
    (λ _. late e o (told_ready s.place f r.no_nul (kept es (only_one _) (without_ready r))))
    (λ _. ready (told_ready s.place f r.no_nul (kept es (only_one _) r)))

pub block_scalar_news : (gs : List GivenToken) (literal : Bool) (s : State) → in_flow s ≡ false → All News (Fetched gs s) (fetch_block_scalar literal s)
unfolding fetch_block_scalar Placed
block_scalar_news gs literal s e =
    let i = drop_non_ending s.indents.indent s.indents.entries in
    all_bind _ (block_scalar_fit literal i.indent s.place)
    (λ l b. let f = fits_trans (first_fit s.place) b.onward in
    let k : Fetched gs s (goes_on (put l.token ∷ []) (behind_block l i (save_key s))) = (f, λ r. (tt, block_sound s l i e f (b.starts r.no_nul) r)) in holds k)

-- outside every block

-- the ends of blocks, and a token
only_last : (n : ℕ) (m : Mark) (t : Token) → OnlyPuts (block_ends n m ++ (put t ∷ []))
only_last n m t = only_append (block_ends n m) (put t ∷ []) (only_ends n m) (only_one t)

pub directive_news : (gs : List GivenToken) (s : State) → All News (Fetched gs s) (fetch_directive s)
unfolding fetch_directive leave_blocks remove_key
directive_news gs s =
    all_bind _ (directive_fit s.place)
    (λ l r. said s r.onward (λ h. kept _ (only_last (unroll_to 0 s).ended (mark_of s) l.token) (without_ready h)))

pub byte_order_mark_news : (gs : List GivenToken) (s : State) → All News (Fetched gs s) (fetch_byte_order_mark s)
unfolding fetch_byte_order_mark leave_blocks remove_key
byte_order_mark_news gs s =
    said_behind s (fits_refl _) (λ h. kept _ (only_last (unroll_to 0 s).ended (mark_of s) _) (without_ready h))

pub after_marker_fit : (starts : Bool) (p : Place) → All Place (FurtherOn p) (after_marker starts p)
unfolding after_marker
after_marker_fit true p = holds (fits_refl p)
after_marker_fit false p = all_bind _ (blanks_and_comment_fit p) (λ e f. all_need _ 49 e.mark _ (holds f))

pub document_indicator_news : (gs : List GivenToken) (begins : Bool) (s : State) → 3 ≤ left s.place → All News (Fetched gs s) (fetch_document_indicator begins s)
unfolding fetch_document_indicator leave_blocks remove_key
document_indicator_news gs begins s i =
    all_need _ 47 (mark_of s) _ (all_bind _ (after_marker_fit begins (skip_by 3 s.place))
    (λ p f. said s (fits_trans (skip_on 1 2 s.place i) f) (λ h. kept _ (only_last (unroll_to 0 s).ended (mark_of s) _) (without_ready h))))

-- the end is the end of the run
pub stream_end_news : {P : News → Type 0} (gs : List GivenToken) (s : State) → ((es : List Event) → (ReadyState gs s → Placed gs es) → P (ends_with es)) → All News P (fetch_stream_end s)
unfolding fetch_stream_end
stream_end_news gs s h =
    all_need _ 47 (mark_of s) _ (all_need _ 41 (forced (mark_of s)) _
    (holds (h _ (λ _. only_placed gs _ (only_last (unroll_to 0 s).ended (forced (mark_of s)) _)))))
