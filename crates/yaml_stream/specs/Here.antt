-- Where 51 stands: the current mark is where the token that the step scanned ends, wherever a candidate is left behind it.
use Rattle.std.specs.Prelude.{suc, ℕ, Bool, ◌&&◌, false, true, ◌⊎◌, ◌≡◌, refl, leb, ltb, drop, length}
use mathlib.Core.List.{List, [], ◌++◌, ◌∷◌, append_assoc}
use Rattle.std.proofs.Common.{inl, inr, ◌∙◌, ap, sym, arith, length-drop}
use Rattle.std.proofs.lemmas.Bool.{not-true}
use Rattle.yaml_text.specs.declared.Mark.{Mark}
use Rattle.yaml_text.specs.Class.{none_left}
use Rattle.yaml_text.specs.Mark.{Place}
use Rattle.yaml_text.specs.Refusal.{got}
use Rattle.yaml_text.specs.Test.{by_pick, by_test, true_false}
use Rattle.yaml_text.specs.All.{All, all_any, all_bind, all_need, all_test, holds, not_read}
use Rattle.yaml_lexeme.specs.declared.Style.{Style}
use Rattle.yaml_lexeme.specs.Token.{BlockMappingStart, BlockSequenceStart, FlowMappingEnd, FlowMappingStart, Kind, Lexeme, Token}
use Rattle.yaml_lexeme.specs.Plain.{scan_plain_scalar}
use Rattle.yaml_lexeme.specs.Quoted.{scan_flow_scalar}
use Rattle.yaml_lexeme.specs.Block.{Layout, Margin, block_content, opens_content, scan_block_scalar}
use Rattle.yaml_lexeme.specs.Tag.{scan_tag}
use Rattle.yaml_lexeme.specs.Anchor.{scan_anchor}
use Rattle.yaml_scan.specs.declared.Candidate.{Candidate}
use Rattle.yaml_scan.specs.declared.Candidate.TheVariants.{Absent, Possible}
use Rattle.yaml_scan.specs.declared.Level.{Level}
use Rattle.yaml_scan.specs.declared.Limits.{Limits}
use Rattle.yaml_scan.specs.declared.Choice.{Choice}
use Rattle.yaml_scan.specs.declared.Choice.TheVariants.{AtAnchor, AtBlock, AtByteOrderMark, AtColon, AtComma, AtDash, AtDirective, AtEnd, AtMarker, AtPlain, AtQuestion, AtQuoted, AtTag, BelowIndent, Closes, Opens, Stray}
use Rattle.yaml_scan.specs.Indent.{Indents}
use Rattle.yaml_scan.specs.Keys.{set_key, top_key}
use Rattle.yaml_scan.specs.State.{Event, News, State, allow, at_place, block_ends, empty_if, ends_with, goes_on, in_flow, lapse_key, mark_of, on_level, preceded, put, put_before, remove_key, save_key, with_keys}
use Rattle.yaml_scan.specs.Bracket.{closes_level, fetch_flow_collection_end, fetch_flow_collection_start, fetch_flow_entry, implicit_open, new_level, scan_bracket}
use Rattle.yaml_scan.specs.Value.{begins_pair, fetch_block_entry, fetch_key, value_by, value_with, value_without}
use Rattle.yaml_scan.specs.Document.{all_ends, fetch_byte_order_mark, fetch_directive, fetch_document_indicator, fetch_stream_end, leave_blocks}
use Rattle.yaml_scan.specs.Choice.{choice}
use Rattle.yaml_scan.specs.Fetch.{fetch, fetch_anchor, fetch_block_scalar, fetch_flow_scalar, fetch_plain_scalar, fetch_tag}
use Rattle.yaml_scan.specs.Scan.{step, to_next_token, unrolled}
use Rattle.yaml_scan.specs.ChoiceLaws.{ChoiceSays, choice_says}
use Rattle.yaml_scan.specs.Moves.{Enters, Move, Moves, begins, closes, leaves, opens, parts, tells, uses}
use Rattle.yaml_scan.specs.Steps.{Gapped, Takes, gapped, inside, lapses, stays, unrolled_state}
use Rattle.yaml_scan.proofs.Steps.{step_by}
use Rattle.yaml_stream.specs.Alone.{Absents}

-- a reader's token ends where the reading goes on

abbrev EndsHere : Lexeme → Type 0
EndsHere l = l.token.end ≡ l.place.mark

pub flow_scalar_ends : (flow single : Bool) (indent : ℕ) (p : Place) → All Lexeme EndsHere (scan_flow_scalar flow single indent p)
unfolding scan_flow_scalar
flow_scalar_ends flow single indent p = all_bind _ (all_any _) (λ r _. all_bind _ (all_any _) (λ e _. all_need _ _ _ _ (holds refl)))

tag_ends : (flow : Bool) (p : Place) → All Lexeme EndsHere (scan_tag flow p)
unfolding scan_tag
tag_ends flow p = all_bind _ (all_any _) (λ t _. all_need _ _ _ _ (holds refl))

anchor_ends : (alias : Bool) (p : Place) → All Lexeme EndsHere (scan_anchor alias p)
unfolding scan_anchor
anchor_ends alias p = all_need _ _ _ _ (holds refl)

bracket_ends : (k : Kind) (p : Place) → All Lexeme EndsHere (scan_bracket k p)
unfolding scan_bracket
bracket_ends k p = all_bind _ (all_any _) (λ e _. holds refl)

content_ends : (b : Layout) (style : Style) (parent : ℕ) (start : Mark) (g : Margin) → All Lexeme EndsHere (block_content b style parent start g)
unfolding block_content
content_ends b style parent start g =
    let p = g.place in
    by_test (none_left p.rest)
    (λ e. rw (e, block_content) (holds refl))
    (λ e. by_test (opens_content p.mark p.rest && ltb p.mark.col b.column && leb parent p.mark.col)
    (λ f. rw (e, f, block_content) not_read)
    (λ f. rw (e, f, block_content) (holds refl)))

block_scalar_ends : (literal : Bool) (parent : ℕ) (p : Place) → All Lexeme EndsHere (scan_block_scalar literal parent p)
unfolding scan_block_scalar
block_scalar_ends literal parent p =
    all_bind _ (all_any _) (λ h _. all_bind _ (all_any _) (λ e _. all_need _ _ _ _ (all_need _ _ _ _ (content_ends _ _ parent p.mark _))))

-- a fetch

-- the token that came last ends at the state's mark, or no candidate is left
abbrev pub Behind : News → Type 0
Behind (goes_on es t) = (fs : List Event) × (k : Token) × (es ≡ fs ++ (put k ∷ [])) × ((k.end ≡ mark_of t) ⊎ Absents t.keys)
Behind (ends_with es) = Unit {0}

said : (fs : List Event) (k : Token) (t : State) → (k.end ≡ mark_of t) ⊎ Absents t.keys → All News Behind (got (goes_on (fs ++ (put k ∷ [])) t))
said fs k t h = holds {a = goes_on (fs ++ (put k ∷ [])) t} (fs, k, refl, h)

-- at level 0 there is no candidate further out
module _ (s : State) (alone : in_flow s ≡ false → Absents (drop 1 s.keys)) where
  plain_behind : All News Behind (fetch_plain_scalar s)
  unfolding fetch_plain_scalar scan_plain_scalar
  plain_behind = said [] _ _ (inl refl)

  flow_scalar_behind : (single : Bool) → All News Behind (fetch_flow_scalar single s)
  unfolding fetch_flow_scalar
  flow_scalar_behind single = all_bind _ (flow_scalar_ends _ single _ s.place) (λ l e. said [] l.token _ (inl e))

  block_scalar_behind : (literal : Bool) → All News Behind (fetch_block_scalar literal s)
  unfolding fetch_block_scalar
  block_scalar_behind literal = all_bind _ (block_scalar_ends literal _ s.place) (λ l e. said [] l.token _ (inl e))

  tag_behind : All News Behind (fetch_tag s)
  unfolding fetch_tag
  tag_behind = all_bind _ (tag_ends _ s.place) (λ l e. said [] l.token _ (inl e))

  anchor_behind : (alias : Bool) → All News Behind (fetch_anchor alias s)
  unfolding fetch_anchor
  anchor_behind alias = all_bind _ (anchor_ends alias s.place) (λ l e. said [] l.token _ (inl e))

  directive_behind : in_flow s ≡ false → All News Behind (fetch_directive s)
  unfolding fetch_directive leave_blocks remove_key
  directive_behind e = all_bind _ (all_any _) (λ l _. said (all_ends s) l.token _ (inr (alone e)))

  byte_order_mark_behind : in_flow s ≡ false → All News Behind (fetch_byte_order_mark s)
  unfolding fetch_byte_order_mark leave_blocks remove_key
  byte_order_mark_behind e = said (all_ends s) _ _ (inr (alone e))

  document_indicator_behind : (starts : Bool) → All News Behind (fetch_document_indicator starts s)
  unfolding fetch_document_indicator leave_blocks remove_key
  document_indicator_behind starts =
      all_test _ _ _ _ (λ e. all_bind _ (all_any _) (λ p _. said (all_ends s) _ _ (inr (alone (not-true (in_flow s) e)))))

  ended_behind : (es : List Event) → All News Behind (got (ends_with es))
  ended_behind es = holds {a = ends_with es} tt

  stream_end_behind : All News Behind (fetch_stream_end s)
  unfolding fetch_stream_end
  stream_end_behind = all_need _ _ _ _ (all_need _ _ _ _ (ended_behind _))

  collection_start_behind : (limits : Limits) (sequence : Bool) → All News Behind (fetch_flow_collection_start limits sequence s)
  unfolding fetch_flow_collection_start
  collection_start_behind limits sequence =
      all_bind _ (all_any _) (λ t _. all_need _ _ _ _ (all_bind _ (bracket_ends _ t.place) (λ l e. said [] l.token _ (inl e))))

  collection_end_behind : (sequence : Bool) → All News Behind (fetch_flow_collection_end sequence s)
  unfolding fetch_flow_collection_end remove_key
  collection_end_behind sequence = all_need _ _ _ _ (all_bind _ (bracket_ends _ s.place) (λ l e. said (empty_if (implicit_open s.levels) FlowMappingEnd (mark_of s)) l.token _ (inl e)))

  flow_entry_behind : All News Behind (fetch_flow_entry s)
  unfolding fetch_flow_entry remove_key
  flow_entry_behind = all_bind _ (bracket_ends _ s.place) (λ l e. said (empty_if (implicit_open s.levels) FlowMappingEnd (mark_of s)) l.token _ (inl e))

  block_entry_behind : (limits : Limits) → All News Behind (fetch_block_entry limits s)
  unfolding fetch_block_entry remove_key
  block_entry_behind limits = all_need _ _ _ _ (all_bind _ (all_any _) (λ r _. said (empty_if r.starts BlockSequenceStart (mark_of s)) _ _ (inl refl)))

  key_behind : (limits : Limits) → All News Behind (fetch_key limits s)
  unfolding fetch_key remove_key
  key_behind limits = all_need _ _ _ _ (all_bind _ (all_any _) (λ r _. said (empty_if r.starts BlockMappingStart (mark_of s)) _ _ (inl refl)))

  value_behind : (limits : Limits) (c : Candidate) → All News Behind (value_by limits c s)
  unfolding value_by value_with value_without
  value_behind limits Absent = all_need _ _ _ _ (all_bind _ (all_any _) (λ r _. said (empty_if (begins_pair s.levels) FlowMappingStart (mark_of s) ++ empty_if r.starts BlockMappingStart (mark_of s)) _ _ (inl refl)))
  value_behind limits (Possible required n m) = all_bind _ (all_any _) (λ r _. said (put_before n _ ∷ []) _ _ (inl refl))

  fetch_behind : (limits : Limits) (c : Choice) → ChoiceSays c s → All News Behind (fetch limits c s)
  unfolding fetch
  fetch_behind limits AtEnd h = stream_end_behind
  fetch_behind limits AtDirective h = directive_behind h.0
  fetch_behind limits AtByteOrderMark h = byte_order_mark_behind h.0
  fetch_behind limits BelowIndent h = not_read
  fetch_behind limits Stray h = not_read
  fetch_behind limits (AtMarker starts) h = document_indicator_behind starts
  fetch_behind limits (Opens sequence) h = collection_start_behind limits sequence
  fetch_behind limits (Closes sequence) h = collection_end_behind sequence
  fetch_behind limits AtComma h = flow_entry_behind
  fetch_behind limits AtDash h = block_entry_behind limits
  fetch_behind limits AtQuestion h = key_behind limits
  fetch_behind limits AtColon h = value_behind limits (top_key s.keys)
  fetch_behind limits AtTag h = tag_behind
  fetch_behind limits AtPlain h = plain_behind
  fetch_behind limits (AtAnchor alias) h = anchor_behind alias
  fetch_behind limits (AtBlock literal) h = block_scalar_behind literal
  fetch_behind limits (AtQuoted single) h = flow_scalar_behind single

-- a step

preceded_behind : (es : List Event) (w : News) → Behind w → Behind (preceded es w)
preceded_behind es (goes_on fs t) h =
    (es ++ h.0, h.1, ap (λ (gs : List Event). es ++ gs) h.2 ∙ sym (append_assoc es h.0 (put h.1 ∷ [])), h.3)
preceded_behind es (ends_with fs) h = tt

abbrev pub Alone : State → Type 0
Alone s = in_flow s ≡ false → Absents (drop 1 s.keys)

lapse_alone : (s : State) (p : Place) (leads a : Bool) → Alone s → All State Alone (lapse_key (at_place p leads (allow a s)))
unfolding lapse_key in_flow
lapse_alone s p leads b h =
    by_test (in_flow s)
    (λ e. rw (e, lapse_key) (holds {a = at_place p leads (allow b s)} h))
    (λ e. rw (e, lapse_key) (all_bind _ (all_any _) (λ k _. holds {a = with_keys (set_key k s.keys) (at_place p leads (allow b s))} h)))

gap_alone : (s : State) → Alone s → All State Alone (to_next_token s)
unfolding to_next_token
gap_alone s h = all_bind _ (all_any _) (λ g _. lapse_alone s g.place g.leading_whitespace g.simple_key_allowed h)

pub step_behind : (limits : Limits) (s : State) → Alone s → All News Behind (step limits s)
unfolding step in_flow
step_behind limits s h =
    all_bind _ (gap_alone s h)
    (λ v k. all_bind _ (fetch_behind (unrolled_state v) k limits (choice (unrolled_state v)) (choice_says (unrolled_state v))) (λ w j. holds (preceded_behind _ w j)))

-- a candidate for each level and the outermost

abbrev pub Levelled : List Candidate → List Level → Type 0
Levelled ks ls = length ks ≡ suc (length ls)

pub levelled_alone : (s : State) → Levelled s.keys s.levels → Alone s
unfolding in_flow
levelled_alone s h e = one_only s.keys s.levels h e
  where
    one_only : (ks : List Candidate) (ls : List Level) → Levelled ks ls → elim ls [ [] ↦ false | l ∷ ks' ↦ true ] ≡ false → Absents (drop 1 ks)
    one_only [] ls k f = tt
    one_only (c ∷ []) ls k f = tt
    one_only (c ∷ d ∷ ks) [] k f = absurd (omega arith)
    one_only (c ∷ d ∷ ks) (l ∷ ls) k f = true_false f

set_levelled : (c : Candidate) (ks : List Candidate) (ls : List Level) → Levelled ks ls → Levelled (set_key c ks) ls
set_levelled c ks ls h = omega (arith, length-drop 1 ks)

saved_levelled : (s : State) → Levelled s.keys s.levels → Levelled (save_key s).keys s.levels
unfolding save_key
saved_levelled s h = by_pick (λ (t : State). Levelled t.keys s.levels) s.simple_key_allowed _ s (omega (arith, length-drop 1 s.keys)) h

on_level_length : (f : Level → Level) (ls : List Level) → length (on_level f ls) ≡ length ls
unfolding on_level
on_level_length f [] = refl
on_level_length f (l ∷ ls) = refl

closes_length : (sequence : Bool) (ls : List Level) → closes_level sequence ls ≡ true → length ls ≡ suc (length (drop 1 ls))
unfolding closes_level
closes_length sequence [] e = true_false (sym e)
closes_length sequence (l ∷ ls) e = refl

enters_length : (pair : Bool) (ls ls' : List Level) → Enters pair ls ls' → length ls' ≡ length ls
enters_length pair [] ls' h = ap (λ (ks : List Level). length ks) h.0
enters_length pair (l ∷ ls) ls' h = ap (λ (ks : List Level). length ks) h.1

move_levelled : (s : State) {t : Token} {q : Place} {es : List Event} {i : Indents} {ks : List Candidate} {ls : List Level} → Move s t q es i ks ls → Levelled s.keys s.levels → Levelled ks ls
move_levelled s (tells e same) h = saved_levelled s h
move_levelled s (leaves e f) h = set_levelled Absent s.keys s.levels h
move_levelled s (opens sequence e same) h = ap suc (saved_levelled s h)
move_levelled s (closes sequence m e c) h = omega (arith, closes_length sequence s.levels c, length-drop 1 s.keys)
move_levelled s (parts m e) h =
    omega (arith, set_levelled Absent s.keys s.levels h, on_level_length (λ l. new_level l.sequence) s.levels)
move_levelled s {ls = ls} (begins {pair = p} sequence m e b) h = omega (arith, set_levelled Absent s.keys s.levels h, enters_length p s.levels ls b.enters)
move_levelled s {ls = ls} (uses {pair = p} e b c) h = omega (arith, set_levelled Absent s.keys s.levels h, enters_length p s.levels ls b.enters)

gap_levelled : {s t : State} → Gapped s t → Levelled s.keys s.levels → Levelled t.keys t.levels
gap_levelled (gapped f spares (inside e)) h = h
gap_levelled {s} (gapped f spares (lapses e)) h = set_levelled Absent s.keys s.levels h
gap_levelled {s} (gapped f spares (stays e k)) h = set_levelled (top_key s.keys) s.keys s.levels h

abbrev pub LevelledOn : News → Type 0
LevelledOn (goes_on es t) = Levelled t.keys t.levels
LevelledOn (ends_with es) = Unit {0}

pub step_levelled : (limits : Limits) (s : State) → Levelled s.keys s.levels → All News LevelledOn (step limits s)
step_levelled limits s h = step_by limits s by_news
  where
    by_news : (t : State) → Gapped s t → (w : News) → Moves (unrolled_state t) w → Takes (unrolled_state t) w → LevelledOn (preceded (block_ends (unrolled t).ended (mark_of t)) w)
    by_news t g (goes_on es u) m k = move_levelled (unrolled_state t) m.2 (gap_levelled g h)
    by_news t g (ends_with es) m k = tt
