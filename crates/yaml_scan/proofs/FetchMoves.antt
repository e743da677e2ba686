-- Theorems about specs/FetchMoves, and what rests on them.
use Rattle.std.specs.Prelude.{◌+◌, ◌≤◌, ℕ, Bool, ◌&&◌, ◌||◌, false, not, true, List, [], ◌∷◌, ◌≡◌, refl, drop, length}
use Rattle.std.proofs.Common.{◌∙◌, ap, sym, arith, get_or-drop}
use Rattle.std.proofs.lemmas.Bool.{not-true}
use Rattle.yaml_text.specs.declared.Mark.{Mark}
use Rattle.yaml_text.specs.Pick.{pick}
use Rattle.yaml_text.specs.Class.{is_blank_or_breakz, peek}
use Rattle.yaml_text.specs.Mark.{Place, edge_of, look, skip_by}
use Rattle.yaml_text.specs.Refusal.{got}
use Rattle.yaml_text.specs.Test.{both_true, by_pick, true_false}
use Rattle.yaml_text.specs.All.{All, all_bind, all_need, all_test, holds, not_read}
use Rattle.yaml_text.specs.PlaceLaws.{FurtherOn, left}
use Rattle.yaml_lexeme.specs.Token.{BlockEntry, ByteOrderMark, DocumentEnd, DocumentStart, FlowEntry, FlowMappingEnd, FlowMappingStart, FlowSequenceEnd, FlowSequenceStart, Key, Kind, Lexeme, Token, Value, kind_bytes, size}
use Rattle.yaml_lexeme.specs.Fits.{blanks_and_comment_fit}
use Rattle.yaml_lexeme.specs.Role.{ends, neither, role, starts}
use Rattle.yaml_lexeme.specs.Sizes.{Pays, drop_less, plain_lexed, size_fits}
use Rattle.yaml_lexeme.proofs.QuotedSizes.{flow_scalar_lexed}
use Rattle.yaml_lexeme.specs.BlockSizes.{block_scalar_lexed}
use Rattle.yaml_lexeme.specs.TagSizes.{anchor_lexed, directive_lexed, tag_lexed}
use Rattle.yaml_scan.specs.declared.Candidate.{Candidate}
use Rattle.yaml_scan.specs.declared.Candidate.TheVariants.{Absent, Possible}
use Rattle.yaml_scan.specs.declared.Level.{Level}
use Rattle.yaml_scan.specs.declared.Limits.{Limits}
use Rattle.yaml_scan.specs.Indent.{drop_non_ending}
use Rattle.yaml_scan.specs.IndentLaws.{drop_non_ending_same, roll_at_rolls, same_refl}
use Rattle.yaml_scan.specs.State.{Event, News, State, goes_on, in_flow, mark_of, on_level, puts, remove_key, rest_of, save_key, with_keys}
use Rattle.yaml_scan.specs.Keys.{top_key}
use Rattle.yaml_scan.specs.Bracket.{fetch_flow_collection_end, fetch_flow_collection_start, fetch_flow_entry, scan_bracket}
use Rattle.yaml_scan.specs.Value.{begins_pair, colon_seen, fetch_block_entry, fetch_key, takes_colon, value_by, value_with, value_without}
use Rattle.yaml_scan.specs.declared.Choice.{Choice}
use Rattle.yaml_scan.specs.declared.Choice.TheVariants.{AtAnchor, AtBlock, AtByteOrderMark, AtColon, AtComma, AtDash, AtDirective, AtEnd, AtMarker, AtPlain, AtQuestion, AtQuoted, AtTag, BelowIndent, Closes, Opens, Stray}
use Rattle.yaml_scan.specs.Document.{fetch_byte_order_mark, fetch_directive, fetch_document_indicator, leave_blocks}
use Rattle.yaml_scan.specs.Fetch.{fetch, fetch_anchor, fetch_block_scalar, fetch_flow_scalar, fetch_plain_scalar, fetch_tag}
use Rattle.yaml_scan.specs.Fetches.{after_marker_fit, stack_bracket_is}
use Rattle.yaml_scan.specs.ChoiceLaws.{ChoiceSays}
use Rattle.yaml_scan.specs.Moves.{Enters, Move, Moves, Paid, begins, bracket, closes, leaves, opens, parts, tells, uses}
use Rattle.yaml_scan.specs.FetchMoves.{stream_end_moves}

moved : {s : State} {es : List Event} {u : State} (t : Token) → Paid s t u.place → Move s t u.place es u.indents u.keys u.levels
    → u.count ≡ s.count + puts es → All News (Moves s) (got (goes_on es u))
moved {s} {es} {u} t p m c = let k : Moves s (goes_on es u) = (t, p, m, c) in holds k

-- saving a candidate changes nothing else
save_key_is : (s : State) → save_key s ≡ with_keys (save_key s).keys s
unfolding save_key
save_key_is s = by_pick (λ (u : State). u ≡ with_keys u.keys s) s.simple_key_allowed _ _ refl refl

plain_scalar_moves : (s : State) → 1 ≤ left s.place → All News (Moves s) (fetch_plain_scalar s)
unfolding fetch_plain_scalar
plain_scalar_moves s h =
    let l = plain_lexed (in_flow s) s.place h in
    rw (save_key_is s) (moved _ l.paid (tells l.neutral (same_refl _)) refl)

flow_scalar_moves : (single : Bool) (s : State) → All News (Moves s) (fetch_flow_scalar single s)
unfolding fetch_flow_scalar
flow_scalar_moves single s =
    all_bind _ (flow_scalar_lexed (in_flow s) single s.indents.indent s.place)
    (λ l h. rw (save_key_is s) (moved _ h.paid (tells h.neutral (same_refl _)) refl))

block_scalar_moves : (literal : Bool) (s : State) → 1 ≤ left s.place → All News (Moves s) (fetch_block_scalar literal s)
unfolding fetch_block_scalar
block_scalar_moves literal s h =
    let i = drop_non_ending s.indents.indent s.indents.entries in
    all_bind _ (block_scalar_lexed literal i.indent s.place h)
    (λ l k. rw (save_key_is s) (moved _ k.paid (tells k.neutral (drop_non_ending_same s.indents.indent s.indents.entries)) refl))

tag_moves : (s : State) → 1 ≤ left s.place → All News (Moves s) (fetch_tag s)
unfolding fetch_tag
tag_moves s h = all_bind _ (tag_lexed (in_flow s) s.place h) (λ l k. rw (save_key_is s) (moved _ k.paid (tells k.neutral (same_refl _)) refl))

anchor_moves : (alias : Bool) (s : State) → All News (Moves s) (fetch_anchor alias s)
unfolding fetch_anchor
anchor_moves alias s = all_bind _ (anchor_lexed alias s.place) (λ l k. rw (save_key_is s) (moved _ k.paid (tells k.neutral (same_refl _)) refl))

directive_moves : (s : State) → in_flow s ≡ false → All News (Moves s) (fetch_directive s)
unfolding fetch_directive leave_blocks remove_key
directive_moves s h = all_bind _ (directive_lexed s.place) (λ l k. moved _ k.paid (leaves k.neutral h) refl)

-- a kind without texts is paid
silent : (k : Kind) (cs rest : List ℕ) → kind_bytes k ≡ [] → size rest ≤ size cs → Pays 0 cs (length (kind_bytes k)) rest
silent k cs rest e h = rw e (omega arith)

byte_order_mark_moves : (s : State) → in_flow s ≡ false → All News (Moves s) (fetch_byte_order_mark s)
unfolding fetch_byte_order_mark leave_blocks remove_key kind_bytes role
byte_order_mark_moves s h = moved _ (silent ByteOrderMark (rest_of s) (drop 1 (rest_of s)) refl (drop_less 1 (rest_of s))) (leaves refl h) refl

document_indicator_moves : (dashes : Bool) (s : State) → All News (Moves s) (fetch_document_indicator dashes s)
unfolding fetch_document_indicator leave_blocks remove_key kind_bytes role
document_indicator_moves dashes s =
    all_test _ 47 (mark_of s) _ (λ e. all_bind _ (after_marker_fit dashes (skip_by 3 s.place))
    (λ p f. moved _ (silent (pick dashes DocumentStart DocumentEnd) (rest_of s) p.rest (by_pick (λ (k : Kind). kind_bytes k ≡ []) dashes _ _ refl refl) (omega (arith, drop_less 3 (rest_of s), size_fits f)))
    (leaves (by_pick (λ (k : Kind). role k ≡ neither) dashes _ _ refl refl) (not-true (in_flow s) e)) refl))

bracket_is : (k : Kind) (p : Place) → All Lexeme (λ l. (l.token.kind ≡ k) × FurtherOn (skip_by 1 p) l.place) (scan_bracket k p)
unfolding scan_bracket
bracket_is k p = all_bind _ (blanks_and_comment_fit (skip_by 1 p)) (λ e f. holds (refl, f))

bracket_silent : (s : State) (k : Kind) (l : Lexeme) → kind_bytes k ≡ [] → (l.token.kind ≡ k) × FurtherOn (skip_by 1 s.place) l.place → Paid s l.token l.place
bracket_silent s k l e f = rw f.0 (silent k (rest_of s) l.place.rest e (omega (arith, drop_less 1 (rest_of s), size_fits f.1)))

bracket_roles : (sequence : Bool)
    → (role (pick sequence FlowSequenceStart FlowMappingStart) ≡ starts (bracket sequence)) × (role (pick sequence FlowSequenceEnd FlowMappingEnd) ≡ ends (bracket sequence))
unfolding role
bracket_roles true = (refl, refl)
bracket_roles false = (refl, refl)

flow_collection_start_moves : (limits : Limits) (sequence : Bool) (s : State) → All News (Moves s) (fetch_flow_collection_start limits sequence s)
unfolding fetch_flow_collection_start kind_bytes role
flow_collection_start_moves limits sequence s =
    let k = pick sequence FlowSequenceStart FlowMappingStart in
    rw (save_key_is s) (all_bind _ (stack_bracket_is limits (with_keys (save_key s).keys s))
    (λ t i. rw i.2 (all_need _ 28 _ _ (all_bind _ (bracket_is k s.place)
    (λ l f. moved _ (bracket_silent s k l (by_pick (λ (k : Kind). kind_bytes k ≡ []) sequence _ _ refl refl) f)
    (opens sequence (ap role f.0 ∙ (bracket_roles sequence).0) i.1) refl)))))

flow_collection_end_moves : (sequence : Bool) (s : State) → All News (Moves s) (fetch_flow_collection_end sequence s)
unfolding fetch_flow_collection_end remove_key kind_bytes role
flow_collection_end_moves sequence s =
    let k = pick sequence FlowSequenceEnd FlowMappingEnd in
    all_test _ 47 (mark_of s) _ (λ c. all_bind _ (bracket_is k s.place)
    (λ l f. moved _ (bracket_silent s k l (by_pick (λ (k : Kind). kind_bytes k ≡ []) sequence _ _ refl refl) f)
    (closes sequence (mark_of s) (ap role f.0 ∙ (bracket_roles sequence).1) c) refl))

flow_entry_moves : (s : State) → All News (Moves s) (fetch_flow_entry s)
unfolding fetch_flow_entry remove_key kind_bytes role
flow_entry_moves s =
    all_bind _ (bracket_is FlowEntry s.place)
    (λ l f. moved _ (bracket_silent s FlowEntry l refl f) (parts (mark_of s) (ap role f.0)) refl)

-- what stands behind the one character
next_is : (s : State) → is_blank_or_breakz (peek (rest_of s) 1) ≡ true → is_blank_or_breakz (look (skip_by 1 s.place)) ≡ true
next_is s e = rw (get_or-drop 1 (rest_of s) 0 0) e

one_silent : (k : Kind) (s : State) → kind_bytes k ≡ [] → Pays 0 (rest_of s) (length (kind_bytes k)) (drop 1 (rest_of s))
one_silent k s e = silent k (rest_of s) (drop 1 (rest_of s)) e (drop_less 1 (rest_of s))

or_none : (b : Bool) → b ≡ (b || false)
or_none true = refl
or_none false = refl

-- no pair begins
enters_none : (f : Level → Level) (ls : List Level) → ((l : Level) → ((f l).sequence ≡ l.sequence) × ((f l).implicit ≡ l.implicit) × ((f l).colon ≡ l.colon)) → Enters false ls (on_level f ls)
unfolding on_level
enters_none f [] h = (refl, refl)
enters_none f (l ∷ ls) h =
    let k = h l in (
      f l,
      refl,
      record {
        same_kind = k.0;
        implicit_is = k.1 ∙ or_none l.implicit;
        tidy = λ t e. k.1 ∙ t (sym k.2 ∙ e);
        once = λ _ e. true_false (sym e);
      },
    )

block_entry_moves : (limits : Limits) (s : State) → is_blank_or_breakz (peek (rest_of s) 1) ≡ true → All News (Moves s) (fetch_block_entry limits s)
unfolding fetch_block_entry remove_key kind_bytes role
block_entry_moves limits s e =
    all_need _ 46 (mark_of s) _ (all_bind _ (roll_at_rolls limits.entries (in_flow s) (mark_of s) (edge_of (mark_of s)) s.indents)
    (λ r k. moved _ (one_silent BlockEntry s refl)
    (begins {pair = false} true (mark_of s) refl (record { rolls = k; spaced = λ _. next_is s e; enters = enters_same s.levels })) refl))
  where
    enters_same : (ls : List Level) → Enters false ls ls
    enters_same [] = (refl, refl)
    enters_same (l ∷ ls) = (l, refl, record { same_kind = refl; implicit_is = or_none l.implicit; tidy = λ t. t; once = λ _ e'. true_false (sym e') })

key_moves : (limits : Limits) (s : State) → is_blank_or_breakz (peek (rest_of s) 1) ≡ true → All News (Moves s) (fetch_key limits s)
unfolding fetch_key remove_key kind_bytes role
key_moves limits s e =
    all_need _ 46 (mark_of s) _ (all_bind _ (roll_at_rolls limits.entries (in_flow s) (mark_of s) (edge_of (mark_of s)) s.indents)
    (λ r k. moved _ (one_silent Key s refl)
    (begins {pair = false} false (mark_of s) refl (record { rolls = k; spaced = λ _. next_is s e; enters = enters_none _ s.levels (λ l. (refl, refl, refl)) })) refl))

colon_spaced : (s : State) → takes_colon s ≡ true → in_flow s ≡ false → is_blank_or_breakz (look (skip_by 1 s.place)) ≡ true
unfolding takes_colon
colon_spaced s e f = next_is s (or_none _ ∙ (rw f at e))

-- the first ':' of an entry may begin a pair
enters_colon : (ls : List Level) → Enters (begins_pair ls) ls (colon_seen ls)
unfolding on_level begins_pair
enters_colon [] = (refl, refl)
enters_colon (l ∷ ls) = (
  record { sequence = l.sequence; colon = true; question = l.question; implicit = l.implicit || begins_pair (l ∷ ls) },
  refl,
  record {
    same_kind = refl;
    implicit_is = refl;
    tidy = λ t e. true_false e;
    once = λ t e. t (not-true l.colon (both_true l.sequence _ (both_true (l.sequence && not l.colon) _ e).0).1);
  },
)

value_without_moves : (limits : Limits) (s : State) → takes_colon s ≡ true → All News (Moves s) (value_without limits s)
unfolding value_without kind_bytes role
value_without_moves limits s e =
    all_need _ 46 (mark_of s) _ (all_bind _ (roll_at_rolls limits.entries (in_flow s) (mark_of s) (edge_of (mark_of s)) s.indents)
    (λ r k. moved _ (one_silent Value s refl)
    (begins {pair = begins_pair s.levels} false (mark_of s) refl (record { rolls = k; spaced = colon_spaced s e; enters = enters_colon s.levels })) refl))

value_with_moves : (limits : Limits) (required : Bool) (n : ℕ) (m : Mark) (s : State) → top_key s.keys ≡ Possible required n m → takes_colon s ≡ true
    → All News (Moves s) (value_with limits n m s)
unfolding value_with kind_bytes role
value_with_moves limits required n m s h e =
    all_bind _ (roll_at_rolls limits.entries (in_flow s) (mark_of s) (edge_of m) s.indents)
    (λ r k. moved _ (one_silent Value s refl)
    (uses {pair = begins_pair s.levels} refl (record { rolls = k; spaced = colon_spaced s e; enters = enters_colon s.levels }) h) refl)

value_moves : (limits : Limits) (k : Candidate) (s : State) → top_key s.keys ≡ k → takes_colon s ≡ true → All News (Moves s) (value_by limits k s)
unfolding value_by
value_moves limits Absent s h e = value_without_moves limits s e
value_moves limits (Possible required n m) s h e = value_with_moves limits required n m s h e

-- where a character is left
pub fetch_moves : (limits : Limits) (c : Choice) (s : State) → ChoiceSays c s → 1 ≤ left s.place → All News (Moves s) (fetch limits c s)
unfolding fetch
fetch_moves limits AtEnd s h i = stream_end_moves s
fetch_moves limits AtDirective s h i = directive_moves s h.0
fetch_moves limits AtByteOrderMark s h i = byte_order_mark_moves s h.0
fetch_moves limits BelowIndent s h i = not_read
fetch_moves limits Stray s h i = not_read
fetch_moves limits (AtMarker dashes) s h i = document_indicator_moves dashes s
fetch_moves limits (Opens sequence) s h i = flow_collection_start_moves limits sequence s
fetch_moves limits (Closes sequence) s h i = flow_collection_end_moves sequence s
fetch_moves limits AtComma s h i = flow_entry_moves s
fetch_moves limits AtDash s h i = block_entry_moves limits s h
fetch_moves limits AtQuestion s h i = key_moves limits s h
fetch_moves limits AtColon s h i = value_moves limits (top_key s.keys) s refl h
fetch_moves limits AtTag s h i = tag_moves s i
fetch_moves limits AtPlain s h i = plain_scalar_moves s i
fetch_moves limits (AtAnchor alias) s h i = anchor_moves alias s
fetch_moves limits (AtBlock literal) s h i = block_scalar_moves literal s i
fetch_moves limits (AtQuoted single) s h i = flow_scalar_moves single s
