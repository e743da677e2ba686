-- Theorems about specs/Numbers, and what rests on them.
use Rattle.std.specs.Prelude.{◌≤◌, suc, zero, ℕ, Bool, ◌&&◌, false, not, true, List, [], ◌∷◌, ◌⊎◌, ◌≡◌, refl, T, leb, ltb, length}
use Rattle.std.proofs.Common.{inl, inr, arith, leb-true}
use Rattle.yaml_text.specs.declared.Decoded.{Decoded}
use Rattle.yaml_text.specs.declared.Decoded.TheVariants.{Char, End, Ill}
use Rattle.yaml_text.specs.declared.Mark.{Mark}
use Rattle.yaml_text.specs.Mark.{Place, edge_of, origin, over, skip_by}
use Rattle.yaml_text.specs.Class.{peek}
use Rattle.yaml_text.specs.Decode.{decode, decoded_char}
use Rattle.yaml_text.specs.Refusal.{Read, got, refused}
use Rattle.yaml_text.specs.Test.{both_true, by_test}
use Rattle.yaml_text.specs.Utf8.{first}
use Rattle.yaml_lexeme.specs.Token.{Kind, Lexeme, StreamStart, empty_token}
use Rattle.yaml_scan.specs.declared.Candidate.{Candidate}
use Rattle.yaml_scan.specs.declared.Candidate.TheVariants.{Absent, Possible}
use Rattle.yaml_scan.specs.declared.Choice.{Choice}
use Rattle.yaml_scan.specs.declared.Choice.TheVariants.{AtAnchor, AtBlock, AtByteOrderMark, AtColon, AtComma, AtDash, AtDirective, AtEnd, AtMarker, AtPlain, AtQuestion, AtQuoted, AtTag, BelowIndent, Closes, Opens, Stray}
use Rattle.yaml_scan.specs.declared.Limits.{Limits}
use Rattle.yaml_scan.specs.Indent.{Indents, Rolled, drop_for, roll, roll_at, stack, top_ends}
use Rattle.yaml_scan.specs.Keys.{lapse, stale, top_key}
use Rattle.yaml_scan.specs.State.{Event, News, State, ends_with, goes_on, in_flow, lapse_key, mark_of, put, rest_of}
use Rattle.yaml_scan.specs.Bracket.{fetch_flow_collection_end, fetch_flow_collection_start, fetch_flow_entry, scan_bracket, stack_bracket}
use Rattle.yaml_scan.specs.Value.{fetch_block_entry, fetch_key, roll_state, value_by, value_with, value_without}
use Rattle.yaml_scan.specs.Document.{after_marker, fetch_byte_order_mark, fetch_directive, fetch_document_indicator, fetch_stream_end}
use Rattle.yaml_scan.specs.Choice.{choice}
use Rattle.yaml_scan.specs.Fetch.{fetch, fetch_anchor, fetch_block_scalar, fetch_flow_scalar, fetch_plain_scalar, fetch_tag}
use Rattle.yaml_scan.specs.Scan.{Outcome, after_events, after_step, begin, outcome, run, scan, scanned, spent, step, stopped, to_next_token}
use Rattle.theorems.specs.ReaderNumbers.{By, anchor_by, blanks_and_comment_by, block_scalar_by, by_bind, by_need, directive_by, flow_scalar_by, reads, refuses, rule, skip_gap_by, tag_by}

stack_by : (room : ℕ) (m : Mark) (i : ℕ) (ends : Bool) (s : Indents) → By rule Indents (stack room m i ends s)
unfolding stack
stack_by room m i ends s = by_test (ltb (length s.entries) room) (λ e. rw (e, stack) reads) (λ e. rw (e, stack) (refuses tt))

roll_by : (room : ℕ) (m : Mark) (edge : ℕ) (s : Indents) → By rule Rolled (roll room m edge s)
unfolding roll
roll_by room m edge s =
    by_test (ltb (drop_for edge s.indent s.entries).indent edge)
    (λ e. rw (e, roll) (by_bind _ (stack_by room m edge true _) (λ _. reads)))
    (λ e. rw (e, roll) reads)

roll_at_by : (room : ℕ) (flow : Bool) (m : Mark) (edge : ℕ) (s : Indents) → By rule Rolled (roll_at room flow m edge s)
unfolding roll_at
roll_at_by room true m edge s = reads
roll_at_by room false m edge s = roll_by room m edge s

roll_state_by : (limits : Limits) (m : Mark) (s : State) → By rule Rolled (roll_state limits m s)
roll_state_by limits m s = roll_at_by limits.entries (in_flow s) (mark_of s) (edge_of m) s.indents

lapse_by : (m : Mark) (k : Candidate) → By rule Candidate (lapse m k)
unfolding lapse
lapse_by m Absent = reads
lapse_by m (Possible required n k) =
    by_test (stale k m) (λ e. rw (e, lapse) (by_need _ 41 m _ tt reads)) (λ e. rw (e, lapse) reads)

lapse_key_by : (s : State) → By rule State (lapse_key s)
unfolding lapse_key
lapse_key_by s =
    by_test (in_flow s) (λ e. rw (e, lapse_key) reads) (λ e. rw (e, lapse_key) (by_bind _ (lapse_by (mark_of s) (top_key s.keys)) (λ _. reads)))

scan_bracket_by : (k : Kind) (p : Place) → By rule Lexeme (scan_bracket k p)
unfolding scan_bracket
scan_bracket_by k p = by_bind _ (blanks_and_comment_by (skip_by 1 p)) (λ _. reads)

stack_bracket_by : (limits : Limits) (s : State) → By rule State (stack_bracket limits s)
unfolding stack_bracket
stack_bracket_by limits s =
    by_test (not (in_flow s) && top_ends s.indents.entries)
    (λ e. rw (e, stack_bracket) (by_bind _ (stack_by limits.entries (mark_of s) _ false s.indents) (λ _. reads)))
    (λ e. rw (e, stack_bracket) reads)

value_by_by : (limits : Limits) (k : Candidate) (s : State) → By rule News (value_by limits k s)
unfolding value_by value_with value_without
value_by_by limits Absent s = by_need _ 46 (mark_of s) _ tt (by_bind _ (roll_state_by limits (mark_of s) s) (λ _. reads))
value_by_by limits (Possible required n k) s = by_bind _ (roll_state_by limits k s) (λ _. reads)

after_marker_by : (starts : Bool) (p : Place) → By rule Place (after_marker starts p)
unfolding after_marker
after_marker_by true p = reads
after_marker_by false p = by_bind _ (blanks_and_comment_by p) (λ e. by_need _ 49 e.mark _ tt reads)

-- 42, 43, and the rest
fetch_by : (limits : Limits) (c : Choice) (s : State) → By rule News (fetch limits c s)
unfolding fetch fetch_stream_end fetch_directive fetch_byte_order_mark fetch_document_indicator fetch_flow_collection_start fetch_flow_collection_end fetch_flow_entry
    fetch_block_entry fetch_key fetch_tag fetch_plain_scalar fetch_anchor fetch_block_scalar fetch_flow_scalar
fetch_by limits AtEnd s = by_need _ 47 (mark_of s) _ tt (by_need _ 41 _ _ tt reads)
fetch_by limits AtDirective s = by_bind _ (directive_by _) (λ _. reads)
fetch_by limits AtByteOrderMark s = reads
fetch_by limits BelowIndent s = refuses tt
fetch_by limits Stray s = refuses tt
fetch_by limits (AtMarker starts) s = by_need _ 47 (mark_of s) _ tt (by_bind _ (after_marker_by starts _) (λ _. reads))
fetch_by limits (Opens sequence) s = by_bind _ (stack_bracket_by limits _) (λ t. by_need _ 28 (mark_of t) _ tt (by_bind _ (scan_bracket_by _ _) (λ _. reads)))
fetch_by limits (Closes sequence) s = by_need _ 47 (mark_of s) _ tt (by_bind _ (scan_bracket_by _ _) (λ _. reads))
fetch_by limits AtComma s = by_bind _ (scan_bracket_by _ _) (λ _. reads)
fetch_by limits AtDash s = by_need _ 46 (mark_of s) _ tt (by_bind _ (roll_state_by limits (mark_of s) s) (λ _. reads))
fetch_by limits AtQuestion s = by_need _ 46 (mark_of s) _ tt (by_bind _ (roll_state_by limits (mark_of s) s) (λ _. reads))
fetch_by limits AtColon s = value_by_by limits (top_key s.keys) s
fetch_by limits AtTag s = by_bind _ (tag_by (in_flow s) s.place) (λ _. reads)
fetch_by limits AtPlain s = reads
fetch_by limits (AtAnchor alias) s = by_bind _ (anchor_by alias s.place) (λ _. reads)
fetch_by limits (AtBlock literal) s = by_bind _ (block_scalar_by literal _ s.place) (λ _. reads)
fetch_by limits (AtQuoted single) s = by_bind _ (flow_scalar_by (in_flow s) single _ s.place) (λ _. reads)

step_by_rule : (limits : Limits) (s : State) → By rule News (step limits s)
unfolding step to_next_token
step_by_rule limits s =
    by_bind _ (by_bind _ (skip_gap_by _ _ _ (mark_of s) (rest_of s)) (λ g. lapse_key_by _)) (λ t. by_bind _ (fetch_by limits (choice _) _) (λ _. reads))

-- what stops a run
abbrev Stopped : Outcome → Type 0
Stopped (scanned es) = Unit {0}
Stopped (stopped n m) = T (rule n)
Stopped spent = Unit {0}

after_events_by : (es : List Event) (o : Outcome) → Stopped o → Stopped (after_events es o)
after_events_by es (scanned fs) h = tt
after_events_by es (stopped n m) h = h
after_events_by es spent h = tt

after_step_by : (r : Read News) (go : State → Outcome) → By rule News r → ((s : State) → Stopped (go s)) → Stopped (after_step r go)
after_step_by (got (goes_on es s)) go h k = after_events_by es (go s) (k s)
after_step_by (got (ends_with es)) go h k = tt
after_step_by (refused n m) go (refuses t) k = t

run_by : (limits : Limits) (k : ℕ) (s : State) → Stopped (run limits k s)
unfolding run
run_by limits zero s = tt
run_by limits (suc k) s = after_step_by (step limits s) _ (step_by_rule limits s) (λ t. run_by limits k t)

scan_by : (limits : Limits) (cs : List ℕ) → Stopped (scan limits cs)
unfolding scan
scan_by limits cs =
    after_events_by (put (empty_token StreamStart origin) ∷ []) (run limits (suc (length cs)) (begin cs)) (run_by limits (suc (length cs)) (begin cs))

-- of the bytes: 2, 3
abbrev first_three : ℕ → Bool
first_three n = leb 1 n && leb n 3

decoded_char_by : (d : Decoded) (m : Mark) (go : ℕ → ℕ → Read (List ℕ)) → ((c n : ℕ) → By first_three (List ℕ) (go c n)) → By first_three (List ℕ) (decoded_char d m go)
decoded_char_by (Char c n) m go h = by_need _ 3 m _ tt (by_bind _ (h c _) (λ _. reads))
decoded_char_by Ill m go h = refuses tt
decoded_char_by End m go h = refuses tt

decode_by : (k : ℕ) (m : Mark) (bytes : List ℕ) → By first_three (List ℕ) (decode k m bytes)
unfolding decode
decode_by k m [] = reads
decode_by zero m (a ∷ t) = decoded_char_by (first (a ∷ t)) m _ (λ c n. decode_by n (over m c (peek t 0)) t)
decode_by (suc k) m (a ∷ t) = decode_by k m t

-- 1, 2, 3, and 10 to 49
abbrev Numbered : Outcome → Type 0
Numbered (scanned es) = Unit {0}
Numbered (stopped n m) = ((1 ≤ n) × (n ≤ 3)) ⊎ ((10 ≤ n) × (n ≤ 49))
Numbered spent = Unit {0}

true_of : (b : Bool) → T b → b ≡ true
true_of true t = refl
true_of false t = absurd t

between : (a b n : ℕ) → T (leb a n && leb n b) → (a ≤ n) × (n ≤ b)
between a b n h = let k = both_true (leb a n) (leb n b) (true_of (leb a n && leb n b) h) in (leb-true a n k.0, leb-true n b k.1)

ruled : (o : Outcome) → Stopped o → Numbered o
ruled (scanned es) h = tt
ruled (stopped n m) h = inr (between 10 49 n h)
ruled spent h = tt

decoded : (limits : Limits) (r : Read (List ℕ)) → By first_three (List ℕ) r
    → Numbered (elim r [ got cs ↦ scan limits cs | refused n m ↦ stopped n m ])
decoded limits (got cs) h = ruled (scan limits cs) (scan_by limits cs)
decoded limits (refused n m) (refuses t) = inl (between 1 3 n t)

outcome_numbered : (limits : Limits) (bytes : List ℕ) → Numbered (outcome limits bytes)
unfolding outcome
outcome_numbered limits bytes =
    by_test (ltb limits.bytes (length bytes))
    (λ e. rw (e, outcome) (inl (omega arith, omega arith)))
    (λ e. rw (e, outcome) (decoded limits (decode 0 origin bytes) (decode_by 0 origin bytes)))

pub has_rule : (limits : Limits) (bytes : List ℕ) (n : ℕ) (m : Mark) → outcome limits bytes ≡ stopped n m
    → ((1 ≤ n) × (n ≤ 3)) ⊎ ((10 ≤ n) × (n ≤ 49))
has_rule limits bytes n m e = rw e at (outcome_numbered limits bytes)
