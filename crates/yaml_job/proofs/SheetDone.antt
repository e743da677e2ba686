-- Theorems about specs/SheetDone, and what rests on them.
use Rattle.std.specs.Prelude.{◌*◌, ◌+◌, ◌/◌, ◌<◌, ◌≤◌, suc, zero, ℕ, false, true, List, [], ◌++◌, ◌∷◌, map, ◌≡◌, refl, eqb, length, replicate}
use Rattle.std.proofs.Common.{append_assoc, append-nil, ◌∙◌, ap, sym, arith, le-ltb}
use Rattle.yaml_text.specs.declared.Mark.{Mark}
use Rattle.yaml_text.specs.Char.{'a', 'b'}
use Rattle.yaml_text.specs.Mark.{along, origin}
use Rattle.yaml_text.specs.Test.{true_false}
use Rattle.yaml_lexeme.specs.declared.Style.TheVariants.{Plain}
use Rattle.yaml_lexeme.specs.Token.{BlockEnd, FlowSequenceStart, Kind, StreamEnd, StreamStart, Token, Value, empty_token, texts}
use Rattle.yaml_lexeme.specs.Record.{laid, number_of, record_words}
use Rattle.yaml_scan.specs.State.{Event, State, put}
use Rattle.yaml_scan.specs.Document.{forced}
use Rattle.yaml_scan.specs.Scan.{Outcome, after_events, outcome, run, scan, scanned, standard}
use Rattle.yaml_scan.specs.Open.{all_open}
use Rattle.yaml_scan.specs.Slots.{Slot, flat, note, slot, slots, tokens_of}
use Rattle.yaml_scan.specs.SlotLaws.{flat_append}
use Rattle.theorems.specs.Accepted.{Accepts}
use Rattle.yaml_stream.specs.Stream.{least_records}
use Rattle.yaml_stream.specs.KeysNear.{run_from, run_on}
use Rattle.yaml_stream.specs.Orderly.{part, scalar_part}
use Rattle.yaml_stream.specs.SeedList.{before_entries, bracket_says, bracket_step, close_step, close_token, colon_mark, colon_says, colon_step, comma_step, comma_token, end_step, entries, last_entry, next_entry, one_given, open_mark, seed_step, seed_token, simple_decode, spans}
use Rattle.yaml_job.specs.declared.Field.{Field}
use Rattle.yaml_job.specs.declared.Field.TheVariants.{Panel, Sample, Seeds}
use Rattle.yaml_job.specs.Job.{follow, job, kind_number, spelled}
use Rattle.yaml_job.specs.Open.{job_open}
use Rattle.yaml_job.specs.Shape.{Entries, Shape, digit, field, next_field, next_seed, no_field, no_seed, panel_text, sample_text, seed_list, shape, times}
use Rattle.yaml_job.specs.Reads.{ends_done}
use Rattle.yaml_job.specs.Calls.{talk_of}
use Rattle.yaml_job.specs.BlockSheet.{InBlock, OnNameLine}
use Rattle.yaml_job.proofs.BlockSheet.{block_sheet_done}
use Rattle.yaml_job.specs.JobSheet.{Scans, at_end, before_list, first_entry, heading, job_sheet, sheet_simple, then_scans, third_line}

scans_run : {s : State} {es : List Event} → Scans s es → run_from standard s ≡ scanned es
unfolding run
scans_run (at_end e) = rw (e, run)
scans_run {s} (then_scans {t = t} {es = es} e h) = run_on standard s t es e ∙ ap (λ (o : Outcome). after_events es o) (scans_run h)

abbrev list_tokens : ℕ → Mark → List Token
list_tokens zero m = close_token m ∷ empty_token BlockEnd (forced (along m)) ∷ empty_token StreamEnd (forced (along m)) ∷ []
list_tokens (suc k) m = seed_token m ∷ comma_token (along m) ∷ list_tokens k (next_entry m)

abbrev puts_of : List Token → List Event
puts_of ts = map (λ (t : Token). put t) ts

list_scans : (k : ℕ) (m : Mark) (n : ℕ) → 1 ≤ m.col → Scans (before_entries k m n) (puts_of (list_tokens k m))
list_scans zero m n h = then_scans (close_step m n h) (at_end (end_step (along m) (one_given n) (omega arith)))
list_scans (suc k) m n h =
    then_scans (seed_step k m n h)
    (then_scans (comma_step k (along m) (n + 0) m (one_given n) (omega arith)) (list_scans k (next_entry m) (one_given (one_given n)) (omega arith)))

-- up to the list's bracket
abbrev front : List Event
front = put (empty_token StreamStart origin) ∷ (heading ++ (colon_says 19 3 7 true ++ bracket_says 19 3))

abbrev sheet_events : ℕ → List Event
sheet_events k = front ++ puts_of (list_tokens k first_entry)

sheet_scans : (k : ℕ) → length (job_sheet k) ≤ standard.bytes → outcome standard (job_sheet k) ≡ scanned (sheet_events k)
unfolding outcome scan
sheet_scans k b =
    let r : Scans (third_line k) _ = then_scans (colon_step 19 3 k 7 true) (then_scans (bracket_step 19 3 k 7) (list_scans k first_entry 10 (omega arith))) in
    let s = scans_run (before_list k _ r) in
    rw (le-ltb standard.bytes (length (job_sheet k)) b, simple_decode origin (job_sheet k) (sheet_simple k), outcome)
    (ap (λ (o : Outcome). after_events (put (empty_token StreamStart origin) ∷ []) o) s)

-- events that only put: their tokens stand behind
tokens_puts : (xs : List Slot) (ts : List Token) → flat (slots xs (puts_of ts)) ≡ flat xs ++ ts
unfolding slots flat
tokens_puts xs [] = sym (append-nil (flat xs))
tokens_puts xs (t ∷ ts) = tokens_puts (xs ++ (slot t [] ∷ [])) ts ∙ rw (flat_append xs (slot t [] ∷ []), append_assoc (flat xs) (t ∷ []) ts)

abbrev sheet_tokens : ℕ → List Token
sheet_tokens k = tokens_of front ++ list_tokens k first_entry

sheet_accepted : (k : ℕ) → length (job_sheet k) ≤ standard.bytes → Accepts standard (job_sheet k) (sheet_tokens k)
unfolding slots note
sheet_accepted k b = record { events = sheet_events k; accepted = sheet_scans k b; list = sym (tokens_puts (slots [] front) (list_tokens k first_entry)) }

seeds_in : (k : ℕ) (m : Mark) → Entries (list_tokens k m) (replicate k 1) (list_tokens 0 (last_entry k m))
unfolding all_open
seeds_in zero m = no_seed
seeds_in (suc k) m = next_seed (49 ∷ [], refl, digit {d = 1} (omega arith), omega arith) refl (seeds_in k (next_entry m))

each_once : (f : Field) → times f (Sample ∷ Panel ∷ Seeds ∷ []) ≡ 1
unfolding times
each_once Sample = refl
each_once Panel = refl
each_once Seeds = refl

sheet_shape : (k : ℕ) → Shape (sheet_tokens k) (replicate k 1) []
unfolding all_open job_open
sheet_shape k =
    let seeds = field refl (Plain, spelled Seeds, refl, refl) refl (seed_list refl (seeds_in k first_entry) refl) in
    let panel = field refl (Plain, spelled Panel, refl, refl) refl (panel_text (Plain, 'b' ∷ [], refl)) in
    let sample = field refl (Plain, spelled Sample, refl, refl) refl (sample_text (Plain, 'a' ∷ [], refl)) in
    rw (sym (append-nil {A = ℕ} (replicate k 1))) (shape refl refl (next_field sample (next_field panel (next_field seeds no_field))) refl refl each_once)

sheet_in_block : (k : ℕ) → InBlock (sheet_tokens k)
unfolding all_open
sheet_in_block k = refl

-- a token that opens no list
past : {A B : Type 0} {k : Kind} → eqb (kind_number k) (kind_number FlowSequenceStart) ≡ false → B → (k ≡ FlowSequenceStart → A) × B
unfolding number_of laid
past e b = ((λ f. true_false (rw f at e)), b)

list_lines : (k : ℕ) (m : Mark) (p q : Token) → OnNameLine (p ∷ q ∷ list_tokens k m)
unfolding number_of laid
list_lines zero m p q = past refl (past refl (past refl (tt, (tt, tt))))
list_lines (suc k) m p q = past refl (past refl (list_lines k (next_entry m) (seed_token m) (comma_token (along m))))

sheet_lines : (k : ℕ) → OnNameLine (sheet_tokens k)
unfolding all_open job_open part scalar_part
sheet_lines k =
    past refl (past refl (past refl (past refl (past refl (past refl (past refl (past refl (past refl (past refl (past refl
    ((λ _. (refl, refl)), list_lines k first_entry (spans Value (colon_mark 19 3) (along (colon_mark 19 3))) (spans FlowSequenceStart (open_mark 19 3) (along (open_mark 19 3))))))))))))))

sheet_length : (k : ℕ) → length (job_sheet k) ≡ 28 + 3 * k
unfolding job_open
sheet_length k = let e = entries_length k in omega arith
  where
    entries_length : (i : ℕ) → length (entries i) ≡ 1 + 3 * i
    entries_length zero = refl
    entries_length (suc i) = omega (arith, entries_length i)

tokens_length : (k : ℕ) → length (sheet_tokens k) ≡ 17 + 2 * k
unfolding all_open
tokens_length k = omega (arith, list_length k first_entry)
  where
    list_length : (i : ℕ) (m : Mark) → length (list_tokens i m) ≡ 3 + 2 * i
    list_length zero m = refl
    list_length (suc i) m = omega (arith, list_length i (next_entry m))

texts_length : (k : ℕ) → length (texts (sheet_tokens k)) ≡ 18 + k
unfolding all_open job_open
texts_length k = omega (arith, list_texts k first_entry)
  where
    list_texts : (i : ℕ) (m : Mark) → length (texts (list_tokens i m)) ≡ i
    list_texts zero m = refl
    list_texts (suc i) m = ap suc (list_texts i (next_entry m))

-- a text of the limit's length at most, words for 4,400 records, bytes for its texts, and calls for its tokens: k seeds, each 1, and done
pub sheet_done : (k words room j : ℕ) → 28 + 3 * k ≤ standard.bytes → least_records ≤ words / record_words → 18 + k ≤ room → 17 + 2 * k < j
    → follow standard room j (job standard (job_sheet k) words) ≡ talk_of 0 (replicate k 1) ends_done
sheet_done k words room j b w d c =
    block_sheet_done standard (job_sheet k) (sheet_tokens k) (replicate k 1) words room (sheet_accepted k (omega (arith, sheet_length k))) (sheet_shape k) (sheet_in_block k) (sheet_lines k)
    j (omega (arith, tokens_length k)) w (omega (arith, texts_length k))
