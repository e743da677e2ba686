-- The rooms keep their lengths, whatever the answer.
use Rattle.std.specs.Prelude.{◌-◌, ◌/◌, ◌≤◌, ℕ, List, ◌≡◌, ltb, length, replicate}
use Rattle.std.proofs.Common.{arith, length-append, ltb-false}
use Rattle.std.proofs.lemmas.List.{length-replicate}
use Rattle.yaml_text.specs.Mark.{origin}
use Rattle.yaml_text.specs.Test.{by_test}
use Rattle.yaml_lexeme.specs.Token.{Token, texts}
use Rattle.yaml_lexeme.specs.Record.{record_words, records}
use Rattle.yaml_lexeme.specs.RecordLaws.{records_length}
use Rattle.yaml_scan.specs.declared.Limits.{Limits}
use Rattle.yaml_scan.specs.Slots.{tokens_of}
use Rattle.yaml_scan.specs.Scan.{Answer, Outcome, Verdict, answer, answer_for, blank_answer, filled, lent, no_verdict, outcome, refusal, scanned, spent, stopped}

filled_length : (room : ℕ) (l : List ℕ) → length l ≤ room → length (filled room l) ≡ room
filled_length room l h =
    let e = length-append l (replicate (room - length l) 0) in
    let f = length-replicate {A = ℕ} (room - length l) 0 in
    omega arith

pub record Rooms (a : Answer) (w b : ℕ) : Type 0 where
  pub words_room : length a.words ≡ w
  pub bytes_room : length a.bytes ≡ b

blank_rooms : (v : Verdict) (w b : ℕ) → Rooms (blank_answer v w b) w b
blank_rooms v w b = record { words_room = length-replicate w 0; bytes_room = length-replicate b 0 }

lent_rooms : (ts : List Token) (w b : ℕ) → Rooms (lent ts w b) w b
unfolding lent
lent_rooms ts w b =
    by_test (ltb (w / record_words) (length ts))
    (λ e. rw (e, lent) (blank_rooms (refusal 4 origin (length ts) (length (texts ts))) w b))
    (λ e. by_test (ltb b (length (texts ts)))
    (λ f. rw (e, f, lent) (blank_rooms (refusal 5 origin (length ts) (length (texts ts))) w b))
    (λ f. rw (e, f, lent)
    (let i = ltb-false (w / record_words) (length ts) e in
    let j = ltb-false b (length (texts ts)) f in
    let k = records_length 0 ts in
    record { words_room = filled_length w (records 0 ts) (omega arith); bytes_room = filled_length b (texts ts) j })))

outcome_rooms : (o : Outcome) (w b : ℕ) → Rooms (answer_for o w b) w b
unfolding answer_for
outcome_rooms (scanned es) w b = lent_rooms (tokens_of es) w b
outcome_rooms (stopped n m) w b = blank_rooms (refusal n m 0 0) w b
outcome_rooms spent w b = blank_rooms no_verdict w b

pub answer_rooms : (limits : Limits) (bytes : List ℕ) (w b : ℕ) → Rooms (answer limits bytes w b) w b
unfolding answer
answer_rooms limits bytes w b = outcome_rooms (outcome limits bytes) w b
