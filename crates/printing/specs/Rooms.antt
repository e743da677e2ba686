-- What is accepted fits in the rooms lent.
use Rattle.std.specs.Prelude.{◌*◌, ◌/◌, ◌≤◌, ℕ, List, ◌≡◌, ltb, length, replicate}
use Rattle.std.proofs.Common.{ap, sym, arith, ltb-false}
use Rattle.std.proofs.lemmas.List.{length-replicate}
use Rattle.yaml_text.specs.Test.{by_test}
use Rattle.yaml_lexeme.specs.Token.{Token, texts}
use Rattle.yaml_lexeme.specs.Record.{record_words}
use Rattle.yaml_scan.specs.Scan.{Answer, Outcome, Verdict, accepted, answer, answer_for, lent, no_verdict, outcome, refusal, scanned, spent, stopped}
use Rattle.yaml_scan.specs.Slots.{tokens_of}
use Rattle.yaml_scan.specs.declared.Limits.{Limits}

-- T and D of an acceptance; 0 of a refusal, which leaves nothing
abbrev pub tokens_left : Verdict → ℕ
tokens_left (accepted t d) = t
tokens_left (refusal n m t d) = 0
tokens_left no_verdict = 0

abbrev pub bytes_left : Verdict → ℕ
bytes_left (accepted t d) = d
bytes_left (refusal n m t d) = 0
bytes_left no_verdict = 0

-- in w words and b bytes
pub record InRooms (v : Verdict) (w b : ℕ) : Type 0 where
  pub words : tokens_left v * record_words ≤ w
  pub bytes : bytes_left v ≤ b

lent_in_rooms : (ts : List Token) (w b : ℕ) → InRooms (lent ts w b).verdict w b
unfolding lent
lent_in_rooms ts w b =
    by_test (ltb (w / record_words) (length ts))
    (λ e. rw (lent, e) (record { words = omega arith; bytes = omega arith }))
    (λ e. by_test (ltb b (length (texts ts)))
    (λ f. rw (lent, e, f) (record { words = omega arith; bytes = omega arith }))
    (λ f. let h = ltb-false (w / record_words) (length ts) e in
    let g = ltb-false b (length (texts ts)) f in
    rw (lent, e, f) (record { words = omega arith; bytes = g })))

for_in_rooms : (o : Outcome) (w b : ℕ) → InRooms (answer_for o w b).verdict w b
unfolding answer_for
for_in_rooms (scanned es) w b = lent_in_rooms (tokens_of es) w b
for_in_rooms (stopped n m) w b = record { words = omega arith; bytes = omega arith }
for_in_rooms spent w b = record { words = omega arith; bytes = omega arith }

pub answer_in_rooms : (limits : Limits) (text : List ℕ) (w b : ℕ) → InRooms (answer limits text w b).verdict w b
unfolding answer
answer_in_rooms limits text w b = for_in_rooms (outcome limits text) w b

-- so is what is known to be the answer
pub in_rooms : (limits : Limits) (text : List ℕ) (w b : ℕ) {v : Verdict} {words bytes : List ℕ}
    → ◌≡◌ {A = Answer} (record { verdict = v; words = words; bytes = bytes }) (answer limits text w b) → InRooms v w b
in_rooms limits text w b {v} e =
    let f : (answer limits text w b).verdict ≡ v = ap (λ (a : Answer). a.verdict) (sym e) in
    rw f at (answer_in_rooms limits text w b)

-- an array of n numbers is n long. (Said of any n, since the length of a long one that is written out would be computed.)
pub array_length : (n v : ℕ) → n ≡ length {0} {A = ℕ} (replicate {0} {A = ℕ} n v)
array_length n v = sym (length-replicate n v)

pub array_holds : (n v k : ℕ) → k ≤ n → k ≤ length {0} {A = ℕ} (replicate {0} {A = ℕ} n v)
array_holds n v k h = omega (arith, length-replicate n v)
