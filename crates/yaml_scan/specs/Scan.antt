-- The step, the run, and the whole answer for lent rooms.
use Rattle.std.specs.Prelude.{◌-◌, ◌/◌, suc, zero, ℕ, false, true, List, [], ◌++◌, ◌∷◌, ltb, length, replicate}
use Rattle.yaml_text.specs.declared.Mark.{Mark}
use Rattle.yaml_text.specs.Pick.{pick}
use Rattle.yaml_text.specs.Mark.{edge_of, here, origin}
use Rattle.yaml_text.specs.Refusal.{Read, ◌>>=◌, got, refused}
use Rattle.yaml_text.specs.Decode.{decode}
use Rattle.yaml_lexeme.specs.Token.{StreamStart, Token, empty_token, texts}
use Rattle.yaml_lexeme.specs.Record.{record_words, records}
use Rattle.yaml_lexeme.specs.declared.Before.TheVariants.{AfterText, Leading}
use Rattle.yaml_lexeme.specs.Gap.{skip_gap}
use Rattle.yaml_scan.specs.Indent.{Unrolled, indents_of}
use Rattle.yaml_scan.specs.declared.Candidate.TheVariants.{Absent}
use Rattle.yaml_scan.specs.declared.Limits.{Limits}
use Rattle.yaml_scan.specs.State.{Event, News, State, allow, at_place, block_ends, counting, ends_with, goes_on, in_flow, lapse_key, mark_of, preceded, put, rest_of, unroll_to, with_indents}
use Rattle.yaml_scan.specs.Fetch.{fetch_next}
use Rattle.yaml_scan.specs.Slots.{tokens_of}

-- K1, K2: the gap, then the lapse [J2]
unfoldable pub to_next_token : State → Read State
to_next_token s = do
  g ← skip_gap (in_flow s) s.simple_key_allowed (pick s.leading_whitespace Leading AfterText) (mark_of s) (rest_of s)
  lapse_key (at_place g.place g.leading_whitespace (allow g.simple_key_allowed s))

-- unroll_indent to the column; in flow nothing ends [A1, J1]
unfoldable pub unrolled : State → Unrolled
unrolled s = elim (in_flow s) [
  | true ↦ record { ended = 0; indents = s.indents }
  | false ↦ unroll_to (edge_of (mark_of s)) s
]

-- K3: after gaps, lapse and unroll_indent to the column, one token
unfoldable pub step : Limits → State → Read News
step limits s₀ = do
  s ← to_next_token s₀
  let u = unrolled s
  n ← fetch_next limits (counting u.ended (with_indents u.indents s))
  got (preceded (block_ends u.ended (mark_of s)) n)

-- what a run comes to
pub data Outcome : Type 0 where
  scanned : List Event → Outcome
  stopped : ℕ → Mark → Outcome
  -- out of budget
  spent : Outcome

abbrev pub after_events : List Event → Outcome → Outcome
after_events es (scanned fs) = scanned (es ++ fs)
after_events es (stopped n m) = stopped n m
after_events es spent = spent

abbrev pub after_step : Read News → (State → Outcome) → Outcome
after_step (got (goes_on es s)) go = after_events es (go s)
after_step (got (ends_with es)) go = scanned es
after_step (refused n m) go = stopped n m

-- steps, as many as the budget has
unfoldable pub run : Limits → ℕ → State → Outcome
run limits zero s = spent
run limits (suc k) s = after_step (step limits s) (λ s'. run limits k s')

-- StreamStart was given
abbrev pub begin : List ℕ → State
begin cs =
    record { place = here origin cs; leading_whitespace = true; simple_key_allowed = true; indents = indents_of 0 []; keys = Absent ∷ []; levels = []; adjacent_value_allowed_at = 0; count = 1 }

-- each step but the last takes a character
unfoldable pub scan : Limits → List ℕ → Outcome
scan limits cs = after_events (put (empty_token StreamStart origin) ∷ []) (run limits (suc (length cs)) (begin cs))

-- the answer, with what both rooms hold behind it
pub data Verdict : Type 0 where
  -- T and D
  accepted : ℕ → ℕ → Verdict
  -- number, mark, T and D
  refusal : ℕ → Mark → ℕ → ℕ → Verdict
  -- out of budget
  no_verdict : Verdict

pub record Answer : Type 0 where
  pub verdict : Verdict
  pub words : List ℕ
  pub bytes : List ℕ

-- both rooms zero
abbrev pub blank_answer : Verdict → ℕ → ℕ → Answer
blank_answer v words_room bytes_room = record { verdict = v; words = replicate words_room 0; bytes = replicate bytes_room 0 }

-- as it stands, zeros behind it
abbrev pub filled : ℕ → List ℕ → List ℕ
filled room l = l ++ replicate (room - length l) 0

-- 4: T exceeds the whole records that fit; 5: D exceeds the bytes
unfoldable pub lent : List Token → ℕ → ℕ → Answer
lent ts words_room bytes_room =
    let t = length ts in
    let d = length (texts ts) in
    elim (ltb (words_room / record_words) t) [
      | true ↦ blank_answer (refusal 4 origin t d) words_room bytes_room
      | false ↦ elim (ltb bytes_room d) [
        | true ↦ blank_answer (refusal 5 origin t d) words_room bytes_room
        | false ↦ record { verdict = accepted t d; words = filled words_room (records 0 ts); bytes = filled bytes_room (texts ts) }
      ]
    ]

unfoldable pub answer_for : Outcome → ℕ → ℕ → Answer
answer_for (scanned es) words_room bytes_room = lent (tokens_of es) words_room bytes_room
answer_for (stopped n m) words_room bytes_room = blank_answer (refusal n m 0 0) words_room bytes_room
answer_for spent words_room bytes_room = blank_answer no_verdict words_room bytes_room

unfoldable pub outcome : Limits → List ℕ → Outcome
outcome limits bytes =
    elim (ltb limits.bytes (length bytes)) [
      | true ↦ stopped 1 origin
      | false ↦ elim (decode 0 origin bytes) [
        | got cs ↦ scan limits cs
        | refused n m ↦ stopped n m
      ]
    ]

-- the whole answer. Order: 1; 2 or 3; the first rule broken; 4; 5
unfoldable pub answer : Limits → List ℕ → ℕ → ℕ → Answer
answer limits bytes words_room bytes_room = answer_for (outcome limits bytes) words_room bytes_room

-- the limits of 01
abbrev pub standard : Limits
standard = record { bytes = 1_048_576; levels = 255; entries = 255 }
