-- The line of a vector: a text in hexadecimal, " => ", and its answer.
use Rattle.std.specs.Prelude.{◌%◌, ◌/◌, suc, zero, ℕ, List, [], ◌++◌, ◌∷◌, ◌≡◌, refl, eqb, drop, take}
use Rattle.io.specs.Digits.{hex_digit_ascii}
use Rattle.yaml_text.specs.Pick.{pick}
use Rattle.yaml_lexeme.specs.Record.{record_words}
use Rattle.yaml_scan.specs.Open.{all_open}
use Rattle.yaml_scan.specs.Scan.{Answer, Verdict, accepted, answer, no_verdict, refusal, standard}
use Rattle.printing.specs.Decimal.{decimal, place_more, places}
use Rattle.printing.specs.Lines.{end_before, numbers_line}
use Rattle.printing.specs.Listing.{mark_numbers}

-- two digits for each byte
unfoldable pub hex_text : List ℕ → List ℕ
hex_text [] = []
hex_text (b ∷ l) = hex_digit_ascii (b / 16) ∷ hex_digit_ascii (b % 16) ∷ hex_text l

-- " => " behind the text
unfoldable pub head_text : List ℕ → List ℕ
head_text text = hex_text text ++ (32 ∷ 61 ∷ 62 ∷ 32 ∷ [])

-- the byte behind a record that so many follow: '|' behind the last one, ';' behind the others
unfoldable pub row_end : ℕ → ℕ
row_end left = pick (eqb left 0) 124 59

-- the words of so many records
unfoldable pub rows_text : ℕ → List ℕ → List ℕ
rows_text zero words = []
rows_text (suc n) words = numbers_line 32 (row_end n) (take record_words words) ++ rows_text n (drop record_words words)

-- "A T D|", the records, the bytes
unfoldable pub accepted_text : ℕ → ℕ → List ℕ → List ℕ → List ℕ
accepted_text t d words bytes = (65 ∷ 32 ∷ []) ++ (numbers_line 32 124 (t ∷ d ∷ []) ++ (rows_text t words ++ (hex_text (take d bytes) ++ (10 ∷ []))))

-- "R number index line col"
unfoldable pub refused_text : List ℕ → List ℕ
refused_text numbers = (82 ∷ 32 ∷ []) ++ numbers_line 32 10 numbers

unfoldable pub verdict_text : Verdict → List ℕ → List ℕ → List ℕ
verdict_text (accepted t d) words bytes = accepted_text t d words bytes
verdict_text (refusal n m t d) words bytes = refused_text (n ∷ mark_numbers m)
verdict_text no_verdict words bytes = []

abbrev pub answer_text : Answer → List ℕ
answer_text a = verdict_text a.verdict a.words a.bytes

-- the line of a text in so many words and bytes
unfoldable pub vector_line : List ℕ → ℕ → ℕ → List ℕ
vector_line text w b = head_text text ++ answer_text (answer standard text w b)

-- `]` is refused
refused_line : vector_line (93 ∷ []) 60 1
    ≡ 53 ∷ 100 ∷ 32 ∷ 61 ∷ 62 ∷ 32 ∷ 82 ∷ 32 ∷ 52 ∷ 55 ∷ 32 ∷ 48 ∷ 32 ∷ 49 ∷ 32 ∷ 48 ∷ 10 ∷ []
unfolding all_open vector_line head_text hex_text verdict_text refused_text numbers_line end_before decimal places place_more
refused_line = refl

-- the empty text is accepted
accepted_line : vector_line [] 24 0
    ≡ 32 ∷ 61 ∷ 62 ∷ 32 ∷ 65 ∷ 32 ∷ 50 ∷ 32 ∷ 48 ∷ 124 ∷ 49 ∷ 32 ∷ 48 ∷ 32 ∷ 49 ∷ 32 ∷ 48 ∷ 32 ∷ 48 ∷ 32 ∷ 49 ∷ 32 ∷ 48 ∷ 32
    ∷ 48 ∷ 32 ∷ 48 ∷ 32 ∷ 48 ∷ 32 ∷ 48 ∷ 32 ∷ 48 ∷ 59 ∷ 50 ∷ 32 ∷ 48 ∷ 32 ∷ 49 ∷ 32 ∷ 48 ∷ 32 ∷ 48 ∷ 32 ∷ 49 ∷ 32 ∷ 48 ∷ 32
    ∷ 48 ∷ 32 ∷ 48 ∷ 32 ∷ 48 ∷ 32 ∷ 48 ∷ 32 ∷ 48 ∷ 124 ∷ 10 ∷ []
unfolding all_open vector_line head_text hex_text verdict_text accepted_text rows_text row_end numbers_line end_before decimal places place_more
accepted_line = refl
