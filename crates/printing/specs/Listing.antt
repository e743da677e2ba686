-- 01's listing of an answer ("The program"), as its lines of numbers.
use Rattle.std.specs.Prelude.{◌*◌, ◌-◌, ◌<◌, suc, zero, ℕ, List, [], ◌∷◌, map, ◌≡◌, refl, drop, get_or, length, take}
use Rattle.std.proofs.Common.{lt-ltb}
use Rattle.yaml_text.specs.Mark.{origin}
use Rattle.yaml_text.specs.declared.Mark.{Mark}
use Rattle.yaml_lexeme.specs.Record.{record_words}
use Rattle.yaml_scan.specs.Open.{all_open}
use Rattle.yaml_scan.specs.Scan.{Answer, Verdict, accepted, answer, answer_for, no_verdict, outcome, refusal}
use Rattle.yaml_scan.specs.declared.Limits.{Limits}
use Rattle.printing.specs.Decimal.{decimal, place_more, places}
use Rattle.printing.specs.Lines.{end_before, lines_text, numbers_line}

-- a word of a record, counted from 1
abbrev pub word : List ℕ → ℕ → ℕ
word r n = get_or r (n - 1) 0

-- kind, six mark numbers, style, words 9 and 11
unfoldable pub listed : List ℕ → List ℕ
listed r = map (word r) (1 ∷ 2 ∷ 3 ∷ 4 ∷ 5 ∷ 6 ∷ 7 ∷ 12 ∷ 9 ∷ 11 ∷ [])

-- a line for each of so many records
unfoldable pub token_lines : ℕ → List ℕ → List (List ℕ)
token_lines zero words = []
token_lines (suc n) words = listed (take record_words words) ∷ token_lines n (drop record_words words)

abbrev pub mark_numbers : Mark → List ℕ
mark_numbers m = m.index ∷ m.line ∷ m.col ∷ []

-- `T D`, then the tokens; a refusal is its number and mark
unfoldable pub verdict_lines : Verdict → List ℕ → List (List ℕ)
verdict_lines (accepted t d) words = (t ∷ d ∷ []) ∷ token_lines t words
verdict_lines (refusal n m t d) words = (n ∷ mark_numbers m) ∷ []
verdict_lines no_verdict words = []

abbrev pub listing : Answer → List (List ℕ)
listing a = verdict_lines a.verdict a.words

-- up to 512 bytes; more is refusal 1
abbrev pub sheet : Limits
sheet = record { bytes = 512; levels = 255; entries = 255 }

-- what the program writes of a text. Its rooms are as large as demand 3 asks for 512 bytes: 1,027 records and 768 bytes.
abbrev pub listing_of : List ℕ → List ℕ
listing_of text = lines_text (listing (answer sheet text (1_027 * record_words) 768))

-- of more than 512 bytes it is refusal 1, whatever they are
pub long_listing : (text : List ℕ) → 512 < length text → listing_of text ≡ lines_text ((1 ∷ mark_numbers origin) ∷ [])
unfolding answer outcome answer_for verdict_lines
long_listing text h = rw (answer, outcome, lt-ltb 512 (length text) h)

-- P2 whole, as 01 prints it
abbrev P2 : List ℕ
P2 = 45 ∷ 32 ∷ 97 ∷ []

P2_lines : listing (answer sheet P2 (1_027 * record_words) 768)
    ≡ (6 ∷ 1 ∷ [])
    ∷ (1 ∷ 0 ∷ 1 ∷ 0 ∷ 0 ∷ 1 ∷ 0 ∷ 0 ∷ 0 ∷ 0 ∷ [])
    ∷ (8 ∷ 0 ∷ 1 ∷ 0 ∷ 0 ∷ 1 ∷ 0 ∷ 0 ∷ 0 ∷ 0 ∷ [])
    ∷ (15 ∷ 0 ∷ 1 ∷ 0 ∷ 1 ∷ 1 ∷ 1 ∷ 0 ∷ 0 ∷ 0 ∷ [])
    ∷ (22 ∷ 2 ∷ 1 ∷ 2 ∷ 3 ∷ 1 ∷ 3 ∷ 1 ∷ 1 ∷ 0 ∷ [])
    ∷ (10 ∷ 3 ∷ 2 ∷ 0 ∷ 3 ∷ 2 ∷ 0 ∷ 0 ∷ 0 ∷ 0 ∷ [])
    ∷ (2 ∷ 3 ∷ 2 ∷ 0 ∷ 3 ∷ 2 ∷ 0 ∷ 0 ∷ 0 ∷ 0 ∷ [])
    ∷ []
unfolding all_open listed token_lines verdict_lines
P2_lines = refl

-- a text whose style and length differ: `"ab"`
quoted_lines : listing (answer sheet (34 ∷ 97 ∷ 98 ∷ 34 ∷ []) (1_027 * record_words) 768)
    ≡ (3 ∷ 2 ∷ [])
    ∷ (1 ∷ 0 ∷ 1 ∷ 0 ∷ 0 ∷ 1 ∷ 0 ∷ 0 ∷ 0 ∷ 0 ∷ [])
    ∷ (22 ∷ 0 ∷ 1 ∷ 0 ∷ 4 ∷ 1 ∷ 4 ∷ 3 ∷ 2 ∷ 0 ∷ [])
    ∷ (2 ∷ 4 ∷ 2 ∷ 0 ∷ 4 ∷ 2 ∷ 0 ∷ 0 ∷ 0 ∷ 0 ∷ [])
    ∷ []
unfolding all_open listed token_lines verdict_lines
quoted_lines = refl

-- `22 2 1` and a line feed
line_example : numbers_line 32 10 (22 ∷ 2 ∷ 1 ∷ []) ≡ 50 ∷ 50 ∷ 32 ∷ 50 ∷ 32 ∷ 49 ∷ 10 ∷ []
unfolding numbers_line end_before decimal places place_more
line_example = refl
