-- Records with notes, and the records that they stand for in the end.
use Rattle.std.specs.Prelude.{◌*◌, ◌+◌, suc, zero, ℕ, List, [], ◌++◌, ◌∷◌, eqb, drop, length, take}
use Rattle.yaml_text.specs.Pick.{pick}
use Rattle.yaml_lexeme.specs.Token.{BlockMappingStart, FlowMappingStart, Key, Kind}
use Rattle.yaml_lexeme.specs.Record.{laid, number_of, record_words}
use Rattle.records.specs.Note.{empty_at, note_in, without_note}

unfoldable pub opener : ℕ → Kind
opener n = pick (eqb n 2) FlowMappingStart BlockMappingStart

-- what goes in before a token with the note n
unfoldable pub note_kinds : ℕ → List Kind
note_kinds zero = []
note_kinds (suc zero) = Key ∷ []
note_kinds (suc (suc n)) = opener (suc (suc n)) ∷ Key ∷ []

-- word 1 of a kind that has no text
abbrev pub number : Kind → ℕ
number k = number_of (laid 0 k)

unfoldable pub empties : List Kind → List ℕ → List ℕ
empties [] r = []
empties (k ∷ ks) r = empty_at (number k) r ++ empties ks r

-- how many records go in, and their words
abbrev pub extra : ℕ → ℕ
extra n = length (note_kinds n)

abbrev pub before : ℕ → List ℕ → List ℕ
before n r = empties (note_kinds n) r

-- what stands in the end for a record: those that go in before it, and itself
abbrev pub block : List ℕ → List ℕ
block r = before (note_in r) r ++ without_note r

abbrev pub count : List ℕ → ℕ
count r = extra (note_in r) + 1

-- the first n records of the words
abbrev pub record_at : ℕ → List ℕ → List ℕ
record_at i l = take record_words (drop (i * record_words) l)

unfoldable pub front : ℕ → List ℕ → List (List ℕ)
front zero l = []
front (suc i) l = front i l ++ (record_at i l ∷ [])

-- how many records they come to, and their words
unfoldable pub total_records : List (List ℕ) → ℕ
total_records [] = 0
total_records (r ∷ rs) = count r + total_records rs

unfoldable pub flatten : List (List ℕ) → List ℕ
flatten [] = []
flatten (r ∷ rs) = block r ++ flatten rs

-- the first n records in their final places, and what stood behind these places
abbrev pub settled_words : ℕ → List ℕ → List ℕ
settled_words n l = flatten (front n l) ++ drop (total_records (front n l) * record_words) l
