-- The reader's own words, which stand behind those of the stream.
use Rattle.std.specs.Prelude.{◌+◌, ℕ, Bool, not, List, [], ◌∷◌, eqb, get_or}
use Rattle.yaml_text.specs.Pick.{pick}
use Rattle.yaml_lexeme.specs.Record.{mark_in, mark_words}
use Rattle.yaml_job.specs.declared.Closing.{Closing}
use Rattle.yaml_job.specs.declared.Closing.TheVariants.{Done, NotDone}
use Rattle.yaml_job.specs.declared.Field.{Field}
use Rattle.yaml_job.specs.declared.Field.TheVariants.{Panel, Sample, Seeds}
use Rattle.yaml_job.specs.declared.Form.{Form}
use Rattle.yaml_job.specs.declared.Form.TheVariants.{Block, Braces}
use Rattle.yaml_job.specs.declared.Met.{Met}
use Rattle.yaml_job.specs.declared.ShapePlace.{ShapePlace}
use Rattle.yaml_job.specs.declared.ShapePlace.TheVariants.{AtEnd, AtEntry, AtField, AtList, AtMapping, AtName, AtStart, AtText, AtValue, BehindField, BehindSeed}
use Rattle.driver.specs.Held.{held_words, word}
use Rattle.job.specs.declared.Reader.{Reader}
use Rattle.job.specs.declared.Reader.TheVariants.{Ended, Reading}

abbrev pub own_words : ℕ
own_words = 11

abbrev pub job_words : ℕ
job_words = held_words + own_words

-- where each stands: the place in the shape (with the numbers of its form and its field), or that the job is closed; the fields met; the count; a refusal

abbrev pub place_at : ℕ
place_at = held_words

abbrev pub met_at : ℕ
met_at = held_words + 3

abbrev pub count_at : ℕ
count_at = held_words + 6

abbrev pub number_at : ℕ
number_at = held_words + 7

abbrev pub mark_at : ℕ
mark_at = held_words + 8

abbrev pub done_number : ℕ
done_number = 11

abbrev pub not_done_number : ℕ
not_done_number = 12

-- the words of a reader

abbrev pub form_number : Form → ℕ
form_number Block = 0
form_number Braces = 1

abbrev pub field_number : Field → ℕ
field_number Sample = 0
field_number Panel = 1
field_number Seeds = 2

-- a place, its form and its field, 0 where it has none
abbrev pub place_words : ShapePlace → List ℕ
place_words AtStart = 0 ∷ 0 ∷ 0 ∷ []
place_words AtMapping = 1 ∷ 0 ∷ 0 ∷ []
place_words (AtField g) = 2 ∷ form_number g ∷ 0 ∷ []
place_words (AtName g) = 3 ∷ form_number g ∷ 0 ∷ []
place_words (AtValue g f) = 4 ∷ form_number g ∷ field_number f ∷ []
place_words (AtText g) = 5 ∷ form_number g ∷ 0 ∷ []
place_words (AtList g) = 6 ∷ form_number g ∷ 0 ∷ []
place_words (AtEntry g) = 7 ∷ form_number g ∷ 0 ∷ []
place_words (BehindSeed g) = 8 ∷ form_number g ∷ 0 ∷ []
place_words BehindField = 9 ∷ 0 ∷ 0 ∷ []
place_words AtEnd = 10 ∷ 0 ∷ 0 ∷ []

abbrev pub flag : Bool → ℕ
flag b = pick b 1 0

abbrev pub reading_words : ShapePlace → Met → ℕ → List ℕ
reading_words p m n =
    let w = place_words p in
    get_or w 0 0 ∷ get_or w 1 0 ∷ get_or w 2 0 ∷ flag m.sample ∷ flag m.panel ∷ flag m.seeds ∷ n ∷ 0 ∷ 0 ∷ 0 ∷ 0 ∷ []

abbrev pub closed_words : Closing → List ℕ
closed_words (Done n) = done_number ∷ 0 ∷ 0 ∷ 0 ∷ 0 ∷ 0 ∷ n ∷ 0 ∷ 0 ∷ 0 ∷ 0 ∷ []
closed_words (NotDone r k n) = not_done_number ∷ 0 ∷ 0 ∷ 0 ∷ 0 ∷ 0 ∷ n ∷ r ∷ mark_words k []

abbrev pub reading_at : ShapePlace → Met → ℕ → Reader
reading_at p m n = Reading (record { place = p; met = m; count = n })

unfoldable pub reader_words : Reader → List ℕ
reader_words (Reading s) = reading_words s.place s.met s.count
reader_words (Ended c) = closed_words c

-- the reader of a state, whatever it holds

abbrev pub form_of : ℕ → Form
form_of n = pick (eqb n 0) Block Braces

-- by their numbers; the last of them for any other number

abbrev pub fields : List Field
fields = Sample ∷ Panel ∷ []

abbrev pub field_of : ℕ → Field
field_of n = get_or fields n Seeds

abbrev pub places : Form → Field → List ShapePlace
places g f = AtStart ∷ AtMapping ∷ AtField g ∷ AtName g ∷ AtValue g f ∷ AtText g ∷ AtList g ∷ AtEntry g ∷ BehindSeed g ∷ BehindField ∷ []

abbrev pub place_of : ℕ → Form → Field → ShapePlace
place_of n g f = get_or (places g f) n AtEnd

abbrev pub met_in : List ℕ → Met
met_in st = record { sample = not (eqb (word st met_at) 0); panel = not (eqb (word st (met_at + 1)) 0); seeds = not (eqb (word st (met_at + 2)) 0) }

abbrev pub reading_in : List ℕ → Reader
reading_in st = reading_at (place_of (word st place_at) (form_of (word st (place_at + 1))) (field_of (word st (place_at + 2)))) (met_in st) (word st count_at)

abbrev pub refused_in : List ℕ → Closing
refused_in st = NotDone (word st number_at) (mark_in st mark_at) (word st count_at)

unfoldable pub reader_in : List ℕ → Reader
reader_in st =
    pick (eqb (word st place_at) done_number) (Ended (Done (word st count_at)))
    (pick (eqb (word st place_at) not_done_number) (Ended (refused_in st)) (reading_in st))
