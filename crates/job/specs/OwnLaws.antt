-- Laws of the reader's own words: what was stored is read back, and neither the reader nor the stream changes the other's words.
use Rattle.std.specs.Prelude.{◌+◌, ◌<◌, zero, ℕ, Bool, false, not, true, List, ◌++◌, ◌≡◌, refl, eqb, drop, get_or, length, replicate, take}
use Rattle.std.proofs.Common.{◌∙◌, [], ap, sym, append-nil, arith, drop_of_length-le, length-append, length-drop, length-take-le, take_at, ne_eqb}
use Rattle.std.proofs.lemmas.List.{get_or-replicate, length-replicate, replicate-append-replicate}
use Rattle.std.proofs.Math.Seq.{length_front}
use Rattle.std.proofs.lemmas.List.Edits.{sets, sets-eq}
use Rattle.yaml_job.specs.declared.Closing.TheVariants.{Done, NotDone}
use Rattle.yaml_job.specs.declared.Field.{Field}
use Rattle.yaml_job.specs.declared.Field.TheVariants.{Panel, Sample, Seeds}
use Rattle.yaml_job.specs.declared.Form.{Form}
use Rattle.yaml_job.specs.declared.Form.TheVariants.{Block, Braces}
use Rattle.yaml_job.specs.declared.ShapePlace.{ShapePlace}
use Rattle.yaml_job.specs.declared.ShapePlace.TheVariants.{AtEnd, AtEntry, AtField, AtList, AtMapping, AtName, AtStart, AtText, AtValue, BehindField, BehindSeed}
use Rattle.yaml_job.specs.Job.{none_met}
use Rattle.rooms.specs.Room.{take_sets}
use Rattle.stacks.proofs.Frames.{get_d_sets}
use Rattle.driver.specs.Held.{held_words, word}
use Rattle.job.specs.declared.Reader.{Reader}
use Rattle.job.specs.declared.Reader.TheVariants.{Ended, Reading}
use Rattle.job.specs.Own.{count_at, done_number, field_number, field_of, flag, form_number, form_of, job_words, met_in, not_done_number, own_words, place_at, place_of, place_words, reader_in, reader_words, reading_at, reading_in, refused_in}

-- the reader of a state, by the word at its place

pub done_in : (st : List ℕ) → word st place_at ≡ done_number → reader_in st ≡ Ended (Done (word st count_at))
unfolding reader_in
done_in st e = rw e

pub not_done_in : (st : List ℕ) → word st place_at ≡ not_done_number → reader_in st ≡ Ended (refused_in st)
unfolding reader_in
not_done_in st e = rw e

pub not_closed_in : (st : List ℕ) → (Unit {0} × (word st place_at ≡ done_number → ⊥)) × (word st place_at ≡ not_done_number → ⊥) → reader_in st ≡ reading_in st
unfolding reader_in
not_closed_in st o = rw (ne_eqb (word st place_at) done_number o.0.1, ne_eqb (word st place_at) not_done_number o.1)

pub reading_from : (st : List ℕ) {g : Form} {f : Field} {p : ShapePlace} → g ≡ form_of (word st (place_at + 1)) → f ≡ field_of (word st (place_at + 2))
    → p ≡ place_of (word st place_at) g f → reading_at p (met_in st) (word st count_at) ≡ reading_in st
reading_from st a b c = rw (c, a, b)

-- each number is read back

form_back : (g : Form) → form_of (form_number g) ≡ g
form_back Block = refl
form_back Braces = refl

field_back : (f : Field) → field_of (field_number f) ≡ f
field_back Sample = refl
field_back Panel = refl
field_back Seeds = refl

flag_back : (b : Bool) → not (eqb (flag b) 0) ≡ b
flag_back true = refl
flag_back false = refl

-- and a place is not taken for a closed job
abbrev PlaceBack : ShapePlace → ℕ → ℕ → ℕ → Type 0
PlaceBack p n g f = (eqb n done_number ≡ false) × (eqb n not_done_number ≡ false) × (place_of n (form_of g) (field_of f) ≡ p)

place_back : (p : ShapePlace) → let w = place_words p in PlaceBack p (get_or w 0 0) (get_or w 1 0) (get_or w 2 0)
place_back AtStart = (refl, refl, refl)
place_back AtMapping = (refl, refl, refl)
place_back (AtField g) = (refl, refl, rw (form_back g))
place_back (AtName g) = (refl, refl, rw (form_back g))
place_back (AtValue g f) = (refl, refl, rw (form_back g, field_back f))
place_back (AtText g) = (refl, refl, rw (form_back g))
place_back (AtList g) = (refl, refl, rw (form_back g))
place_back (AtEntry g) = (refl, refl, rw (form_back g))
place_back (BehindSeed g) = (refl, refl, rw (form_back g))
place_back BehindField = (refl, refl, refl)
place_back AtEnd = (refl, refl, refl)

-- the words behind the stream's

pub own_length : (r : Reader) → length (reader_words r) ≡ own_words
unfolding reader_words
own_length (Reading s) = refl
own_length (Ended (Done n)) = refl
own_length (Ended (NotDone r k n)) = refl

reader_read : (st : List ℕ) (r : Reader) → ((j : ℕ) → j < own_words → word st (held_words + j) ≡ get_or (reader_words r) j 0) → reader_in st ≡ r
unfolding reader_in reader_words
reader_read st (Ended (Done n)) w = rw (w 0 (omega arith), w 6 (omega arith))
reader_read st (Ended (NotDone r k n)) w = rw (w 0 (omega arith), w 6 (omega arith), w 7 (omega arith), w 8 (omega arith), w 9 (omega arith), w 10 (omega arith))
reader_read st (Reading s) w =
    let b = place_back s.place in
    rw (w 0 (omega arith), w 1 (omega arith), w 2 (omega arith), w 3 (omega arith), w 4 (omega arith), w 5 (omega arith), w 6 (omega arith))
    (rw (b.0, b.1, b.2, flag_back s.met.sample, flag_back s.met.panel, flag_back s.met.seeds))

-- a reader that was stored is read back; the stream's words stay

pub reader_back : (st : List ℕ) (r : Reader) → length st ≡ job_words → reader_in (sets st held_words (reader_words r)) ≡ r
reader_back st r h =
    let e = own_length r in
    reader_read (sets st held_words (reader_words r)) r (λ j o. get_d_sets (reader_words r) st held_words j (omega (arith, e, h)) (omega (arith, e, o)))

pub stream_stays : (st ws : List ℕ) → take held_words (sets st held_words ws) ≡ take held_words st
stream_stays st ws = take_sets ws st held_words held_words (omega arith)

-- they were lent as a part of the state, and came back as `held`
module _ (st held : List ℕ) (long : length st ≡ job_words) (same : length held ≡ length (take held_words st)) where
  abbrev pub lent : List ℕ
  lent = held ++ drop held_words st

  held_long : length held ≡ held_words
  held_long = same ∙ length-take-le held_words st (omega (arith, long))

  pub lent_long : length lent ≡ job_words
  lent_long = length_front st held held_words same ∙ long

  pub lent_stream : take held_words lent ≡ held
  lent_stream = take_at held (drop held_words st) held_words held_long

  -- then a reader was stored
  pub then_stored : (r : Reader) {ws st' : List ℕ} → ws ≡ reader_words r → st' ≡ sets lent held_words ws → (reader_in st' ≡ r) × (take held_words st' ≡ held)
  then_stored r {ws} e f = rw (f, e) (reader_back lent r lent_long, stream_stays lent (reader_words r) ∙ lent_stream)

-- the two parts of a state, each written anew, are the state in which the reader's words were stored
pub parts_stored : (st h ws : List ℕ) → length st ≡ job_words → length h ≡ held_words → length ws ≡ own_words
    → h ++ ws ≡ sets (h ++ drop held_words st) held_words ws
parts_stored st h ws e f g =
    let d = length-drop held_words st in
    let front : take held_words (h ++ drop held_words st) ≡ h = take_at h (drop held_words st) held_words f in
    let none : drop (held_words + length ws) (h ++ drop held_words st) ≡ [] =
    drop_of_length-le (h ++ drop held_words st) (omega (arith, e, f, g, d, length-append h (drop held_words st))) in
    sym (sets-eq ws (h ++ drop held_words st) held_words (omega (arith, e, f, g, d, length-append h (drop held_words st))) ∙ rw (front, none, append-nil))

-- a state that is all zero

pub zeros_reader : (st : List ℕ) → st ≡ replicate job_words 0 → reader_in st ≡ reading_at AtStart none_met 0
unfolding reader_words
zeros_reader st e =
    reader_read st (reading_at AtStart none_met 0)
    (λ j o. ap (λ (l : List ℕ). word l (held_words + j)) e ∙ get_or-replicate job_words (held_words + j) 0 0 (omega arith) ∙ sym (get_or-replicate own_words j 0 0 o))

take_replicate : (n m a : ℕ) → take n (replicate (n + m) a) ≡ replicate n a
take_replicate n m a =
    ap (λ (l : List ℕ). take n l) (sym (replicate-append-replicate n m a)) ∙ take_at (replicate n a) (replicate m a) n (length-replicate n a)

pub zeros_stream : take {A = ℕ} held_words (replicate job_words 0) ≡ replicate held_words 0
zeros_stream = take_replicate held_words own_words 0
