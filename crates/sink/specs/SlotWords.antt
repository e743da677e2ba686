-- The words of the definition's slots: the record of each slot's token, its texts behind the bytes used so far, with its note.
use Rattle.std.specs.Prelude.{◌%◌, ◌*◌, ◌+◌, ◌<◌, ◌≤◌, suc, zero, ℕ, List, [], ◌++◌, ◌∷◌, map, ◌≡◌, refl, eqb, drop, length, set}
use Rattle.std.proofs.Common.{append_assoc, append-nil, ◌∙◌, sym, arith, length-append, length-drop, drop-drop, get_or-append-add, take_at}
use Rattle.std.proofs.Math.Seq.{drop-append-add}
use Rattle.std.proofs.lemmas.List.Edits.{sets-eq}
use Rattle.yaml_text.specs.Pick.{pick}
use Rattle.yaml_lexeme.specs.declared.Kind.TheVariants.{FlowMappingStart}
use Rattle.yaml_lexeme.specs.declared.Token.{Token as HeldToken}
use Rattle.yaml_lexeme.specs.Token.{Token, token_bytes}
use Rattle.yaml_lexeme.specs.RecordLaws.{record_length}
use Rattle.yaml_lexeme.specs.Record.{laid, laid_token, number_of, record_of, record_words}
use Rattle.yaml_scan.specs.Slots.{Slot, note, slot}
use Rattle.yaml_scan.specs.SlotLaws.{note_length}
use Rattle.records.specs.Kinds.{note_base}
use Rattle.records.specs.Note.{no_note, noted_word, with_note, with_note_length}
use Rattle.sink.specs.Store.{put_note, put_note_in, put_record, put_record_in}
use Rattle.rooms.specs.Room.{set_behind}

-- the note of tokens that go in before another: as code holds them; of the definition
unfoldable pub note_number : List HeldToken → ℕ
note_number [] = 0
note_number (t ∷ []) = 1
note_number (t ∷ u ∷ us) = pick (eqb (number_of t.kind) (number_of FlowMappingStart)) 2 3

abbrev pub laid_tokens : ℕ → List Token → List HeldToken
laid_tokens used ts = map (λ (t : Token). laid_token used t) ts

abbrev pub note_of : List Token → ℕ
note_of ts = note_number (laid_tokens 0 ts)

abbrev pub laid_record : ℕ → Token → List ℕ
laid_record used t = record_of (laid_token used t)

abbrev pub slot_record : ℕ → Slot → List ℕ
slot_record used x = with_note (note_of x.before) (laid_record used x.token)

unfoldable pub slot_words : ℕ → List Slot → List ℕ
slot_words used [] = []
slot_words used (x ∷ xs) = slot_record used x ++ slot_words (used + length (token_bytes x.token)) xs

-- the bytes of the slots' texts
unfoldable pub slot_texts : List Slot → List ℕ
slot_texts [] = []
slot_texts (x ∷ xs) = token_bytes x.token ++ slot_texts xs

abbrev pub used_by : List Slot → ℕ
used_by xs = length (slot_texts xs)

-- the words l with these slots in front, so many bytes of text having come before
abbrev pub with_slots : ℕ → List Slot → List ℕ → List ℕ
with_slots used xs l = slot_words used xs ++ drop (length xs * record_words) l

pub slot_record_length : (used : ℕ) (x : Slot) → length (slot_record used x) ≡ record_words
slot_record_length used x = with_note_length (laid_token used x.token) (note_of x.before)

-- the words of slots

pub slot_words_length : (used : ℕ) (xs : List Slot) → length (slot_words used xs) ≡ length xs * record_words
unfolding slot_words
slot_words_length used [] = refl
slot_words_length used (x ∷ xs) =
    let u = used + length (token_bytes x.token) in
    let e = length-append (slot_record used x) (slot_words u xs) in
    let f = slot_record_length used x in
    let g = slot_words_length u xs in
    omega arith

slot_words_more : (used : ℕ) (t : Token) (xs : List Slot) → slot_words used (xs ++ (slot t [] ∷ [])) ≡ slot_words used xs ++ laid_record (used + used_by xs) t
unfolding slot_words slot_texts note_number
slot_words_more used t [] =
    let e : used + 0 ≡ used = omega arith in
    rw (no_note (laid_token used t), e) (append-nil (laid_record used t))
slot_words_more used t (x ∷ xs) =
    let b = token_bytes x.token in
    let u = used + length b in
    let e : used + length (b ++ slot_texts xs) ≡ u + used_by xs = omega (arith, length-append b (slot_texts xs)) in
    rw (slot_words_more u t xs, e) (sym (append_assoc (slot_record used x) (slot_words u xs) (laid_record (u + used_by xs) t)))

put_behind : (a r l : List ℕ) (n : ℕ) → length a ≡ n * record_words → length r ≡ record_words → suc n * record_words ≤ length l
    → put_record (a ++ drop (n * record_words) l) n r ≡ (a ++ r) ++ drop (suc n * record_words) l
put_behind a r l n e f h =
    let p = n * record_words in
    let d = drop p l in
    let g = length-append a d in
    let k = length-drop p l in
    let room : p + record_words ≤ length (a ++ d) = omega arith in
    let room' : p + length r ≤ length (a ++ d) = omega arith in
    let s : p + length r ≡ length a + record_words = omega arith in
    let q : suc n * record_words ≡ p + record_words = omega arith in
    put_record_in (a ++ d) n r room
    ∙ sets-eq r (a ++ d) p room'
    ∙ rw (take_at a d p e, s, drop-append-add a d record_words, drop-drop record_words p l, q)

pub length_more : (xs : List Slot) (x : Slot) → length (xs ++ (x ∷ [])) ≡ suc (length xs)
length_more xs x = let e = length-append xs (x ∷ []) in omega arith

-- (a) the record of a token, its texts behind those of the slots, goes into the next slot
pub slots_put : (used : ℕ) (xs : List Slot) (t : Token) (l : List ℕ) → suc (length xs) * record_words ≤ length l
    → put_record (with_slots used xs l) (length xs) (laid_record (used + used_by xs) t) ≡ with_slots used (xs ++ (slot t [] ∷ [])) l
slots_put used xs t l h =
    let u = used + used_by xs in
    put_behind (slot_words used xs) (laid_record u t) l (length xs) (slot_words_length used xs) (record_length (laid_token u t)) h
    ∙ rw (slot_words_more used t xs, length_more xs (slot t []))

note_there : (n used : ℕ) (ts : List Token) (xs : List Slot) (l : List ℕ) → n < length xs
    → set (slot_words used xs ++ l) (n * record_words) (noted_word (slot_words used xs ++ l) (n * record_words) (note_of ts)) ≡ slot_words used (note n ts xs) ++ l
unfolding slot_words note record_of
note_there n used ts [] l h = absurd (omega arith)
note_there zero used ts (x ∷ xs) l h =
    let k = number_of (laid used x.token.kind) in
    let e : (k % note_base + note_base * note_of x.before) % note_base ≡ k % note_base = omega arith in
    rw e
note_there (suc n) used ts (x ∷ xs) l h =
    let r = slot_record used x in
    let u = used + length (token_bytes x.token) in
    let w = slot_words u xs in
    let e : suc n * record_words ≡ length r + n * record_words = (let f = slot_record_length used x in omega arith) in
    rw (append_assoc r w l, e, get_or-append-add r (w ++ l) (n * record_words) 0, set_behind r (w ++ l) (n * record_words), note_there n u ts xs l (omega arith))
    (sym (append_assoc r (slot_words u (note n ts xs)) l))

-- (b) a note on the token of a slot
pub slots_note : (n used : ℕ) (ts : List Token) (xs : List Slot) (l : List ℕ) → n < length xs → length xs * record_words ≤ length l
    → put_note (with_slots used xs l) n (note_of ts) ≡ with_slots used (note n ts xs) l
slots_note n used ts xs l h g =
    let d = drop (length xs * record_words) l in
    let e = length-append (slot_words used xs) d in
    let f = slot_words_length used xs in
    put_note_in (with_slots used xs l) n (note_of ts) (omega arith) ∙ note_there n used ts xs d h ∙ rw (note_length n ts xs)
