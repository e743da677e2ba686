-- The words of the first slot that waits: its record, and what is left when its first token was given. A note is known by its number.
use Prim.Native.Nat.{◌%◌, ◌*◌, ◌+◌, ◌≤◌, ℕ}
use mathlib.Core.List.{List, [], ◌++◌, ◌∷◌}
use mathlib.Core.Path.{◌∙◌, ◌≡◌, ap, refl, sym}
use native.Mathlib.Omega.{arith}
use lib.ListN.{drop, get_or, length, set, take}
use lib.Seq.{drop_at, drop-drop, drop-set-add, get_or-drop, get_or-take, take-add, take_at, take-set-lt, take-take}
use Rattle.yaml_lexeme.specs.Token.{Token, kind_bytes, token_bytes}
use Rattle.yaml_lexeme.specs.Record.{laid, laid_token, number_of, record_of, record_words, values_of}
use Rattle.yaml_scan.specs.Slots.{Slot, slot}
use Rattle.yaml_stream.specs.Notes.{Note, block, key, pair}
use Rattle.records.specs.Kinds.{note_base}
use Rattle.records.specs.Note.{no_note, note_in, note_read, noted_word}
use Rattle.sink.specs.Settle.{opener}
use Rattle.sink.specs.SlotWords.{laid_record, note_number, note_of, slot_record, slot_record_length, slot_words}
use Rattle.stream.specs.Words.{first_number, note_left, own, record_from, token_words}

-- the words that begin at i hold the slot x, then xs
module _ (used : ℕ) (x : Slot) (xs : List Slot) (l : List ℕ) (i : ℕ) (e : take (length (x ∷ xs) * record_words) (drop i l) ≡ slot_words used (x ∷ xs)) where
  abbrev then_used : ℕ
  then_used = used + length (token_bytes x.token)

  abbrev all : ℕ
  all = length (x ∷ xs) * record_words

  pub first_record : record_from l i ≡ slot_record used x
  unfolding slot_words
  first_record =
      sym (take-take record_words all (drop i l) (omega arith)) ∙ ap (λ (w : List ℕ). take record_words w) e
      ∙ take_at (slot_record used x) (slot_words then_used xs) record_words (slot_record_length used x)

  -- behind it
  pub other_records : take (length xs * record_words) (drop (i + record_words) l) ≡ slot_words then_used xs
  unfolding slot_words
  other_records =
      let d = drop i l in
      let k = length xs * record_words in
      let r = slot_record used x in
      let s : all ≡ record_words + k = omega arith in
      let t : take (record_words + k) d ≡ r ++ slot_words then_used xs = rw (sym s) e in
      ap (λ (w : List ℕ). take k w) (sym (drop-drop record_words i l))
      ∙ sym (drop_at (take record_words d) (take k (drop record_words d)) record_words (ap length first_record ∙ slot_record_length used x))
      ∙ ap (λ (w : List ℕ). drop record_words w) (sym (take-add record_words k d) ∙ t)
      ∙ drop_at r (slot_words then_used xs) record_words (slot_record_length used x)

  -- with another note
  pub noted_first : (bs : List Token) → take all (drop i (set l i (noted_word l i (note_of bs)))) ≡ slot_words used (slot x.token bs ∷ xs)
  unfolding slot_words record_of
  noted_first bs =
      let v = noted_word l i (note_of bs) in
      let z : i + 0 ≡ i = omega arith in
      let g : get_or l i 0 ≡ get_or (slot_words used (x ∷ xs)) 0 0 =
      ap (λ (j : ℕ). get_or l j 0) (sym z) ∙ sym (get_or-drop i l 0 0) ∙ sym (get_or-take all (drop i l) 0 0 (omega arith)) ∙ ap (λ (w : List ℕ). get_or w 0 0) e in
      let k = number_of (laid used x.token.kind) in
      let o : (k % note_base + note_base * note_of x.before) % note_base ≡ k % note_base = omega arith in
      ap (λ (j : ℕ). take all (drop i (set l j v))) (sym z) ∙ ap (λ (w : List ℕ). take all w) (drop-set-add i l 0 v) ∙ take-set-lt all (drop i l) 0 v (omega arith)
      ∙ ap (λ (w : List ℕ). set w 0 v) e ∙ rw (g, o)

-- its own token
pub own_token : (used : ℕ) (t : Token) → token_words (slot_record used (slot t [])) ≡ laid_record used t
unfolding token_words note_number
own_token used t = rw (note_read (laid_token used t) 0) (no_note (laid_token used t))

pub own_note : (used : ℕ) (t : Token) → note_in (slot_record used (slot t [])) ≡ 0
unfolding note_number
own_note used t = note_read (laid_token used t) 0

-- one that goes in before it, and the note that is left
pub record PutIn (used : ℕ) (t b : Token) (bs : List Token) : Type 0 where
  pub is : token_words (slot_record used (slot t (b ∷ bs))) ≡ laid_record used b
  pub not_own : own (note_in (slot_record used (slot t (b ∷ bs)))) ≡ 0
  pub left : note_left (note_in (slot_record used (slot t (b ∷ bs)))) ≡ note_of bs
  pub some : 1 ≤ note_in (slot_record used (slot t (b ∷ bs)))
  pub no_text : token_bytes b ≡ []

pub put_in : (used : ℕ) (t : Token) {b : Token} {bs : List Token} → Note t.start (b ∷ bs) → PutIn used t b bs
unfolding token_words first_number note_number opener own note_left laid number_of values_of record_of kind_bytes
put_in used t key = let e = note_read (laid_token used t) 1 in record { is = rw e; not_own = rw e; left = rw e; some = rw e (omega arith); no_text = refl }
put_in used t pair = let e = note_read (laid_token used t) 2 in record { is = rw e; not_own = rw e; left = rw e; some = rw e (omega arith); no_text = refl }
put_in used t block = let e = note_read (laid_token used t) 3 in record { is = rw e; not_own = rw e; left = rw e; some = rw e (omega arith); no_text = refl }
