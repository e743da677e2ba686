-- What goes in before the tokens of slots; and the pass makes the definition's records of their words.
use Rattle.std.specs.Prelude.{◌*◌, ◌+◌, ◌-◌, ◌≤◌, suc, zero, ℕ, ◌≡◌, eqb, drop}
use mathlib.Core.List.{List, [], ◌++◌, ◌∷◌, append_assoc, map}
use Rattle.std.proofs.Common.{◌∙◌, ap, sym, length-append, drop-drop, take_at}
use Rattle.std.proofs.Math.Path.{refl}
use native.Mathlib.Omega.{arith}
use Rattle.std.proofs.Math.ListN.{length}
use Rattle.std.proofs.lemmas.List.{length-map}
use Rattle.std.proofs.Math.Seq.{drop-append-add}
use Rattle.yaml_text.specs.declared.Mark.{Mark}
use Rattle.yaml_text.specs.Test.{by_pick}
use Rattle.yaml_lexeme.specs.Token.{BlockMappingStart, FlowMappingStart, Key, Kind, Token, empty_token, kind_bytes, texts, token_bytes}
use Rattle.yaml_lexeme.specs.Record.{laid, laid_token, record_of, record_words, records, values_of}
use Rattle.yaml_scan.specs.Slots.{Slot, flat}
use Rattle.records.specs.Note.{empty_at, note_read, note_removed, with_note}
use Rattle.sink.specs.SlotWords.{laid_record, note_of, slot_record, slot_record_length, slot_texts, slot_words, slot_words_length, with_slots}
use Rattle.sink.specs.Settle.{empties, extra, flatten, front, note_kinds, number, opener, settled_words, total_records}

-- the tokens of a note
abbrev pub put_ins : ℕ → Mark → List Token
put_ins k m = map (λ (kind : Kind). empty_token kind m) (note_kinds k)

-- kinds without text
pub record NoText (k : Kind) : Type 0 where
  pub same : (used : ℕ) → laid used k ≡ laid 0 k
  pub values : values_of (laid 0 k) ≡ (0, 0, 0, 0, 0)
  pub bytes : kind_bytes k ≡ []

key_no_text : NoText Key
unfolding laid values_of kind_bytes
key_no_text = record { same = λ used. refl; values = refl; bytes = refl }

opener_no_text : (n : ℕ) → NoText (opener n)
unfolding opener laid values_of kind_bytes
opener_no_text n =
    by_pick NoText (eqb n 2) FlowMappingStart BlockMappingStart
    (record { same = λ used. refl; values = refl; bytes = refl })
    (record { same = λ used. refl; values = refl; bytes = refl })

unfoldable pub NoTexts : List Kind → Type 0
NoTexts [] = Unit {0}
NoTexts (k ∷ ks) = NoText k × NoTexts ks

pub note_no_text : (n : ℕ) → NoTexts (note_kinds n)
unfolding NoTexts note_kinds
note_no_text zero = tt
note_no_text (suc zero) = (key_no_text, tt)
note_no_text (suc (suc n)) = (opener_no_text (suc (suc n)), (key_no_text, tt))

-- empty tokens of such kinds at the start of t, then t
module _ (t : Token) (us : List Token) where
  abbrev behind : List Kind → List Token
  behind ks = map (λ (kind : Kind). empty_token kind t.start) ks ++ (t ∷ us)

  before_token : (ks : List Kind) (used k : ℕ) → NoTexts ks
      → records used (behind ks) ≡ empties ks (with_note k (laid_record used t)) ++ (laid_record used t ++ records (used + length (token_bytes t)) us)
  unfolding NoTexts records empties record_of
  before_token [] used k h = refl
  before_token (x ∷ ks) used k h =
      let e : used + 0 ≡ used = omega arith in
      let r = with_note k (laid_record used t) in
      rw (h.0.same used, h.0.values, h.0.bytes, e, before_token ks used k h.1)
      (sym (append_assoc (empty_at (number x) r) (empties ks r) (laid_record used t ++ records (used + length (token_bytes t)) us)))

  before_texts : (ks : List Kind) → NoTexts ks → texts (behind ks) ≡ token_bytes t ++ texts us
  unfolding NoTexts texts
  before_texts [] h = refl
  before_texts (x ∷ ks) h = rw h.0.bytes (before_texts ks h.1)

-- what was noted before the token of a slot is a note's, at its start
abbrev pub Noted : Slot → Type 0
Noted x = x.before ≡ put_ins (note_of x.before) x.token.start

unfoldable pub AllNoted : List Slot → Type 0
AllNoted [] = Unit {0}
AllNoted (x ∷ xs) = Noted x × AllNoted xs

-- the texts are those of the slots' own tokens
pub flat_texts : (xs : List Slot) → AllNoted xs → texts (flat xs) ≡ slot_texts xs
unfolding AllNoted flat texts slot_texts
flat_texts [] h = refl
flat_texts (x ∷ xs) h =
    let k = note_of x.before in
    let b = before_texts x.token (flat xs) (note_kinds k) (note_no_text k) in
    rw (sym h.0) at b ∙ rw (flat_texts xs h.1)

-- the pass

front_behind : (i : ℕ) (r l : List ℕ) → length r ≡ record_words → front (suc i) (r ++ l) ≡ r ∷ front i l
unfolding front
front_behind zero r l e = rw (take_at r l record_words e)
front_behind (suc i) r l e =
    let s : suc i * record_words ≡ length r + i * record_words = omega arith in
    rw (front_behind i r l e, s, drop-append-add r l (i * record_words))

-- what the records of the slots come to
record SettlesAs (xs : List Slot) (used : ℕ) (rs : List (List ℕ)) : Type 0 where
  words : flatten rs ≡ records used (flat xs)
  count : total_records rs ≡ length (flat xs)

settles : (used : ℕ) (xs : List Slot) (l : List ℕ) → AllNoted xs → SettlesAs xs used (front (length xs) (slot_words used xs ++ l))
unfolding AllNoted slot_words front flatten total_records flat records
settles used [] l h = record { words = refl; count = refl }
settles used (x ∷ xs) l h =
    let t = x.token in
    let k = note_of x.before in
    let r = slot_record used x in
    let u = used + length (token_bytes t) in
    let w = slot_words u xs in
    let rest = settles u xs l h.1 in
    let e : front (suc (length xs)) ((r ++ w) ++ l) ≡ r ∷ front (length xs) (w ++ l) =
    rw (append_assoc r w l) (front_behind (length xs) r (w ++ l) (slot_record_length used x)) in
    let n : length x.before ≡ extra k = ap length h.0 ∙ length-map (note_kinds k) (λ (kind : Kind). empty_token kind t.start) in
    let b = before_token t (flat xs) (note_kinds k) used k (note_no_text k) in
    rw e (record {
      words = rw (note_read (laid_token used t) k, note_removed (laid_token used t) k, rest.words, append_assoc (empties (note_kinds k) r) (laid_record used t) (records u (flat xs))) (sym (rw (sym h.0) at b));
      count = rw (note_read (laid_token used t) k) (omega (arith, rest.count, length-append x.before (t ∷ flat xs), n));
    })

pub flat_least : (xs : List Slot) → length xs ≤ length (flat xs)
unfolding flat
flat_least [] = omega arith
flat_least (x ∷ xs) = let e = length-append x.before (x.token ∷ flat xs) in let h = flat_least xs in omega arith

-- (c) the pass makes the records of the definition
pub slots_settled : (used : ℕ) (xs : List Slot) (l : List ℕ) → AllNoted xs
    → (total_records (front (length xs) (with_slots used xs l)) ≡ length (flat xs))
    × (settled_words (length xs) (with_slots used xs l) ≡ records used (flat xs) ++ drop (length (flat xs) * record_words) l)
slots_settled used xs l h =
    let p = length xs * record_words in
    let q = length (flat xs) * record_words in
    let a = slot_words used xs in
    let s = settles used xs (drop p l) h in
    let least = flat_least xs in
    let e : q ≡ length a + (q - p) = (let f = slot_words_length used xs in omega arith) in
    let b : p + (q - p) ≡ q = omega arith in
    let back : drop q (a ++ drop p l) ≡ drop q l =
    ap (λ (i : ℕ). drop i (a ++ drop p l)) e ∙ drop-append-add a (drop p l) (q - p) ∙ drop-drop (q - p) p l ∙ rw b in
    (s.count, rw (s.words, s.count, back))
