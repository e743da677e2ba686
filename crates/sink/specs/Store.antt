-- Records in slots of the words, which are numbered from 0. A slot that is not whole is not there: a store to it changes nothing.
use Rattle.std.specs.Prelude.{◌*◌, ◌+◌, ◌<◌, ◌≤◌, suc, ℕ, List, [], ◌++◌, ◌∷◌, ◌≡◌, leb, length, set}
use Rattle.std.proofs.Common.{arith, le-leb}
use Rattle.std.proofs.lemmas.List.Edits.{sets}
use Rattle.std.proofs.lemmas.Bool.{lt-leb}
use Rattle.yaml_text.specs.Pick.{pick}
use Rattle.yaml_lexeme.specs.declared.Token.{Token}
use Rattle.yaml_lexeme.specs.Record.{record_of, record_words}
use Rattle.records.specs.Note.{noted_word}

-- what is done to the words where slot n is whole
abbrev pub at_slot : List ℕ → ℕ → List ℕ → List ℕ
at_slot l n done = pick (leb (n * record_words + record_words) (length l)) done l

-- r in slot n
unfoldable pub put_record : List ℕ → ℕ → List ℕ → List ℕ
put_record l n r = at_slot l n (sets l (n * record_words) r)

-- tokens in the slots from n on
unfoldable pub put_list : List ℕ → ℕ → List Token → List ℕ
put_list l n [] = l
put_list l n (t ∷ ts) = put_list (put_record l n (record_of t)) (suc n) ts

-- a note on the record in slot n
unfoldable pub put_note : List ℕ → ℕ → ℕ → List ℕ
put_note l n k = at_slot l n (set l (n * record_words) (noted_word l (n * record_words) k))

-- laws

at_slot_in : (l : List ℕ) (n : ℕ) (done : List ℕ) → n * record_words + record_words ≤ length l → at_slot l n done ≡ done
at_slot_in l n done h = rw (le-leb (n * record_words + record_words) (length l) h)

at_slot_out : (l : List ℕ) (n : ℕ) (done : List ℕ) → length l < n * record_words + record_words → at_slot l n done ≡ l
at_slot_out l n done h = rw (lt-leb (n * record_words + record_words) (length l) h)

pub put_record_in : (l : List ℕ) (n : ℕ) (r : List ℕ) → n * record_words + record_words ≤ length l → put_record l n r ≡ sets l (n * record_words) r
unfolding put_record
put_record_in l n r = at_slot_in l n (sets l (n * record_words) r)

pub put_record_out : (l : List ℕ) (n : ℕ) (r : List ℕ) → length l < n * record_words + record_words → put_record l n r ≡ l
unfolding put_record
put_record_out l n r = at_slot_out l n (sets l (n * record_words) r)

pub put_note_in : (l : List ℕ) (n k : ℕ) → n * record_words + record_words ≤ length l → put_note l n k ≡ set l (n * record_words) (noted_word l (n * record_words) k)
unfolding put_note
put_note_in l n k = at_slot_in l n (set l (n * record_words) (noted_word l (n * record_words) k))

pub put_note_out : (l : List ℕ) (n k : ℕ) → length l < n * record_words + record_words → put_note l n k ≡ l
unfolding put_note
put_note_out l n k = at_slot_out l n (set l (n * record_words) (noted_word l (n * record_words) k))

pub put_list_append : (ts us : List Token) (l : List ℕ) (n : ℕ) → put_list l n (ts ++ us) ≡ put_list (put_list l n ts) (n + length ts) us
unfolding put_list
put_list_append [] us l n = let e : n + 0 ≡ n = omega arith in rw e
put_list_append (t ∷ ts) us l n =
    let e : n + suc (length ts) ≡ suc n + length ts = omega arith in
    rw e (put_list_append ts us (put_record l n (record_of t)) (suc n))
