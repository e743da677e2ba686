-- The first slot gives its first token, whose record is the definition's: what waits then stands in the words that are left.
use Prim.Native.Nat.{◌*◌, ◌+◌, ◌-◌, ◌<◌, ◌≤◌, ℕ}
use mathlib.Core.List.{List, [], ◌++◌, ◌∷◌, append_assoc, append-nil}
use mathlib.Core.Path.{◌∙◌, ◌≡◌, ap, refl, sym}
use native.Mathlib.Omega.{arith}
use lib.ListN.{length, length-append, length-set, set}
use lib.Seq.{get_or-set_other, get_or-set_same}
use borrow.Author.Tests.{ne_eqb}
use Rattle.yaml_lexeme.specs.Record.{record_words}
use Rattle.yaml_lexeme.specs.Token.{Token, token_bytes}
use Rattle.yaml_scan.specs.Slots.{Slot, flat, slot}
use Rattle.yaml_stream.specs.Notes.{note_rest}
use Rattle.yaml_stream.specs.Stream.{least_records}
use Rattle.stacks.specs.Most.{at_most_stays}
use Rattle.records.specs.Note.{note_in, noted_word}
use Rattle.sink.specs.SlotWords.{laid_record, note_of, slot_record, slot_texts, used_by}
use Rattle.driver.specs.Held.{held_words, slot_at, until_at, word}
use Rattle.stream.specs.Holds.{Waits}
use Rattle.stream.specs.Words.{Gives, first_at, note_left, own, record_from, slot_held, token_words, words_left}
use Rattle.stream.proofs.FirstSlot.{first_record, noted_first, other_records, own_note, own_token, put_in}

-- the first token of gs was given; left can be given then. The slot that is held is another word, and no other
pub record TokenGiven (h l b gone h' l' r : List ℕ) (gs xs : List Slot) : Type 0 where
  pub token : Token
  pub left : List Slot
  pub first : flat gs ≡ token ∷ flat left
  pub is : r ≡ laid_record (length gone) token
  pub waits : Waits h' l' b (gone ++ token_bytes token) left xs
  pub used : length gone + used_by (gs ++ xs) ≡ length (gone ++ token_bytes token) + used_by (left ++ xs)
  pub slot_then : ℕ
  pub held : h' ≡ set h slot_at slot_then
  pub words : length l' ≡ length l

words_put : (l : List ℕ) (i n k : ℕ) → 1 ≤ n → note_left n ≡ k → words_left l i n ≡ set l i (noted_word l i k)
unfolding words_left
words_put l i n k h e = rw (ne_eqb n 0 (λ f. omega arith), e)

module _ {h l h' l' r : List ℕ} (b gone : List ℕ) (all : length h ≡ held_words) (g : Gives h l h' l' r) where
  -- it is in the words
  slot_in : {x : Slot} {gs xs : List Slot} → Waits h l b gone (x ∷ gs) xs → slot_held h ≡ word h slot_at
  slot_in w = at_most_stays (least_records - 1) (word h slot_at) (omega (arith, w.fit))

  abbrev begins : ℕ
  begins = word h slot_at * record_words

  first_there : {x : Slot} {gs xs : List Slot} → Waits h l b gone (x ∷ gs) xs → first_at h ≡ begins
  first_there w = ap (λ (k : ℕ). k * record_words) (slot_in w)

  record_there : {x : Slot} {gs xs : List Slot} → Waits h l b gone (x ∷ gs) xs → record_from l (first_at h) ≡ slot_record (length gone) x
  record_there {x} {gs} {xs} w = ap (λ (j : ℕ). record_from l j) (first_there w) ∙ first_record (length gone) x (gs ++ xs) l begins w.slots

  slot_is : (k : ℕ) → h' ≡ set h slot_at k → word h' slot_at ≡ k
  slot_is k e = ap (λ (z : List ℕ). word z slot_at) e ∙ get_or-set_same h slot_at k 0 (omega arith)

  until_then : (k : ℕ) → h' ≡ set h slot_at k → word h' until_at ≡ word h until_at
  until_then k e = ap (λ (z : List ℕ). word z until_at) e ∙ get_or-set_other h slot_at until_at k 0 (λ i. omega arith)

  given_own : {t : Token} {gs xs : List Slot} → Waits h l b gone (slot t [] ∷ gs) xs → TokenGiven h l b gone h' l' r (slot t [] ∷ gs) xs
  unfolding own words_left slot_texts flat
  given_own {t} {gs} {xs} w =
      let f = record_there w in
      let n : note_in (record_from l (first_at h)) ≡ 0 = ap (λ (z : List ℕ). note_in z) f ∙ own_note (length gone) t in
      let v : h' ≡ set h slot_at (word h slot_at + 1) =
      g.held ∙ ap (λ (k : ℕ). set h slot_at (slot_held h + own k)) n ∙ ap (λ (k : ℕ). set h slot_at (k + 1)) (slot_in w) in
      let s = slot_is (word h slot_at + 1) v in
      let q : l' ≡ l = g.words ∙ ap (λ (k : ℕ). words_left l (first_at h) k) n in
      let tb = token_bytes t in
      let m = length-append gone tb in
      let i : word h' slot_at * record_words ≡ begins + record_words = omega arith in
      let zs = gs ++ xs in
      let c : length (gone ++ tb) + used_by zs ≡ length gone + used_by (slot t [] ∷ zs) = omega (arith, length-append tb (slot_texts zs)) in
      record {
        token = t;
        left = gs;
        first = refl;
        is = g.token ∙ ap (λ (z : List ℕ). token_words z) f ∙ own_token (length gone) t;
        waits = record {
          fit = omega (arith, w.fit);
          slots = rw (i, q, m) (other_records (length gone) (slot t []) zs l begins w.slots);
          texts = rw c (w.texts ∙ sym (append_assoc gone tb (slot_texts zs)));
          until = omega (arith, w.until, until_then (word h slot_at + 1) v);
          noted = w.noted.1;
        };
        used = sym c;
        slot_then = word h slot_at + 1;
        held = v;
        words = ap length q;
      }

  given_part : {t a : Token} {bs : List Token} {gs xs : List Slot} → Waits h l b gone (slot t (a ∷ bs) ∷ gs) xs → TokenGiven h l b gone h' l' r (slot t (a ∷ bs) ∷ gs) xs
  unfolding slot_texts flat
  given_part {t} {a} {bs} {gs} {xs} w =
      let x = slot t (a ∷ bs) in
      let z = put_in (length gone) t w.noted.0 in
      let f = record_there w in
      let o : slot_held h + 0 ≡ word h slot_at = omega (arith, slot_in w) in
      let v : h' ≡ set h slot_at (word h slot_at) =
      g.held ∙ ap (λ (y : List ℕ). set h slot_at (slot_held h + own (note_in y))) f ∙ ap (λ (k : ℕ). set h slot_at (slot_held h + k)) z.not_own
      ∙ ap (λ (k : ℕ). set h slot_at k) o in
      let s = slot_is (word h slot_at) v in
      let q : l' ≡ set l begins (noted_word l begins (note_of bs)) =
      g.words ∙ ap (λ (y : List ℕ). words_left l (first_at h) (note_in y)) f ∙ ap (λ (j : ℕ). words_left l j (note_in (slot_record (length gone) x))) (first_there w)
      ∙ words_put l begins (note_in (slot_record (length gone) x)) (note_of bs) z.some z.left in
      let j : gone ++ token_bytes a ≡ gone = ap (λ (y : List ℕ). gone ++ y) z.no_text ∙ append-nil gone in
      record {
        token = a;
        left = slot t bs ∷ gs;
        first = refl;
        is = g.token ∙ ap (λ (y : List ℕ). token_words y) f ∙ z.is;
        waits = rw j (record {
          fit = omega (arith, w.fit);
          slots = rw (s, q) (noted_first (length gone) x (gs ++ xs) l begins w.slots bs);
          texts = w.texts;
          until = omega (arith, w.until, until_then (word h slot_at) v);
          noted = (note_rest w.noted.0, w.noted.1);
        });
        used = rw j;
        slot_then = word h slot_at;
        held = v;
        words = ap length q ∙ length-set l begins (noted_word l begins (note_of bs));
      }

  pub given : {gs xs : List Slot} → Waits h l b gone gs xs → word h slot_at < word h until_at → TokenGiven h l b gone h' l' r gs xs
  given {gs = []} w o = absurd (omega (arith, w.until))
  given {gs = x ∷ gs} {xs = xs} w o = by_before x.token x.before w
    where
      by_before : (t : Token) (bs : List Token) → Waits h l b gone (slot t bs ∷ gs) xs → TokenGiven h l b gone h' l' r (slot t bs ∷ gs) xs
      by_before t [] v = given_own v
      by_before t (a ∷ bs) v = given_part v
