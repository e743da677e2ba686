-- What the parts of a call leave in the words that they are lent, and what they answer.
use Prim.Native.Nat.{◌*◌, ◌+◌, ◌-◌, ◌<◌, ◌≤◌, suc, zero, ℕ}
use mathlib.Core.Bool.{Bool, false, true}
use mathlib.Core.List.{List}
use mathlib.Core.Path.{◌∙◌, ◌≡◌, ap, refl, sym}
use native.Mathlib.Omega.{arith}
use lib.Dec.{eqb, ltb}
use lib.ListN.{length, set}
use lib.Seq.{get_or-set_other, sets}
use borrow.Author.Tests.{le-ltb, lt-ltb, ltb-false, ltb-true, ne_eqb}
use Rattle.yaml_text.specs.declared.Refusal.{Refusal}
use Rattle.yaml_text.specs.Test.{by_test, true_false}
use Rattle.yaml_lexeme.specs.declared.Kind.{Kind}
use Rattle.yaml_lexeme.specs.declared.Kind.TheVariants as held
use Rattle.yaml_lexeme.specs.Record.{laid, number_of, record_words, values_of}
use Rattle.yaml_stream.specs.Stream.{least_records}
use Rattle.std.specs.Prelude.{Option, Some, None, Ok, Err}
use Rattle.stacks.specs.Bit.{bit}
use Rattle.stacks.specs.Most.{at_most, at_most_fits}
use Rattle.records.specs.declared.noted.Noted.{Noted}
use Rattle.records.specs.Note.{empty_at, note_in, noted_word}
use Rattle.records.specs.Noted.{first_noted, noted, noted_number, rest_noted}
use Rattle.sink.specs.Settle.{opener}
use Rattle.events.specs.declared.Counts.{Counts}
use Rattle.driver.specs.Held.{base_at, counts_at, phase_at, slot_at, until_at, word}
use Rattle.stream.specs.declared.Next.TheVariants as next
use Rattle.stream.specs.Phase.{closed_number}
use Rattle.stream.specs.Words.{Gives, close_held, first_at, first_number, front_base, front_held, front_words, has_some, last_held, note_left, own, record_from, refusal_held, slot_held, token_words, words_left}

-- a token is given: what the note n says goes in first, and what is left then

own_is : (n : ℕ) → bit (eqb n 0) ≡ own n
unfolding own
own_is n = by_test (eqb n 0) (λ e. rw e) (λ e. rw e)

none_first : (n : ℕ) → first_noted (noted n) ≡ None → n ≡ 0
none_first zero e = refl
none_first (suc zero) e = absurd (cc)
none_first (suc (suc zero)) e = absurd (cc)
none_first (suc (suc (suc n))) e = absurd (cc)

record PutFirst (n : ℕ) (k : Kind) : Type 0 where
  some : n ≡ 0 → ⊥
  number : number_of k ≡ first_number n
  left : noted_number (rest_noted (noted n)) ≡ note_left n

put_first : (n : ℕ) {k : Kind} → first_noted (noted n) ≡ Some k → PutFirst n k
unfolding first_number opener laid note_left number_of values_of
put_first zero e = absurd (cc)
put_first (suc zero) {k} e = let f : k ≡ held.Key = cc in record { some = λ i. omega arith; number = rw f; left = refl }
put_first (suc (suc zero)) {k} e = let f : k ≡ held.FlowMappingStart = cc in record { some = λ i. omega arith; number = rw f; left = refl }
put_first (suc (suc (suc n))) {k} e =
    let f : k ≡ held.BlockMappingStart = cc in
    let o : ltb 1 (suc (suc (suc n))) ≡ true = lt-ltb 1 (suc (suc (suc n))) (omega arith) in
    record {
      some = λ i. omega arith;
      number = rw (f, ne_eqb (suc (suc (suc n))) 1 (λ i. omega arith), ne_eqb (suc (suc (suc n))) 2 (λ i. omega arith));
      left = rw o;
    }

module _ (l : List ℕ) (at : ℕ) {n : ℕ} {x : List ℕ} {w : Noted} {o : Option Kind} (e : x ≡ record_from l at) (f : n ≡ note_in x) (noted_is : w ≡ noted n) (first_is : o ≡ first_noted w) where
  abbrev first : List ℕ
  first = record_from l at

  note_is : note_in first ≡ n
  note_is = ap (λ (y : List ℕ). note_in y) (sym e) ∙ sym f

  pub give_own : o ≡ None → (true ≡ eqb (note_in first) 0) × (x ≡ token_words first) × (l ≡ words_left l at (note_in first))
  unfolding token_words words_left
  give_own z =
      let k = note_is ∙ none_first n (rw (first_is, noted_is) at z) in
      (rw k, e ∙ rw k, rw k)

  pub give_part : {l' y : List ℕ} {k : Kind} {v : Noted} → o ≡ Some k → y ≡ empty_at (number_of k) x → v ≡ rest_noted w → l' ≡ set l at (noted_word l at (noted_number v))
      → (false ≡ eqb (note_in first) 0) × (y ≡ token_words first) × (l' ≡ words_left l at (note_in first))
  unfolding token_words words_left
  give_part z p q g =
      let m = put_first n (rw (first_is, noted_is) at z) in
      let i = ne_eqb n 0 m.some in (
        rw (note_is, i),
        p ∙ ap (λ (j : ℕ). empty_at j x) m.number ∙ ap (λ (y : List ℕ). empty_at (first_number n) y) e ∙ rw (note_is, i),
        g ∙ rw (q, noted_is, m.left, note_is, i),
      )

-- of the slot that is held

pub slot_fits : (h l : List ℕ) → least_records * record_words ≤ length l → first_at h + record_words ≤ length l
slot_fits h l e = omega (arith, at_most_fits (least_records - 1) (word h slot_at))

pub gives_first : (h l : List ℕ) {h' l' r : List ℕ} {k : Bool} {slot : ℕ} → slot ≡ slot_held h
    → (k ≡ eqb (note_in (record_from l (slot * record_words))) 0) × (r ≡ token_words (record_from l (slot * record_words))) × (l' ≡ words_left l (slot * record_words) (note_in (record_from l (slot * record_words))))
    → h' ≡ set h slot_at (slot + bit k) → Gives h l h' l' r
gives_first h l e g f = record { token = rw e at g.1; words = rw e at g.2; held = f ∙ rw (g.0, e, own_is (note_in (record_from l (first_at h)))) }

-- to the front

pub slot_room : (h l : List ℕ) {k : ℕ} → k ≡ slot_held h → least_records * record_words ≤ length l → k * record_words + record_words ≤ length l
slot_room h l e r = rw e (slot_fits h l r)

module _ (h l : List ℕ) {slot base : ℕ} (e : slot ≡ slot_held h) (f : base ≡ at_most 1_073_741_824 (word h base_at) + slot) where
  base_is : base ≡ front_base h
  base_is = f ∙ ap (λ (k : ℕ). at_most 1_073_741_824 (word h base_at) + k) e

  pub front_is : set (set h base_at base) slot_at 0 ≡ front_held h
  front_is = ap (λ (k : ℕ). set (set h base_at k) slot_at 0) base_is

  count_is : word (set (set h base_at base) slot_at 0) counts_at ≡ word h counts_at
  count_is = get_or-set_other (set h base_at base) slot_at counts_at 0 0 (λ i. omega arith) ∙ get_or-set_other h base_at counts_at base 0 (λ i. omega arith)

  pub front_moves : {x l' : List ℕ} → base < word (set (set h base_at base) slot_at 0) counts_at → x ≡ record_from l (slot * record_words) → l' ≡ sets l 0 x → l' ≡ front_words h l
  unfolding front_words
  front_moves {x} i g j =
      let o : ltb (front_base h) (word h counts_at) ≡ true = lt-ltb (front_base h) (word h counts_at) (omega (arith, base_is, count_is)) in
      j ∙ ap (λ (y : List ℕ). sets l 0 y) (g ∙ ap (λ (k : ℕ). record_from l (k * record_words)) e) ∙ rw o

  pub front_stays : word (set (set h base_at base) slot_at 0) counts_at ≤ base → l ≡ front_words h l
  unfolding front_words
  front_stays i = let o : ltb (front_base h) (word h counts_at) ≡ false = le-ltb (front_base h) (word h counts_at) (omega (arith, base_is, count_is)) in rw o

pub ruleset to_front_rules = (front_is, front_moves, front_stays, slot_room)

-- what is held

pub closed : (h : List ℕ) (m : Counts) {k : ℕ} → k ≡ at_most m.count (word (set h phase_at 2) base_at) → set (set h phase_at 2) until_at (m.count - k) ≡ close_held h m
closed h m e = rw (e, get_or-set_other h phase_at base_at 2 0 (λ i. omega arith))

-- whether a token can be given

pub has_none : (h : List ℕ) (n : ℕ) → n < least_records * record_words → false ≡ has_some h n
unfolding has_some
has_none h n e = rw (lt-ltb n (least_records * record_words) e)

pub has_asked : (h : List ℕ) (n : ℕ) → least_records * record_words ≤ n → ltb (word h slot_at) (word h until_at) ≡ has_some h n
unfolding has_some
has_asked h n e = rw (le-ltb n (least_records * record_words) e)

pub some_told : (h : List ℕ) (n : ℕ) → has_some h n ≡ true → (least_records * record_words ≤ n) × (word h slot_at < word h until_at)
some_told h n s =
    by_test (ltb n (least_records * record_words))
    (λ e. true_false (sym s ∙ sym (has_none h n (ltb-true n (least_records * record_words) e))))
    (λ e. let o = ltb-false n (least_records * record_words) e in (o, ltb-true (word h slot_at) (word h until_at) (has_asked h n o ∙ s)))

pub none_told : (h : List ℕ) (n : ℕ) → has_some h n ≡ false → least_records * record_words ≤ n → word h until_at ≤ word h slot_at
none_told h n s o = ltb-false (word h slot_at) (word h until_at) (has_asked h n o ∙ s)

-- what is said where none can

pub last_ended : (h : List ℕ) → word h phase_at ≡ 2 → Ok next.Ended ≡ last_held h
unfolding last_held
last_ended h e = rw e

pub last_refused : (h : List ℕ) {f : Refusal} → (word h phase_at ≡ 2 → ⊥) → f ≡ refusal_held h → Err f ≡ last_held h
unfolding last_held
last_refused h d e = rw (ne_eqb (word h phase_at) 2 d, e)

pub ruleset last_said = (last_ended, last_refused, closed_number)
