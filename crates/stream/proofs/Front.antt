-- Before steps are made: the one slot that may wait stands in front, its number is that of slot 0, and the state is as before.
use Prim.Native.Nat.{◌*◌, ◌+◌, ◌-◌, ◌<◌, ◌≤◌, ℕ}
use mathlib.Core.Bool.{true}
use mathlib.Core.List.{List, []}
use mathlib.Core.Logic.{◌⊎◌, inl, inr}
use mathlib.Core.Path.{◌∙◌, ◌≡◌, ap, refl}
use native.Mathlib.Omega.{arith}
use lib.Dec.{ltb}
use lib.ListN.{drop, length, length-set, set, take}
use lib.Seq.{get_or-set_other, get_or-set_same, length-sets, sets, sets-eq, take_at}
use borrow.Author.Tests.{lt-ltb, ltb-true}
use Rattle.yaml_text.specs.Test.{by_pick, by_test}
use Rattle.yaml_lexeme.specs.Record.{record_words}
use Rattle.yaml_scan.specs.declared.Limits.{Limits}
use Rattle.yaml_scan.specs.State as definition
use Rattle.yaml_scan.specs.Slots.{Slot}
use Rattle.yaml_stream.specs.Between.{Lone}
use Rattle.yaml_stream.specs.Stream.{least_records}
use Rattle.stacks.specs.Most.{at_most, at_most_fits, at_most_stays}
use Rattle.sink.specs.SlotWords.{slot_words, slot_words_length}
use Rattle.driver.specs.Held.{Modest, at_held, base_at, counts_at, counts_held, held_words, slot_at, state_at, word}
use Rattle.stream.specs.Holds.{Scans}
use Rattle.stream.specs.Words.{first_at, front_base, front_held, front_words, record_from, slot_held}
use Rattle.stream.proofs.Kept.{SameSeen, seen_set}

module _ (limits : Limits) (text h l b gone : List ℕ) (all : length h ≡ held_words) where
  abbrev based : List ℕ
  based = set h base_at (front_base h)

  pub front_seen : SameSeen limits text h (front_held h)
  front_seen =
      let x = seen_set limits text based slot_at 0 (omega arith) (omega arith) in
      let y = seen_set limits text h base_at (front_base h) (omega arith) (omega arith) in
      record { seen = x.seen ∙ y.seen; counts = x.counts ∙ y.counts }

  pub front_length : length (front_held h) ≡ held_words
  front_length = length-set based slot_at 0 ∙ length-set h base_at (front_base h) ∙ all

  pub front_other : (i : ℕ) → (i ≡ base_at → ⊥) → (i ≡ slot_at → ⊥) → word (front_held h) i ≡ word h i
  front_other i e f = get_or-set_other based slot_at i 0 0 f ∙ get_or-set_other h base_at i (front_base h) 0 e

  pub front_slot : word (front_held h) slot_at ≡ 0
  front_slot = get_or-set_same based slot_at 0 0 (omega (arith, length-set h base_at (front_base h)))

  base_word : word (front_held h) base_at ≡ front_base h
  base_word = get_or-set_other based slot_at base_at 0 0 (λ e. omega arith) ∙ get_or-set_same h base_at (front_base h) 0 (omega arith)

  pub front_words_length : length (front_words h l) ≡ length l
  unfolding front_words
  front_words_length =
      by_pick (λ (w : List ℕ). length w ≡ length l) (ltb (front_base h) (word h counts_at)) (sets l 0 (record_from l (first_at h))) l (length-sets l 0 (record_from l (first_at h))) refl

  module _ {s : definition.State} {n used : ℕ} {xs : List Slot} (m : Modest limits) (c : Scans limits text h l b gone [] s n xs used) (counted : n + length xs ≡ s.count) where
    slot_is : slot_held h ≡ word h slot_at
    slot_is = at_most_stays (least_records - 1) (word h slot_at) (omega (arith, c.waits.fit))

    count_is : (counts_held text h).count ≡ s.count
    count_is = ap (λ (t : definition.State). t.count) c.seen

    pub count_few : s.count ≤ 536_870_913
    count_few =
        omega (arith, count_is, at_most_fits (1 + 512 * at_held text h) (word h counts_at), at_most_fits (length text) (word h state_at), c.lent.short, m.bytes)

    base_is : front_base h ≡ n
    base_is = omega (arith, slot_is, at_most_stays 1_073_741_824 (word h base_at) (omega (arith, c.first, count_few, counted)), c.first, c.waits.until)

    pub front_base_is : word (front_held h) base_at ≡ n
    front_base_is = base_word ∙ base_is

    one_waits : n < s.count → length xs ≡ 1 → take (length xs * record_words) (front_words h l) ≡ slot_words (length gone) xs
    unfolding front_words
    one_waits o e =
        let r = record_from l (first_at h) in
        let i : length xs * record_words ≡ record_words = omega arith in
        let f : r ≡ slot_words (length gone) xs = ap (λ (k : ℕ). record_from l (k * record_words)) slot_is ∙ rw i at c.waits.slots in
        let p : ltb (front_base h) (word h counts_at) ≡ true = lt-ltb (front_base h) (word h counts_at) (omega (arith, base_is, count_is)) in
        let k : length r ≡ record_words = ap length f ∙ slot_words_length (length gone) xs ∙ i in
        rw (p, i) (ap (λ (w : List ℕ). take record_words w) (sets-eq r l 0 (omega (arith, c.lent.records))) ∙ take_at r (drop (0 + length r) l) record_words k ∙ f)

    pub front_slots : (xs ≡ []) ⊎ Lone s n xs → take (length xs * record_words) (front_words h l) ≡ slot_words (length gone) xs
    unfolding slot_words
    front_slots (inl e) = rw e
    front_slots (inr o) = one_waits (omega (arith, o.numbered)) (rw o.is)
