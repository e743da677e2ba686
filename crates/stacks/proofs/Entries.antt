-- The entries of the lent words: one more, one less, and where they stay. Each entry is one word, so other words do not matter.
use Prim.Native.Nat.{◌%◌, ◌*◌, ◌+◌, ◌-◌, ◌/◌, ◌<◌, ◌≤◌, suc, zero, ℕ}
use mathlib.Core.Bool.{Bool, false, true}
use mathlib.Core.List.{List, [], ◌∷◌}
use mathlib.Core.Path.{◌∙◌, ◌≡◌, ap, refl}
use native.Mathlib.Numerals.{add-one}
use native.Mathlib.Omega.{arith}
use lib.ListN.{get_or, length, set}
use lib.Seq.{get_or-set_other, get_or-set_same}
use Rattle.stacks.specs.Stack.{entry_words}
use Rattle.stacks.specs.Most.{at_most_fits, at_most_stays}
use Rattle.stacks.specs.Indent.{Below, EntriesStay, Low, entries_of, entry_of, left_below, most_at, word_of}
use Rattle.stacks.specs.declared.indent.Indents.{Indents}

pub entries_length : (a : List ℕ) (d : ℕ) → length (entries_of a d) ≡ d
unfolding entries_of
entries_length a zero = refl
entries_length a (suc d) = ap suc (entries_length a d)

-- entries of the same words are the same
entries_same : (a e : List ℕ) (d : ℕ) → ((k : ℕ) → k < d → get_or e k 0 ≡ get_or a k 0) → entries_of e d ≡ entries_of a d
unfolding entries_of
entries_same a e zero s = refl
entries_same a e (suc d) s = rw (s d (omega arith), entries_same a e d (λ k h. s k (omega arith)))

pub entries_set : (a : List ℕ) (d k v : ℕ) → d ≤ k → entries_of (set a k v) d ≡ entries_of a d
entries_set a d k v h = entries_same a (set a k v) d (λ j g. get_or-set_other a k j v 0 (λ e. omega arith))

pub entries_stay : (a e : List ℕ) → ((k : ℕ) → k < entry_words → get_or e k 0 ≡ get_or a k 0) → EntriesStay a e
entries_stay a e s = record { word = s; entries = λ n h. entries_same a e n (λ k g. s k (omega arith)) }

pub entries_stay_same : (a : List ℕ) → EntriesStay a a
entries_stay_same a = entries_stay a a (λ k h. refl)

pub entries_stay_then : {a b c : List ℕ} → EntriesStay a b → EntriesStay b c → EntriesStay a c
entries_stay_then {a} {c = c} p q = entries_stay a c (λ k h. q.word k h ∙ p.word k h)

-- an indent that may stand there is read back
entry_word : (d i : ℕ) (ends : Bool) → i ≤ most_at d → entry_of d (word_of i ends) ≡ record { old = i; ends = ends }
entry_word d i true h =
    let e : (i * 2 + 1) / 2 ≡ i = omega arith in
    let f : (i * 2 + 1) % 2 ≡ 1 = omega arith in
    rw (e, f, at_most_stays (most_at d) i h)
entry_word d i false h =
    let e : (i * 2 + 0) / 2 ≡ i = omega arith in
    let f : (i * 2 + 0) % 2 ≡ 0 = omega arith in
    rw (e, f, at_most_stays (most_at d) i h)

pub entries_push : (a : List ℕ) (d i : ℕ) (ends : Bool) → d < length a → i ≤ most_at d
    → entries_of (set a d (word_of i ends)) (d + 1) ≡ record { old = i; ends = ends } ∷ entries_of a d
unfolding entries_of
entries_push a d i ends h g =
    let l : d ≤ d = omega arith in
    rw (add-one d, get_or-set_same a d (word_of i ends) 0 h, entries_set a d d (word_of i ends) l, entry_word d i ends g)

pub entries_pop : (a : List ℕ) (d : ℕ) → 0 < d → entries_of a d ≡ entry_of (d - 1) (get_or a (d - 1) 0) ∷ entries_of a (d - 1)
unfolding entries_of
entries_pop a zero h = absurd (omega arith)
entries_pop a (suc d) h = let e : suc d - 1 ≡ d = omega arith in rw e

pub entries_none : (a : List ℕ) (d : ℕ) → d ≤ 0 → entries_of a d ≡ []
unfolding entries_of
entries_none a d h = let e : d ≡ 0 = omega arith in rw e

pub low_start : (room : ℕ) → Low room (record { indent = 0; depth = 0 })
low_start room = record { deep = omega arith; indent = omega arith }

pub below_same : {i : Indents} → i.indent ≤ most_at i.depth → Below i i
below_same h = record { depth = omega arith; indent = h }

-- one entry less
pub below_pop : (a : List ℕ) {i r : Indents} (k : ℕ) → Below i r → k < r.depth → Below i (left_below a k)
below_pop a k w h = record { depth = omega (arith, w.depth); indent = at_most_fits (most_at k) (get_or a k 0 / 2) }

-- where entries went the bounds stay
pub low_below : {room : ℕ} {i r : Indents} → Low room i → Below i r → Low room r
low_below l w = record { deep = omega (arith, l.deep, w.depth); indent = w.indent }

-- in all the room that is lent
pub low_most : {room : ℕ} {i : Indents} → room ≤ entry_words → Low room i → Low entry_words i
low_most h l = record { deep = omega (arith, l.deep); indent = l.indent }
