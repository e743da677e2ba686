-- Laws of what waits: events one behind another; a slot that is given before events that put nothing in before it.
use Rattle.std.specs.Prelude.{◌+◌, ◌-◌, ◌≤◌, suc, zero, ℕ, Bool, ◌||◌, false, true, List, [], ◌++◌, ◌∷◌, map, ◌≡◌, refl, eqb, length}
use Rattle.std.proofs.lemmas.List.{map-append}
use Rattle.std.proofs.Common.{◌∙◌, ap, arith, length-append}
use Rattle.std.proofs.lemmas.Bool.{eqb-false}
use Rattle.yaml_text.specs.Test.{true_false}
use Rattle.yaml_lexeme.specs.Token.{Token}
use Rattle.yaml_scan.specs.declared.Candidate.{Candidate}
use Rattle.yaml_scan.specs.declared.Candidate.TheVariants.{Absent, Possible}
use Rattle.yaml_scan.specs.State.{Event, put, put_before, puts}
use Rattle.yaml_scan.specs.Slots.{Slot, flat, note, slot, slots}
use Rattle.yaml_scan.specs.SlotLaws.{flat_more, slots_append, slots_length, total}
use Rattle.yaml_stream.specs.Stream.{counted_from, possible, waits}
use Rattle.yaml_stream.specs.Kept.{From, NotesFrom, notes_less}

pub waits_append : (n : ℕ) (xs : List Slot) (es fs : List Event) → waits n xs (es ++ fs) ≡ waits n (waits n xs es) fs
unfolding waits
waits_append n xs es fs = rw (map-append (counted_from n) es fs) (slots_append xs (map (counted_from n) es) (map (counted_from n) fs))

pub counted_puts : (n : ℕ) (es : List Event) → puts (map (counted_from n) es) ≡ puts es
unfolding puts
counted_puts n [] = refl
counted_puts n (put t ∷ es) = ap suc (counted_puts n es)
counted_puts n (put_before k ts ∷ es) = counted_puts n es

pub waits_length : (n : ℕ) (xs : List Slot) (es : List Event) → length (waits n xs es) ≡ length xs + puts es
unfolding waits
waits_length n xs es = omega (arith, slots_length xs (map (counted_from n) es), counted_puts n es)

-- from the first token on, these are all slots
pub waits_slots : (xs : List Slot) (es : List Event) → waits 0 xs es ≡ slots xs es
unfolding waits slots
waits_slots xs [] = refl
waits_slots xs (put t ∷ es) = waits_slots (xs ++ (slot t [] ∷ [])) es
waits_slots xs (put_before k ts ∷ es) = let e : k - 0 ≡ k = omega arith in rw e (waits_slots (note k ts xs) es)

-- where nothing goes in before the first slot, it waits as it is
pub waits_past : (n : ℕ) (x : Slot) (xs : List Slot) (es : List Event) → NotesFrom (suc n) es → waits n (x ∷ xs) es ≡ x ∷ waits (suc n) xs es
unfolding waits slots NotesFrom note
waits_past n x xs [] h = refl
waits_past n x xs (put t ∷ es) h = waits_past n x (xs ++ (slot t [] ∷ [])) es h
waits_past n x xs (put_before k ts ∷ es) h =
    let e : k - n ≡ suc (k - suc n) = omega (arith, h.0) in
    rw e (waits_past n x (note (k - suc n) ts xs) es h.1)

-- and so do several
pub waits_behind : (n : ℕ) (xs ys : List Slot) (es : List Event) → NotesFrom (n + length xs) es → waits n (xs ++ ys) es ≡ xs ++ waits (n + length xs) ys es
waits_behind n [] ys es h = let e : n + 0 ≡ n = omega arith in rw e
waits_behind n (x ∷ xs) ys es h =
    let e : n + suc (length xs) ≡ suc n + length xs = omega arith in
    waits_past n x (xs ++ ys) es (notes_less (suc n) (n + suc (length xs)) es (omega arith) h)
    ∙ rw e (ap (λ (zs : List Slot). x ∷ zs) (waits_behind (suc n) xs ys es (rw e at h)))

-- how many tokens wait

pub flat_length : (x : Slot) (xs : List Slot) → length (flat (x ∷ xs)) ≡ length x.before + suc (length (flat xs))
unfolding flat
flat_length x xs = length-append x.before (x.token ∷ flat xs)

flat_note : (n : ℕ) (ts : List Token) (xs : List Slot) → length (flat (note n ts xs)) ≤ length (flat xs) + length ts
unfolding note
flat_note n ts [] = omega arith
flat_note zero ts (x ∷ xs) = omega (arith, flat_length x xs, flat_length (slot x.token ts) xs)
flat_note (suc n) ts (x ∷ xs) = omega (arith, flat_length x xs, flat_length x (note n ts xs), flat_note n ts xs)

pub waits_total : (n : ℕ) (xs : List Slot) (es : List Event) → length (flat (waits n xs es)) ≤ length (flat xs) + total es
unfolding waits slots total
waits_total n xs [] = omega arith
waits_total n xs (put t ∷ es) = omega (arith, waits_total n (xs ++ (slot t [] ∷ [])) es, flat_more xs t)
waits_total n xs (put_before k ts ∷ es) = omega (arith, waits_total n (note (k - n) ts xs) es, flat_note (k - n) ts xs)

-- where the first slot's token is no possible key, the candidates name later ones
pub or_false : (p q : Bool) → (p || q) ≡ false → (p ≡ false) × (q ≡ false)
or_false true q e = true_false e
or_false false q e = (refl, e)

pub from_next : (n : ℕ) (ks : List Candidate) → From n ks → possible n ks ≡ false → From (suc n) ks
unfolding possible
from_next n [] h e = tt
from_next n (Absent ∷ ks) h e = from_next n ks h e
from_next n (Possible required k m ∷ ks) h e =
    let f = or_false (eqb n k) (possible n ks) e in
    let d = eqb-false n k f.0 in
    (not_first h.0 d, from_next n ks h.1 f.1)
  where
    not_first : n ≤ k → (n ≡ k → ⊥) → suc n ≤ k
    not_first b d = omega (arith, d)
