-- Laws of the slots: how many there are, and how many tokens they come to.
use Rattle.std.specs.Prelude.{◌+◌, suc, zero, ℕ, List, [], ◌++◌, ◌∷◌, ◌≡◌, refl, false, length}
use Rattle.std.proofs.Common.{append_assoc, ap, arith, length-append}
use Rattle.yaml_text.specs.Test.{true_false}
use Rattle.yaml_lexeme.specs.Token.{Token}
use Rattle.yaml_scan.specs.State.{Event, put, put_before, puts}
use Rattle.yaml_scan.specs.Slots.{Slot, flat, note, slot, slots}
use Rattle.yaml_scan.specs.Candidates.{GivenToken, fresh, note_at}

-- one list behind another

pub flat_append : (xs ys : List Slot) → flat (xs ++ ys) ≡ flat xs ++ flat ys
unfolding flat
flat_append [] ys = refl
flat_append (x ∷ xs) ys = rw (flat_append xs ys, append_assoc)

pub slots_append : (xs : List Slot) (es fs : List Event) → slots xs (es ++ fs) ≡ slots (slots xs es) fs
unfolding slots
slots_append xs [] fs = refl
slots_append xs (put t ∷ es) fs = slots_append (xs ++ (slot t [] ∷ [])) es fs
slots_append xs (put_before n ts ∷ es) fs = slots_append (note n ts xs) es fs

-- the slots hold the tokens that were given, and each is noted at most once (Candidates): so the tokens are as many as the events say

-- the slots of the tokens gs: each token starts where it says, and nothing is noted where none was put in
abbrev pub SlotsHold : List GivenToken → List Slot → Type 0
SlotsHold [] [] = Unit {0}
SlotsHold [] (x ∷ xs) = ⊥
SlotsHold (g ∷ gs) [] = ⊥
SlotsHold (g ∷ gs) (x ∷ xs) = (x.token.start ≡ g.start) × (g.noted ≡ false → x.before ≡ []) × SlotsHold gs xs

pub note_length : (n : ℕ) (ts : List Token) (xs : List Slot) → length (note n ts xs) ≡ length xs
unfolding note
note_length n ts [] = refl
note_length zero ts (x ∷ xs) = refl
note_length (suc n) ts (x ∷ xs) = ap suc (note_length n ts xs)

pub slots_length : (xs : List Slot) (es : List Event) → length (slots xs es) ≡ length xs + puts es
unfolding slots puts
slots_length xs [] = omega arith
slots_length xs (put t ∷ es) = omega (arith, slots_length (xs ++ (slot t [] ∷ [])) es, length-append xs (slot t [] ∷ []))
slots_length xs (put_before n ts ∷ es) = omega (arith, slots_length (note n ts xs) es, note_length n ts xs)

pub holds_more : (gs : List GivenToken) (xs : List Slot) (t : Token) → SlotsHold gs xs → SlotsHold (gs ++ (fresh t.start ∷ [])) (xs ++ (slot t [] ∷ []))
holds_more [] [] t h = (refl, λ _. refl, tt)
holds_more [] (x ∷ xs) t h = absurd h
holds_more (g ∷ gs) [] t h = absurd h
holds_more (g ∷ gs) (x ∷ xs) t h = (h.0, h.1, holds_more gs xs t h.2)

pub holds_noted : (gs : List GivenToken) (xs : List Slot) (n : ℕ) (ts : List Token) → SlotsHold gs xs → SlotsHold (note_at n gs) (note n ts xs)
unfolding note
holds_noted [] [] n ts h = tt
holds_noted [] (x ∷ xs) n ts h = absurd h
holds_noted (g ∷ gs) [] n ts h = absurd h
holds_noted (g ∷ gs) (x ∷ xs) zero ts h = (h.0, λ e. true_false e, h.2)
holds_noted (g ∷ gs) (x ∷ xs) (suc n) ts h = (h.0, h.1, holds_noted gs xs n ts h.2)

-- how many tokens the events say
unfoldable pub total : List Event → ℕ
total [] = 0
total (put t ∷ es) = suc (total es)
total (put_before n ts ∷ es) = length ts + total es

pub flat_more : (xs : List Slot) (t : Token) → length (flat (xs ++ (slot t [] ∷ []))) ≡ suc (length (flat xs))
unfolding flat
flat_more [] t = refl
flat_more (x ∷ xs) t =
    let e = length-append x.before (x.token ∷ flat xs) in
    let f = length-append x.before (x.token ∷ flat (xs ++ (slot t [] ∷ []))) in
    let g = flat_more xs t in
    omega arith
