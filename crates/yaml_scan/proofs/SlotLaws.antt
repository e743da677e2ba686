-- Theorems about specs/SlotLaws, and what rests on them.
use Rattle.std.specs.Prelude.{◌+◌, suc, zero, ℕ, List, [], ◌++◌, ◌∷◌, ◌≡◌, length}
use Rattle.std.proofs.Common.{◌∙◌, ap, arith, zero-add, length-append}
use Rattle.yaml_text.specs.declared.Mark.{Mark}
use Rattle.yaml_lexeme.specs.Token.{Token}
use Rattle.yaml_scan.specs.declared.Limits.{Limits}
use Rattle.yaml_scan.specs.State.{Event, put, put_before}
use Rattle.yaml_scan.specs.Slots.{Slot, flat, note, slot, slots, tokens_of}
use Rattle.yaml_scan.specs.Scan.{outcome, scanned}
use Rattle.yaml_scan.specs.Candidates.{Free, GivenToken, Placed, fresh, note_at}
use Rattle.yaml_scan.proofs.Budget.{outcome_placed}
use Rattle.yaml_scan.specs.SlotLaws.{SlotsHold, holds_more, holds_noted, total, flat_more}

flat_noted : (gs : List GivenToken) (xs : List Slot) (n : ℕ) (m : Mark) (ts : List Token) → SlotsHold gs xs → Free gs n m → length (flat (note n ts xs)) ≡ length (flat xs) + length ts
unfolding flat note
flat_noted [] [] n m ts h f = let k = f.0 in absurd (omega arith)
flat_noted [] (x ∷ xs) n m ts h f = absurd h
flat_noted (g ∷ gs) [] n m ts h f = absurd h
flat_noted (g ∷ gs) (x ∷ xs) zero m ts h f =
    let e = length-append ts (x.token ∷ flat xs) in
    rw (h.1 (ap (λ (g' : GivenToken). g'.noted) f.1)) (omega arith)
flat_noted (g ∷ gs) (x ∷ xs) (suc n) m ts h f =
    let e = length-append x.before (x.token ∷ flat xs) in
    let i = length-append x.before (x.token ∷ flat (note n ts xs)) in
    let k = flat_noted gs xs n m ts h.2 (omega (arith, f.0), f.1) in
    omega arith

-- so many tokens more
pub slots_total : (gs : List GivenToken) (xs : List Slot) (es : List Event) → SlotsHold gs xs → Placed gs es → length (flat (slots xs es)) ≡ length (flat xs) + total es
unfolding slots total Placed
slots_total gs xs [] h p = omega arith
slots_total gs xs (put t ∷ es) h p =
    let e = slots_total (gs ++ (fresh t.start ∷ [])) (xs ++ (slot t [] ∷ [])) es (holds_more gs xs t h) p in
    let f = flat_more xs t in
    omega arith
slots_total gs xs (put_before n ts ∷ es) h p =
    let e = slots_total (note_at n gs) (note n ts xs) es (holds_noted gs xs n ts h) p.3 in
    let f = flat_noted gs xs n p.0 ts h p.1 in
    omega arith

pub tokens_total : (es : List Event) → Placed [] es → length (tokens_of es) ≡ total es
unfolding flat
tokens_total es p = slots_total [] [] es tt p ∙ zero-add _

-- T, counted as the events come
pub outcome_total : (limits : Limits) (bytes : List ℕ) (es : List Event) → outcome limits bytes ≡ scanned es → length (tokens_of es) ≡ total es
outcome_total limits bytes es e = tokens_total es (rw e at (outcome_placed limits bytes))
