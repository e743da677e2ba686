-- Laws of nested tokens: one list behind another; the tokens of slots, where events give one more or put some in before one that was given (for Nesting).
use Rattle.std.specs.Prelude.{◌<◌, ◌≤◌, suc, zero, ℕ, List, [], ◌++◌, ◌∷◌, ◌≡◌, refl, drop, length}
use Rattle.std.proofs.Common.{arith, length-append}
use Rattle.std.proofs.lemmas.List.{drop-append-le}
use Rattle.yaml_lexeme.specs.Token.{Token}
use Rattle.yaml_lexeme.specs.Role.{Open, Role, role}
use Rattle.yaml_scan.specs.State.{Event, put}
use Rattle.yaml_scan.specs.Slots.{Slot, flat, note, slot, slots}
use Rattle.yaml_scan.specs.SlotLaws.{flat_append}
use Rattle.theorems.specs.Nested.{Nested, Turns, done, then}

-- one list behind another

pub nested_append : {a b c : List Open} {ts us : List Token} → Nested a ts b → Nested b us c → Nested a (ts ++ us) c
nested_append done k = k
nested_append (then e h) k = then e (nested_append h k)

pub nested_split : {a c : List Open} (ts : List Token) {us : List Token} → Nested a (ts ++ us) c → (b : List Open) × Nested a ts b × Nested b us c
nested_split {a} [] h = (a, done, h)
nested_split (t ∷ ts) (then e h) = let k = nested_split ts h in (k.0, then e k.1, k.2)

-- what tokens leave open is one thing

-- events that give tokens, as nested
pub data EventsNest : List Open → List Event → List Open → Type 0 where
  silent : {os : List Open} → EventsNest os [] os
  and_put : {os now os' : List Open} {t : Token} {es : List Event} → Turns (role t.kind) os now → EventsNest now es os' → EventsNest os (put t ∷ es) os'

pub says_append : {a b c : List Open} {es fs : List Event} → EventsNest a es b → EventsNest b fs c → EventsNest a (es ++ fs) c
says_append silent k = k
says_append (and_put e h) k = and_put e (says_append h k)

pub says_one : {r : Role} {a b : List Open} {t : Token} → role t.kind ≡ r → Turns r a b → EventsNest a (put t ∷ []) b
says_one {a = a} {b = b} {t = t} e h = let f : Turns (role t.kind) a b = rw e h in and_put f silent

pub says_nested : {a b : List Open} {t : Token} → EventsNest a (put t ∷ []) b → Nested a (t ∷ []) b
says_nested (and_put e silent) = then e done

-- the tokens of slots

-- the tokens from slot k on
abbrev pub since : ℕ → List Slot → List Token
since k xs = flat (drop k xs)

-- with one more
since_more : {a b c : List Open} (k : ℕ) (xs : List Slot) (t : Token) → k ≤ length xs → Nested a (since k xs) b → Turns (role t.kind) b c
    → Nested a (since k (xs ++ (slot t [] ∷ []))) c
unfolding flat
since_more k xs t i h e = rw (drop-append-le k xs (slot t [] ∷ []) i, flat_append (drop k xs) (slot t [] ∷ [])) (nested_append h (then e done))

pub since_says : {a b c : List Open} {es : List Event} (k : ℕ) (xs : List Slot) → k ≤ length xs → Nested a (since k xs) b → EventsNest b es c → Nested a (since k (slots xs es)) c
unfolding slots
since_says k xs i h silent = h
since_says k xs i h (and_put {t = t} e s) = since_says k (xs ++ (slot t [] ∷ [])) (omega (arith, length-append xs (slot t [] ∷ []))) (since_more k xs t i h e) s

-- slot k is there, and nothing was put in before its token
abbrev pub Clear : ℕ → List Slot → Type 0
Clear k [] = ⊥
Clear zero (x ∷ xs) = x.before ≡ []
Clear (suc k) (x ∷ xs) = Clear k xs

pub clear_within : (k : ℕ) (xs : List Slot) → Clear k xs → k < length xs
clear_within k [] h = absurd h
clear_within zero (x ∷ xs) h = omega arith
clear_within (suc k) (x ∷ xs) h = omega (arith, clear_within k xs h)

clear_append : (k : ℕ) (xs ys : List Slot) → Clear k xs → Clear k (xs ++ ys)
clear_append k [] ys h = absurd h
clear_append zero (x ∷ xs) ys h = h
clear_append (suc k) (x ∷ xs) ys h = clear_append k xs ys h

pub clear_last : (xs : List Slot) (t : Token) → Clear (length xs) (xs ++ (slot t [] ∷ []))
clear_last [] t = refl
clear_last (x ∷ xs) t = clear_last xs t

pub clear_says : {a b : List Open} {es : List Event} (k : ℕ) (xs : List Slot) → EventsNest a es b → Clear k xs → Clear k (slots xs es)
unfolding slots
clear_says k xs silent h = h
clear_says k xs (and_put {t = t} e s) h = clear_says k (xs ++ (slot t [] ∷ [])) s (clear_append k xs (slot t [] ∷ []) h)

pub clear_noted : (j k : ℕ) (ts : List Token) (xs : List Slot) → j < k → Clear j xs → Clear j (note k ts xs)
unfolding note
clear_noted j k ts [] i h = absurd h
clear_noted zero zero ts (x ∷ xs) i h = absurd (omega arith)
clear_noted zero (suc k) ts (x ∷ xs) i h = h
clear_noted (suc j) zero ts (x ∷ xs) i h = absurd (omega arith)
clear_noted (suc j) (suc k) ts (x ∷ xs) i h = clear_noted j k ts xs (omega arith) h

-- what comes from slot k on leaves u open, and below it what was open before
abbrev pub Leads : ℕ → List Open → List Slot → Type 0
Leads k u xs = (os : List Open) → Nested os (since k xs) (u ++ os)
