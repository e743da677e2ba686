-- Theorems about specs/NestedLaws, and what rests on them.
use Rattle.std.specs.Prelude.{◌≤◌, suc, zero, ℕ, List, [], ◌++◌, ◌∷◌, ◌≡◌, refl, drop}
use Rattle.std.proofs.Common.{◌∙◌, sym, arith}
use Rattle.yaml_lexeme.specs.Token.{Token}
use Rattle.yaml_lexeme.specs.Role.{Open, Role, ends, ends_all, neither, starts}
use Rattle.yaml_scan.specs.Slots.{Slot, flat, note}
use Rattle.theorems.specs.Nested.{Nested, Turns, closed, done, ended, kept, opened, then}
use Rattle.theorems.specs.NestedLaws.{nested_append, nested_split, since, Clear, Leads}

-- the starts still open behind a token of this role
abbrev open_behind : Role → List Open → List Open
open_behind (starts kind) os = kind ∷ os
open_behind (ends kind) os = drop 1 os
open_behind ends_all os = []
open_behind neither os = os

turn_is : {r : Role} {a b : List Open} → Turns r a b → b ≡ open_behind r a
turn_is opened = refl
turn_is closed = refl
turn_is ended = refl
turn_is kept = refl

turn_one : {r : Role} {a b c : List Open} → Turns r a b → Turns r a c → b ≡ c
turn_one e f = turn_is e ∙ sym (turn_is f)

nested_one : {a b c : List Open} {ts : List Token} → Nested a ts b → Nested a ts c → b ≡ c
nested_one done done = refl
nested_one (then e h) (then f k) = nested_one h (rw (turn_one f e) at k)

-- where what comes from slot k on leaves nothing open besides, tokens that go in before it leave open behind all what they open
noted_first : {a b : List Open} (k : ℕ) (w : List Open) (ts : List Token) (xs : List Slot) → ((os : List Open) → Nested os ts (w ++ os)) → Clear k xs → Leads k [] xs
    → Nested a (flat xs) b → Nested a (flat (note k ts xs)) (w ++ b)
unfolding flat note
noted_first k w ts [] e c h n = absurd c
noted_first {a} zero w ts (x ∷ xs) e c h n =
    rw (nested_one n (h a)) (nested_append (e a) (rw c at (h (w ++ a))))
noted_first {a} (suc k) w ts (x ∷ xs) e c h n =
    let s = nested_split x.before n in
    let r = nested_split (x.token ∷ []) s.2 in
    nested_append s.1 (nested_append r.1 (noted_first {a = r.0} k w ts xs e c h r.2))

pub since_noted : {a b : List Open} (j k : ℕ) (w : List Open) (ts : List Token) (xs : List Slot) → j ≤ k → ((os : List Open) → Nested os ts (w ++ os)) → Clear k xs → Leads k [] xs
    → Nested a (since j xs) b → Nested a (since j (note k ts xs)) (w ++ b)
unfolding note
since_noted zero k w ts xs i e c h n = noted_first k w ts xs e c h n
since_noted (suc j) k w ts [] i e c h n = absurd c
since_noted (suc j) zero w ts (x ∷ xs) i e c h n = absurd (omega arith)
since_noted (suc j) (suc k) w ts (x ∷ xs) i e c h n = since_noted j k w ts xs (omega arith) e c h n
