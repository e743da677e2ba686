-- Theorems about specs/Nesting, and what rests on them.
use Rattle.std.specs.Prelude.{ℕ, List, [], ◌++◌, ◌∷◌, ◌≡◌, refl}
use Rattle.yaml_text.specs.declared.Mark.{Mark}
use Rattle.yaml_lexeme.specs.Token.{StreamEnd, Token, empty_token}
use Rattle.yaml_lexeme.specs.Role.{Open, ends_all, role}
use Rattle.yaml_scan.specs.declared.Limits.{Limits}
use Rattle.theorems.specs.Accepted.{Accepts}
use Rattle.theorems.specs.Nested.{Nested, Turns, done, ended, then}
use Rattle.theorems.specs.NestedLaws.{nested_append, nested_split}
use Rattle.theorems.proofs.NestingSteps.{scan_nested}

-- StreamEnd comes last, and there none is open
pub closes_all : (limits : Limits) (bytes : List ℕ) (ts : List Token) → Accepts limits bytes ts
    → (us : List Token) × (m : Mark) × (ts ≡ us ++ (empty_token StreamEnd m ∷ [])) × Nested [] us []
closes_all limits bytes ts a = rw a.list (scan_nested limits bytes a.events a.accepted)

-- the whole list is nested
pub whole : (limits : Limits) (bytes : List ℕ) (ts : List Token) → Accepts limits bytes ts → Nested [] ts []
unfolding role
whole limits bytes ts a = let c = closes_all limits bytes ts a in rw c.2 (nested_append c.3 (then ended done))

pub every_prefix : (limits : Limits) (bytes : List ℕ) (ts us vs : List Token) → Accepts limits bytes ts → ts ≡ us ++ vs → (os : List Open) × Nested [] us os
every_prefix limits bytes ts us vs a e = let s = nested_split us (rw e at (whole limits bytes ts a)) in (s.0, s.1)

-- wherever it stands
pub at_stream_end : (limits : Limits) (bytes : List ℕ) (ts us vs : List Token) (t : Token) → Accepts limits bytes ts → ts ≡ us ++ (t ∷ vs) → t.kind ≡ StreamEnd → Nested [] us []
unfolding role
at_stream_end limits bytes ts us vs t a e k = let s = nested_split us (rw e at (whole limits bytes ts a)) in by_end s.1 s.2
  where
    none_open : {os now : List Open} → Turns ends_all os now → os ≡ []
    none_open ended = refl

    by_end : {os : List Open} → Nested [] us os → Nested os (t ∷ vs) [] → Nested [] us []
    by_end h (then f _) = rw (none_open (rw k at f)) at h
