-- A run leaves what is open nested: each gap, each move and the end, from the front (for Nesting).
use Rattle.std.specs.Prelude.{ℕ, false, true, List, [], ◌++◌, ◌∷◌, ◌≡◌, refl}
use Rattle.yaml_text.specs.declared.Mark.{Mark}
use Rattle.yaml_text.specs.Mark.{edge_of, origin}
use Rattle.yaml_lexeme.specs.Token.{StreamEnd, StreamStart, Token, empty_token}
use Rattle.yaml_lexeme.specs.Role.{role}
use Rattle.yaml_scan.specs.IndentLaws.{open_blocks}
use Rattle.yaml_scan.specs.State.{News, State, ends_with, goes_on, in_flow, mark_of, unroll_to}
use Rattle.yaml_scan.specs.Scan.{begin, unrolled}
use Rattle.yaml_scan.specs.Slots.{Slot, flat, slot, slots}
use Rattle.theorems.specs.Nested.{Nested, done, kept, then}
use Rattle.theorems.specs.Opened.{outside}
use Rattle.theorems.specs.NestingMoves.{Stands}

-- a gap

-- the ends of blocks

pub unrolled_in : (t : State) → in_flow t ≡ true → unrolled t ≡ record { ended = 0; indents = t.indents }
unfolding unrolled
unrolled_in t e = rw (e, unrolled)

pub unrolled_out : (t : State) → in_flow t ≡ false → unrolled t ≡ unroll_to (edge_of (mark_of t)) t
unfolding unrolled
unrolled_out t e = rw (e, unrolled)

-- a run

-- StreamEnd comes last, and there none is open
abbrev pub Closes : List Token → Type 0
Closes ts = (us : List Token) × (m : Mark) × (ts ≡ us ++ (empty_token StreamEnd m ∷ [])) × Nested [] us []

-- the slots behind a step stand as well
abbrev pub StandsOn : State → News → Type 0
StandsOn s (goes_on es u) = (xs : List Slot) → Stands s xs → Stands u (slots xs es)
StandsOn s (ends_with es) = (xs : List Slot) → Stands s xs → Closes (flat (slots xs es))

-- StreamStart was given
pub begin_stands : (cs : List ℕ) → Stands (begin cs) (slot (empty_token StreamStart origin) [] ∷ [])
unfolding flat role open_blocks
begin_stands cs = record { counted = refl; rises = tt; built = outside tt tt (λ os. then kept done) }
