-- Each move keeps what is open nested (for Nesting).
use Rattle.std.specs.Prelude.{◌≤◌, suc, zero, ℕ, false, true, ◌≡◌, refl, length, replicate}
use mathlib.Core.List.{List, [], ◌++◌, ◌∷◌}
use Rattle.std.proofs.Common.{arith}
use Rattle.std.proofs.lemmas.List.{replicate-append-replicate}
use Rattle.yaml_text.specs.declared.Mark.{Mark}
use Rattle.yaml_text.specs.Mark.{Place, edge_of}
use Rattle.yaml_text.specs.Test.{true_false}
use Rattle.yaml_text.specs.PlaceLaws.{FurtherOn}
use Rattle.yaml_lexeme.specs.Role.{block, role}
use Rattle.yaml_scan.specs.declared.Candidate.{Candidate}
use Rattle.yaml_scan.specs.declared.Candidate.TheVariants.{Absent, Possible}
use Rattle.yaml_scan.specs.declared.Level.{Level}
use Rattle.yaml_scan.specs.Indent.{Indents, unroll}
use Rattle.yaml_scan.specs.IndentLaws.{Rises, Same, innermost, unroll_blocks}
use Rattle.yaml_scan.specs.State.{Event, State, block_ends, in_flow, mark_of}
use Rattle.yaml_scan.specs.Slots.{Slot, slots}
use Rattle.theorems.specs.Nested.{closed}
use Rattle.theorems.specs.NestedLaws.{Leads, and_put, silent}
use Rattle.theorems.specs.Opened.{Built, MovesOn, Stays, Turned, blocks, leads_says, outside, turned_over}

-- what the events of a move turn

-- the ends of blocks
pub ends_turn : (n : ℕ) (m : Mark) → Turned (replicate n block) (block_ends n m) []
unfolding role
ends_turn zero m os = silent
ends_turn (suc n) m os = and_put closed (ends_turn n m os)

-- where the state goes on

stays_on : {i i' : Indents} {p q : Place} → Same i i' → FurtherOn p q → (c : Candidate) → Stays i p.mark c → Stays i' q.mark c
stays_on s f Absent h = tt
stays_on s f (Possible required n k) h =
    let l = f.line_on in
    (omega (arith, s.at), omega arith, λ e. omega (arith, h.2 (omega arith), f.col_on (omega arith)))

pub goes_to : {i i' : Indents} {p q : Place} → Same i i' → FurtherOn p q → MovesOn i p.mark i' q.mark
goes_to s f = record { same_blocks = s.blocks; stays = stays_on s f }

-- the state s, with its slots
pub record Stands (s : State) (xs : List Slot) : Type 0 where
  pub counted : s.count ≡ length xs
  pub rises : Rises s.indents
  pub built : Built s.indents (mark_of s) xs [] (length xs) s.keys s.levels

-- behind the gap and the ends of blocks none stands further in
abbrev pub AtEdge : State → Type 0
AtEdge s = s.levels ≡ [] → innermost s.indents ≤ edge_of (mark_of s)

pub zero_level : (s : State) → in_flow s ≡ false → s.levels ≡ []
unfolding in_flow
zero_level s e = by_levels s.levels e
  where
    by_levels : (ls : List Level) → elim ls [ [] ↦ false | x ∷ xs ↦ true ] ≡ false → ls ≡ []
    by_levels [] f = refl
    by_levels (l ∷ ls) f = true_false f

pub at_zero : {i : Indents} {m : Mark} {xs : List Slot} {n : ℕ} {ks : List Candidate} → Built i m xs [] n ks [] → Leads 0 (blocks i) xs
at_zero (outside h s l) = l

-- the blocks that are unrolled end
pub ends_lead : {es : List Event} (edge : ℕ) (i : Indents) (xs : List Slot) → Turned (replicate (unroll edge i.indent i.entries).ended block) es [] → Leads 0 (blocks i) xs
    → Leads 0 (blocks (unroll edge i.indent i.entries).indents) (slots xs es)
ends_lead edge i xs e h =
    let u = unroll edge i.indent i.entries in
    let b = replicate u.ended block in
    leads_says 0 (b ++ blocks u.indents) (blocks u.indents) xs (omega arith) (turned_over b [] (blocks u.indents) e)
    (rw (replicate-append-replicate, unroll_blocks edge i.indent i.entries) h)
