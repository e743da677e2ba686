-- Demand 3's prefix rule for Ask 8: in every beginning of the tokens given each end closes the latest start still open, of its own kind,
-- for a text that is refused, too.
use Rattle.std.specs.Prelude.{suc, zero, ℕ, List, [], ◌∷◌, ltb, length}
use Rattle.yaml_text.specs.declared.Mark.{Mark}
use Rattle.yaml_text.specs.Mark.{origin}
use Rattle.yaml_text.specs.Refusal.{Read, got, refused}
use Rattle.yaml_text.specs.Decode.{decode}
use Rattle.yaml_text.specs.Test.{by_test}
use Rattle.yaml_lexeme.specs.Token.{StreamStart, Token, empty_token}
use Rattle.yaml_lexeme.specs.Role.{Open, role}
use Rattle.yaml_scan.specs.declared.Candidate.{Candidate}
use Rattle.yaml_scan.specs.declared.Level.{Level}
use Rattle.yaml_scan.specs.declared.Limits.{Limits}
use Rattle.yaml_scan.specs.Indent.{Indents}
use Rattle.yaml_scan.specs.State.{Event, State, put}
use Rattle.yaml_scan.specs.Scan.{begin}
use Rattle.yaml_scan.specs.Slots.{Slot, flat, slot, slots, tokens_of}
use Rattle.yaml_scan.specs.Budget.{on_news}
use Rattle.theorems.specs.Nested.{Nested, done, ended, then}
use Rattle.theorems.specs.NestedLaws.{nested_append}
use Rattle.yaml_scan.specs.SlotLaws.{slots_append}
use Rattle.theorems.specs.Opened.{Built, inside, outside}
use Rattle.theorems.specs.NestingMoves.{Stands}
use Rattle.theorems.specs.NestingSteps.{Closes, begin_stands}
use Rattle.theorems.proofs.NestingSteps.{step_stands}
use Rattle.yaml_stream.specs.Tale.{built, in_step, tale, text_tale, told, told_of}

-- some starts are left open
abbrev pub LeavesOpen : List Token → Type 0
LeavesOpen ts = (os : List Open) × Nested [] ts os

built_opens : {i : Indents} {m : Mark} {xs : List Slot} {u : List Open} {n : ℕ} {ks : List Candidate} {ls : List Level} → Built i m xs u n ks ls → LeavesOpen (flat xs)
built_opens (outside h s l) = (_, l [])
built_opens (inside h t k) = built_opens k

-- all is closed at StreamEnd
closed_opens : (ts : List Token) → Closes ts → LeavesOpen ts
unfolding role
closed_opens ts c = rw c.2 ([], nested_append c.3 (then ended done))

tale_opens : (limits : Limits) (k : ℕ) (s : State) (xs : List Slot) → Stands s xs → LeavesOpen (flat (slots xs (tale limits k s).events))
unfolding tale slots
tale_opens limits zero s xs h = built_opens h.built
tale_opens limits (suc k) s xs h =
    on_news (λ r. LeavesOpen (flat (slots xs (in_step r (λ t. tale limits k t)).events))) (step_stands limits s)
    (λ es t i. rw (slots_append xs es (tale limits k t).events) (tale_opens limits k t (slots xs es) (i xs h)))
    (λ es i. closed_opens (flat (slots xs es)) (i xs h)) (λ _ _. built_opens h.built)

-- what the rules have built

nothing_opens : LeavesOpen (tokens_of [])
unfolding slots flat
nothing_opens = ([], done)

text_opens : (limits : Limits) (cs : List ℕ) → LeavesOpen (tokens_of (text_tale limits cs).events)
unfolding slots
text_opens limits cs =
    let s : Event = put (empty_token StreamStart origin) in
    let es = (tale limits (suc (length cs)) (begin cs)).events in
    let x : List Slot = slot (empty_token StreamStart origin) [] ∷ [] in
    tale_opens limits (suc (length cs)) (begin cs) x (begin_stands cs)

told_opens : (limits : Limits) (r : Read (List ℕ)) → LeavesOpen (tokens_of (told_of limits r).events)
told_opens limits (got cs) = text_opens limits cs
told_opens limits (refused n m) = nothing_opens

pub built_nested : (limits : Limits) (bytes : List ℕ) → LeavesOpen (built limits bytes)
unfolding told
built_nested limits bytes =
    by_test (ltb limits.bytes (length bytes)) (λ e. rw (e, told) nothing_opens) (λ e. rw (e, told) (told_opens limits (decode 0 origin bytes)))
