-- What a scan puts in before a token is always one of the notes, for only ':' with a candidate puts tokens in: Key, behind
-- FlowMappingStart where a pair begins, which it does only in flow, or behind BlockMappingStart where a block does, which it does not in flow.
use Rattle.std.specs.Prelude.{ℕ, Bool, false, true, List, [], ◌++◌, ◌∷◌, ◌≡◌, refl}
use Rattle.std.proofs.Common.{◌∙◌, ap, sym}
use Rattle.yaml_text.specs.declared.Mark.{Mark}
use Rattle.yaml_text.specs.Mark.{Place}
use Rattle.yaml_text.specs.Test.{true_false}
use Rattle.yaml_lexeme.specs.Token.{FlowMappingEnd, FlowMappingStart, Token}
use Rattle.yaml_lexeme.specs.Record.{laid, number_of}
use Rattle.yaml_scan.specs.declared.Candidate.{Candidate}
use Rattle.yaml_scan.specs.declared.Level.{Level}
use Rattle.yaml_scan.specs.declared.Limits.{Limits}
use Rattle.yaml_scan.specs.Indent.{Indents, Rolled}
use Rattle.yaml_scan.specs.State.{Event, State, block_ends, ends_with, goes_on, in_flow, mark_of, put, put_before, unroll_to}
use Rattle.yaml_scan.specs.Bracket.{implicit_open}
use Rattle.yaml_scan.specs.Scan.{outcome, scanned, unrolled}
use Rattle.yaml_scan.specs.Candidates.{OnlyPuts, only_append, only_ends, only_if, only_one}
use Rattle.yaml_scan.specs.Moves.{Begins, Enters, Move, Moves, begins, block_start, closes, goes_in, leaves, opens, parts, tells, uses}
use Rattle.yaml_scan.specs.Steps.{Gapped, Takes}
use Rattle.theorems.specs.Induction.{outcome_good}
use Rattle.sink.specs.Settle.{note_kinds, opener}
use Rattle.sink.specs.SlotWords.{note_number, note_of}
use Rattle.sink.specs.EventsStored.{Notes, kinds, notes_append}

-- events that only give tokens

only_notes : (es : List Event) → OnlyPuts es → Notes es
unfolding OnlyPuts Notes
only_notes [] h = tt
only_notes (put t ∷ es) h = only_notes es h
only_notes (put_before n ts ∷ es) h = absurd h

behind : (es : List Event) (t : Token) → OnlyPuts es → Notes (es ++ (put t ∷ []))
behind es t h = only_notes (es ++ (put t ∷ [])) (only_append es (put t ∷ []) h (only_one t))

-- ':' with a candidate

key_kinds : (pair starts : Bool) (m : Mark) → (pair ≡ true → starts ≡ false) → kinds (goes_in pair starts m) ≡ note_kinds (note_of (goes_in pair starts m))
unfolding note_kinds note_number opener laid number_of
key_kinds false false m h = refl
key_kinds false true m h = refl
key_kinds true false m h = refl
key_kinds true true m h = true_false (h refl)

one_start : {s : State} {q : Place} {pair : Bool} {r : Rolled} {ls : List Level} → Begins s q pair r ls → pair ≡ true → r.starts ≡ false
unfolding in_flow
one_start {s} {pair = pair} {r = r} {ls = ls} b p = by_levels s.levels refl b.enters
  where
    by_levels : (ks : List Level) → s.levels ≡ ks → Enters pair ks ls → r.starts ≡ false
    by_levels [] e h = true_false (sym p ∙ h.1)
    by_levels (l ∷ ks) e h = ap (λ (x : Rolled). x.starts) (b.rolls.flows (rw e))

-- one token

move_notes : {s : State} {t : Token} {q : Place} {es : List Event} {i : Indents} {ks : List Candidate} {ls : List Level} → Move s t q es i ks ls → Notes es
unfolding Notes
move_notes (tells e h) = tt
move_notes {s} {t} (leaves e h) = behind (block_ends (unroll_to 0 s).ended (mark_of s)) t (only_ends (unroll_to 0 s).ended (mark_of s))
move_notes (opens sequence e h) = tt
move_notes {s} {t} (closes sequence m e h) = behind _ t (only_if (implicit_open s.levels) FlowMappingEnd m)
move_notes {s} {t} (parts m e) = behind _ t (only_if (implicit_open s.levels) FlowMappingEnd m)
move_notes {t = t} (begins {pair = pair} {r = r} sequence m e h) =
    behind _ t (only_append _ _ (only_if pair FlowMappingStart m) (only_if r.starts (block_start sequence) m))
move_notes (uses {pair = pair} {m = m} {r = r} e h k) = (key_kinds pair r.starts m (one_start h), tt)

-- a run

abbrev OnlyNotes : State → List Event → Type 0
OnlyNotes s es = Notes es

pub outcome_notes : (limits : Limits) (bytes : List ℕ) (es : List Event) → outcome limits bytes ≡ scanned es → Notes es
unfolding Notes
outcome_notes limits bytes es e = let w = outcome_good limits OnlyNotes OnlyNotes gap move last bytes es e in rw w.whole w.good
  where
    gap : (s t : State) (fs : List Event) → Gapped s t → Notes fs → Notes (block_ends (unrolled t).ended (mark_of t) ++ fs)
    gap s t fs g h = let bs = block_ends (unrolled t).ended (mark_of t) in notes_append bs fs (only_notes bs (only_ends (unrolled t).ended (mark_of t))) h

    move : (s u : State) (es fs : List Event) → Moves s (goes_on es u) → Takes s (goes_on es u) → Notes fs → Notes (es ++ fs)
    move s u es fs m k h = notes_append es fs (move_notes m.2) h

    last : (s : State) (es : List Event) → Moves s (ends_with es) → Notes es
    last s es m = rw m.2 (behind _ _ (only_ends (unroll_to 0 s).ended m.0))
