-- Behind a scanning step at most as many more tokens wait as the indent stack may have entries, and one: 4,352 under 01's limits.
use Rattle.std.specs.Prelude.{◌*◌, ◌-◌, ◌≤◌, suc, zero, ℕ, List, [], ◌++◌, ◌∷◌, length}
use Rattle.std.proofs.Common.{le_refl, arith}
use Rattle.yaml_text.specs.Mark.{Place}
use Rattle.yaml_text.specs.All.{All}
use Rattle.yaml_lexeme.specs.Token.{FlowMappingEnd, FlowMappingStart, Token}
use Rattle.yaml_scan.specs.declared.Candidate.{Candidate}
use Rattle.yaml_scan.specs.declared.Level.{Level}
use Rattle.yaml_scan.specs.declared.Limits.{Limits}
use Rattle.yaml_scan.specs.Indent.{Indents}
use Rattle.yaml_scan.specs.State.{Event, News, State, block_ends, empty_if, ends_with, goes_on, mark_of, preceded, put, put_before, unroll_to}
use Rattle.yaml_scan.specs.Bracket.{implicit_open}
use Rattle.yaml_scan.specs.Document.{all_ends}
use Rattle.yaml_scan.specs.Scan.{step, unrolled}
use Rattle.yaml_scan.specs.Slots.{Slot, flat, note, slot, slots}
use Rattle.yaml_scan.specs.Candidates.{OnlyPuts, only_append, only_ends, only_if, only_one}
use Rattle.yaml_scan.specs.Moves.{Move, Moves, begins, block_start, closes, leaves, opens, pair_end, parts, tells, uses}
use Rattle.yaml_scan.specs.Steps.{Gapped, Takes, unrolled_state}
use Rattle.yaml_scan.proofs.Steps.{step_by}
use Rattle.theorems.specs.NestingMoves.{Stands}
use Rattle.yaml_stream.specs.Stream.{Stream, broken, closing, least_records, scanning, waits}
use Rattle.yaml_stream.specs.Waits.{flat_length}
use Rattle.yaml_stream.specs.Totals.{goes_in_length, not_both}
use Rattle.yaml_stream.specs.Spare.{Spare}

-- how many tokens a step says

-- while a candidate is left no block ends

-- at most two tokens go in before one

abbrev pub Thin : List Slot → Type 0
Thin [] = Unit {0}
Thin (x ∷ xs) = (length x.before ≤ 2) × Thin xs

unfoldable pub NotesThin : List Event → Type 0
NotesThin [] = Unit {0}
NotesThin (put t ∷ es) = NotesThin es
NotesThin (put_before n ts ∷ es) = (length ts ≤ 2) × NotesThin es

thin_more : (xs : List Slot) (t : Token) → Thin xs → Thin (xs ++ (slot t [] ∷ []))
thin_more [] t h = (omega arith, tt)
thin_more (x ∷ xs) t h = (h.0, thin_more xs t h.1)

thin_note : (n : ℕ) (ts : List Token) (xs : List Slot) → length ts ≤ 2 → Thin xs → Thin (note n ts xs)
unfolding note
thin_note n ts [] b h = tt
thin_note zero ts (x ∷ xs) b h = (b, h.1)
thin_note (suc n) ts (x ∷ xs) b h = (h.0, thin_note n ts xs b h.1)

pub thin_waits : (n : ℕ) (xs : List Slot) (es : List Event) → NotesThin es → Thin xs → Thin (waits n xs es)
unfolding waits slots NotesThin
thin_waits n xs [] k h = h
thin_waits n xs (put t ∷ es) k h = thin_waits n (xs ++ (slot t [] ∷ [])) es k (thin_more xs t h)
thin_waits n xs (put_before j ts ∷ es) k h = thin_waits n (note (j - n) ts xs) es k.1 (thin_note (j - n) ts xs k.0 h)

pub thin_flat : (xs : List Slot) → Thin xs → length (flat xs) ≤ 3 * length xs
unfolding flat
thin_flat [] h = le_refl _
thin_flat (x ∷ xs) h = omega (arith, flat_length x xs, h.0, thin_flat xs h.1)

notes_append : (es fs : List Event) → NotesThin es → NotesThin fs → NotesThin (es ++ fs)
unfolding NotesThin
notes_append [] fs h k = k
notes_append (put t ∷ es) fs h k = notes_append es fs h k
notes_append (put_before n ts ∷ es) fs h k = (h.0, notes_append es fs h.1 k)

only_thin : (es : List Event) → OnlyPuts es → NotesThin es
unfolding NotesThin OnlyPuts
only_thin [] h = tt
only_thin (put t ∷ es) h = only_thin es h
only_thin (put_before n ts ∷ es) h = absurd h

then_thin : (es : List Event) (t : Token) → OnlyPuts es → NotesThin (es ++ (put t ∷ []))
then_thin es t h = only_thin (es ++ (put t ∷ [])) (only_append es (put t ∷ []) h (only_one t))

move_thin : (s : State) {t : Token} {q : Place} {es : List Event} {i : Indents} {ks : List Candidate} {ls : List Level} → Move s t q es i ks ls → NotesThin es
unfolding NotesThin
move_thin s (tells e same) = tt
move_thin s {t} (leaves e f) = then_thin (all_ends s) t (only_ends (unroll_to 0 s).ended (mark_of s))
move_thin s (opens sequence e same) = tt
move_thin s {t} (closes sequence m e c) = then_thin (pair_end m s) t (only_if (implicit_open s.levels) FlowMappingEnd m)
move_thin s {t} (parts m e) = then_thin (pair_end m s) t (only_if (implicit_open s.levels) FlowMappingEnd m)
move_thin s {t} (begins {pair = p} {r = r} sequence m e k) =
    let fs = empty_if p FlowMappingStart m in
    let gs = empty_if r.starts (block_start sequence) m in
    then_thin (fs ++ gs) t (only_append fs gs (only_if p FlowMappingStart m) (only_if r.starts (block_start sequence) m))
move_thin s (uses {pair = p} {m = m} {r = r} e b c) = (omega (arith, goes_in_length p r.starts m, not_both b), tt)

abbrev pub ThinOn : News → Type 0
ThinOn (goes_on es t) = NotesThin es
ThinOn (ends_with es) = Unit {0}

pub step_thin : (limits : Limits) (s : State) → All News ThinOn (step limits s)
step_thin limits s = step_by limits s by_news
  where
    by_news : (t : State) → Gapped s t → (w : News) → Moves (unrolled_state t) w → Takes (unrolled_state t) w → ThinOn (preceded (block_ends (unrolled t).ended (mark_of t)) w)
    by_news t g (goes_on es u) m k =
        let bs = block_ends (unrolled t).ended (mark_of t) in
        notes_append bs es (only_thin bs (only_ends (unrolled t).ended (mark_of t))) (move_thin (unrolled_state t) m.2)
    by_news t g (ends_with es) m k = tt

-- what streams keep

pub record Tight (limits : Limits) (s : State) (xs : List Slot) : Type 0 where
  -- of all tokens, those given too
  pub all : List Slot
  pub stands : Stands s all
  pub spare : Spare limits s
  pub thin : Thin xs

abbrev pub Tightly : Limits → Stream → Type 0
Tightly limits (scanning s n xs used) = Tight limits s xs
Tightly limits (closing xs) = Unit {0}
Tightly limits (broken k m) = Unit {0}

-- with all entries blocks, few tokens wait before a step

-- the words hold them
pub records_hold : 4_352 ≤ least_records
records_hold = omega arith
