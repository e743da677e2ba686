-- What goes in before a token is a note: Key, or Key behind FlowMappingStart or BlockMappingStart. And events with numbers counted from the first token that waits.
use Rattle.std.specs.Prelude.{◌+◌, ◌-◌, ◌≤◌, suc, zero, ℕ, Bool, false, true, List, [], ◌++◌, ◌∷◌, map, ◌≡◌, refl, drop, get_or, length, set}
use Rattle.std.proofs.Common.{◌∙◌, ap, sym, arith, length-append, length-drop, length-set, get_or-drop}
use Rattle.std.proofs.lemmas.List.{drop-append-le, drop-set-add}
use Rattle.yaml_text.specs.declared.Mark.{Mark}
use Rattle.yaml_text.specs.Mark.{Place, origin}
use Rattle.yaml_text.specs.All.{All}
use Rattle.yaml_lexeme.specs.Token.{BlockMappingStart, FlowMappingEnd, FlowMappingStart, Key, StreamEnd, Token, empty_token}
use Rattle.yaml_lexeme.specs.Block.{one_if}
use Rattle.yaml_scan.specs.declared.Candidate.{Candidate}
use Rattle.yaml_scan.specs.declared.Level.{Level}
use Rattle.yaml_scan.specs.declared.Limits.{Limits}
use Rattle.yaml_scan.specs.Indent.{Indents}
use Rattle.yaml_scan.specs.State.{Event, News, State, block_ends, empty_if, ends_with, goes_on, mark_of, preceded, put, put_before, unroll_to}
use Rattle.yaml_scan.specs.Bracket.{implicit_open}
use Rattle.yaml_scan.specs.Document.{all_ends}
use Rattle.yaml_scan.specs.Scan.{step, unrolled}
use Rattle.yaml_scan.specs.Slots.{Slot, flat, note, slot, slots}
use Rattle.yaml_scan.specs.SlotLaws.{SlotsHold, holds_more, holds_noted, total}
use Rattle.yaml_scan.specs.Candidates.{EmptyAt, Free, GivenToken, OnlyPuts, Placed, fresh, given, note_at, only_append, only_ends, only_if, only_one}
use Rattle.yaml_scan.specs.Moves.{Move, Moves, begins, block_start, closes, goes_in, leaves, opens, pair_end, parts, tells, uses}
use Rattle.yaml_scan.specs.Steps.{Gapped, Takes, unrolled_state}
use Rattle.yaml_scan.proofs.Steps.{step_by}
use Rattle.yaml_stream.specs.Stream.{counted_from}
use Rattle.yaml_stream.specs.Kept.{NotesFrom}
use Rattle.yaml_stream.specs.Waits.{flat_length}
use Rattle.yaml_stream.specs.Totals.{not_both}

-- what may go in before a token that starts at the mark
pub data Note (m : Mark) : List Token → Type 0 where
  no_note : Note m []
  key : Note m (empty_token Key m ∷ [])
  pair : Note m (empty_token FlowMappingStart m ∷ empty_token Key m ∷ [])
  block : Note m (empty_token BlockMappingStart m ∷ empty_token Key m ∷ [])

-- what is left of one, its first token given
pub note_rest : {m : Mark} {b : Token} {bs : List Token} → Note m (b ∷ bs) → Note m bs
note_rest key = no_note
note_rest pair = key
note_rest block = key

-- tokens that are empty at a mark are a note there
note_there : {k : Mark} {ts : List Token} (m : Mark) → Note k ts → EmptyAt m ts → Note m ts
note_there m no_note h = no_note
note_there {k} m key h = let e : k ≡ m = ap (λ (t : Token). t.start) h.0 in rw e key
note_there {k} m pair h = let e : k ≡ m = ap (λ (t : Token). t.start) h.0 in rw e pair
note_there {k} m block h = let e : k ≡ m = ap (λ (t : Token). t.start) h.0 in rw e block

-- what goes in before the tokens of slots are notes at their starts
abbrev pub AllNoted : List Slot → Type 0
AllNoted [] = Unit {0}
AllNoted (x ∷ xs) = Note x.token.start x.before × AllNoted xs

-- events put in nothing but notes
unfoldable pub Notes : List Event → Type 0
Notes [] = Unit {0}
Notes (put t ∷ es) = Notes es
Notes (put_before k ts ∷ es) = ((m : Mark) × Note m ts) × Notes es

pub notes_append : (es fs : List Event) → Notes es → Notes fs → Notes (es ++ fs)
unfolding Notes
notes_append [] fs h k = k
notes_append (put t ∷ es) fs h k = notes_append es fs h k
notes_append (put_before n ts ∷ es) fs h k = (h.0, notes_append es fs h.1 k)

only_notes : (es : List Event) → OnlyPuts es → Notes es
unfolding Notes OnlyPuts
only_notes [] h = tt
only_notes (put t ∷ es) h = only_notes es h
only_notes (put_before n ts ∷ es) h = absurd h

then_notes : (es : List Event) (t : Token) → OnlyPuts es → Notes (es ++ (put t ∷ []))
then_notes es t h = only_notes (es ++ (put t ∷ [])) (only_append es (put t ∷ []) h (only_one t))

-- a step puts in notes: only ':' with a candidate puts tokens in

key_note : (p starts : Bool) (m : Mark) → one_if p + one_if starts ≤ 1 → Note m (goes_in p starts m)
key_note false false m h = key
key_note false true m h = block
key_note true false m h = pair
key_note true true m h = absurd (omega arith)

move_notes : (s : State) {t : Token} {q : Place} {es : List Event} {i : Indents} {ks : List Candidate} {ls : List Level} → Move s t q es i ks ls → Notes es
unfolding Notes
move_notes s (tells e same) = tt
move_notes s {t} (leaves e f) = then_notes (all_ends s) t (only_ends (unroll_to 0 s).ended (mark_of s))
move_notes s (opens sequence e same) = tt
move_notes s {t} (closes sequence m e c) = then_notes (pair_end m s) t (only_if (implicit_open s.levels) FlowMappingEnd m)
move_notes s {t} (parts m e) = then_notes (pair_end m s) t (only_if (implicit_open s.levels) FlowMappingEnd m)
move_notes s {t} (begins {pair = p} {r = r} sequence m e k) =
    let fs = empty_if p FlowMappingStart m in
    let gs = empty_if r.starts (block_start sequence) m in
    then_notes (fs ++ gs) t (only_append fs gs (only_if p FlowMappingStart m) (only_if r.starts (block_start sequence) m))
move_notes s (uses {pair = p} {m = m} {r = r} e b c) = ((m, key_note p r.starts m (not_both b)), tt)

abbrev pub NotesIn : News → Type 0
NotesIn (goes_on es t) = Notes es
NotesIn (ends_with es) = Notes es

pub step_notes : (limits : Limits) (s : State) → All News NotesIn (step limits s)
step_notes limits s = step_by limits s by_news
  where
    by_news : (t : State) → Gapped s t → (w : News) → Moves (unrolled_state t) w → Takes (unrolled_state t) w → NotesIn (preceded (block_ends (unrolled t).ended (mark_of t)) w)
    by_news t g (goes_on es u) m k =
        let bs = block_ends (unrolled t).ended (mark_of t) in
        notes_append bs es (only_notes bs (only_ends (unrolled t).ended (mark_of t))) (move_notes (unrolled_state t) m.2)
    by_news t g (ends_with es) m k =
        let bs = block_ends (unrolled t).ended (mark_of t) in
        let cs = block_ends (unroll_to 0 (unrolled_state t)).ended m.0 in
        notes_append bs es (only_notes bs (only_ends (unrolled t).ended (mark_of t)))
        (rw m.2 (then_notes cs (empty_token StreamEnd m.0) (only_ends (unroll_to 0 (unrolled_state t)).ended m.0)))

-- slots after events

pub holds_after : (es : List Event) (gs : List GivenToken) (xs : List Slot) → SlotsHold gs xs → SlotsHold (given gs es) (slots xs es)
unfolding given slots
holds_after [] gs xs h = h
holds_after (put t ∷ es) gs xs h = holds_after es (gs ++ (fresh t.start ∷ [])) (xs ++ (slot t [] ∷ [])) (holds_more gs xs t h)
holds_after (put_before n ts ∷ es) gs xs h = holds_after es (note_at n gs) (note n ts xs) (holds_noted gs xs n ts h)

noted_more : (xs : List Slot) (t : Token) → AllNoted xs → AllNoted (xs ++ (slot t [] ∷ []))
noted_more [] t h = (no_note, tt)
noted_more (x ∷ xs) t h = (h.0, noted_more xs t h.1)

noted_note : (gs : List GivenToken) (xs : List Slot) (n : ℕ) (m : Mark) (ts : List Token) → SlotsHold gs xs → Free gs n m → Note m ts → AllNoted xs → AllNoted (note n ts xs)
unfolding note
noted_note gs [] n m ts h f k r = tt
noted_note [] (x ∷ xs) n m ts h f k r = absurd h
noted_note (g ∷ gs) (x ∷ xs) zero m ts h f k r =
    let e : x.token.start ≡ m = h.0 ∙ ap (λ (j : GivenToken). j.start) f.1 in
    (rw e k, r.1)
noted_note (g ∷ gs) (x ∷ xs) (suc n) m ts h f k r = (r.0, noted_note gs xs n m ts h.2 (omega (arith, f.0), f.1) k r.1)

pub noted_after : (es : List Event) (gs : List GivenToken) (xs : List Slot) → SlotsHold gs xs → Placed gs es → Notes es → AllNoted xs → AllNoted (slots xs es)
unfolding Placed Notes slots
noted_after [] gs xs h p k r = r
noted_after (put t ∷ es) gs xs h p k r = noted_after es (gs ++ (fresh t.start ∷ [])) (xs ++ (slot t [] ∷ [])) (holds_more gs xs t h) p k (noted_more xs t r)
noted_after (put_before n ts ∷ es) gs xs h p k r =
    noted_after es (note_at n gs) (note n ts xs) (holds_noted gs xs n ts h) p.3 k.1 (noted_note gs xs n p.0 ts h p.1 (note_there p.0 k.0.1 p.2) r)

-- each slot has its token and those before it
unfoldable pub befores : List Slot → ℕ
befores [] = 0
befores (x ∷ xs) = length x.before + befores xs

pub flat_befores : (xs : List Slot) → length (flat xs) ≡ length xs + befores xs
unfolding flat befores
flat_befores [] = refl
flat_befores (x ∷ xs) = omega (arith, flat_length x xs, flat_befores xs)

-- numbers counted from n on

pub counted_notes : (n : ℕ) (es : List Event) → Notes es → Notes (map (counted_from n) es)
unfolding Notes
counted_notes n [] h = tt
counted_notes n (put t ∷ es) h = counted_notes n es h
counted_notes n (put_before k ts ∷ es) h = (h.0, counted_notes n es h.1)

pub counted_total : (n : ℕ) (es : List Event) → total (map (counted_from n) es) ≡ total es
unfolding total
counted_total n [] = refl
counted_total n (put t ∷ es) = ap suc (counted_total n es)
counted_total n (put_before k ts ∷ es) = ap (λ (i : ℕ). length ts + i) (counted_total n es)

note_drop : (n k : ℕ) (gs : List GivenToken) → n ≤ k → note_at (k - n) (drop n gs) ≡ drop n (note_at k gs)
note_drop n k gs h =
    let i = k - n in
    let e : n + i ≡ k = omega arith in
    ap (λ (g : GivenToken). set (drop n gs) i (record { start = g.start; noted = true })) (get_or-drop n gs i (fresh origin))
    ∙ sym (drop-set-add n gs i (record { start = (get_or gs (n + i) (fresh origin)).start; noted = true }))
    ∙ ap (λ (j : ℕ). drop n (note_at j gs)) e

note_at_length : (k : ℕ) (gs : List GivenToken) → length (note_at k gs) ≡ length gs
note_at_length k gs = length-set gs k (record { start = (get_or gs k (fresh origin)).start; noted = true })

pub counted_given : (n : ℕ) (es : List Event) (gs : List GivenToken) → n ≤ length gs → NotesFrom n es → given (drop n gs) (map (counted_from n) es) ≡ drop n (given gs es)
unfolding given NotesFrom
counted_given n [] gs b h = refl
counted_given n (put t ∷ es) gs b h =
    let f = fresh t.start ∷ [] in
    ap (λ (hs : List GivenToken). given hs (map (counted_from n) es)) (sym (drop-append-le n gs f b)) ∙ counted_given n es (gs ++ f) (omega (arith, length-append gs f)) h
counted_given n (put_before k ts ∷ es) gs b h =
    ap (λ (hs : List GivenToken). given hs (map (counted_from n) es)) (note_drop n k gs h.0) ∙ counted_given n es (note_at k gs) (omega (arith, note_at_length k gs)) h.1

free_drop : (n k : ℕ) (m : Mark) (gs : List GivenToken) → n ≤ k → Free gs k m → Free (drop n gs) (k - n) m
free_drop n k m gs h f =
    let e : n + (k - n) ≡ k = omega arith in
    (omega (arith, length-drop n gs, f.0), get_or-drop n gs (k - n) (fresh origin) ∙ ap (λ (i : ℕ). get_or gs i (fresh origin)) e ∙ f.1)

pub counted_placed : (n : ℕ) (es : List Event) (gs : List GivenToken) → n ≤ length gs → NotesFrom n es → Placed gs es → Placed (drop n gs) (map (counted_from n) es)
unfolding Placed NotesFrom
counted_placed n [] gs b h p = tt
counted_placed n (put t ∷ es) gs b h p =
    let f = fresh t.start ∷ [] in
    rw (sym (drop-append-le n gs f b)) (counted_placed n es (gs ++ f) (omega (arith, length-append gs f)) h p)
counted_placed n (put_before k ts ∷ es) gs b h p =
    (p.0, free_drop n k p.0 gs h.0 p.1, p.2, rw (note_drop n k gs h.0) (counted_placed n es (note_at k gs) (omega (arith, note_at_length k gs)) h.1 p.3))
