-- StreamEnd comes last in the list that the rules have built, and only where they come to the end of the text.
use Rattle.std.specs.Prelude.{suc, zero, ℕ, Bool, false, true, List, [], ◌++◌, ◌∷◌, ◌≡◌, refl, ltb, length}
use Rattle.std.proofs.Common.{append_assoc, ◌∙◌, ap, sym, arith}
use Rattle.yaml_text.specs.declared.Mark.{Mark}
use Rattle.yaml_text.specs.Mark.{Place, origin}
use Rattle.yaml_text.specs.Refusal.{Read, got, refused}
use Rattle.yaml_text.specs.Decode.{decode}
use Rattle.yaml_text.specs.Test.{by_test}
use Rattle.yaml_text.specs.All.{All}
use Rattle.yaml_lexeme.specs.Token.{BlockMappingStart, BlockSequenceStart, FlowMappingEnd, FlowMappingStart, Key, Kind, StreamEnd, StreamStart, Token, empty_token}
use Rattle.yaml_lexeme.specs.Role.{Role, ends, ends_all, neither, role, starts}
use Rattle.yaml_scan.specs.declared.Candidate.{Candidate}
use Rattle.yaml_scan.specs.declared.Level.{Level}
use Rattle.yaml_scan.specs.declared.Limits.{Limits}
use Rattle.yaml_scan.specs.Indent.{Indents}
use Rattle.yaml_scan.specs.State.{Event, News, State, block_ends, empty_if, ends_with, goes_on, mark_of, preceded, put, put_before, unroll_to}
use Rattle.yaml_scan.specs.Bracket.{implicit_open}
use Rattle.yaml_scan.specs.Document.{all_ends}
use Rattle.yaml_scan.specs.Slots.{Slot, flat, note, slot, slots, tokens_of}
use Rattle.yaml_scan.specs.Scan.{begin, step, unrolled}
use Rattle.yaml_scan.specs.Budget.{on_news}
use Rattle.yaml_scan.specs.SlotLaws.{flat_append, slots_append}
use Rattle.yaml_scan.specs.Moves.{Move, Moves, begins, block_start, bracket, closes, goes_in, leaves, opens, pair_end, parts, tells, uses}
use Rattle.yaml_scan.specs.Steps.{Gapped, Takes, unrolled_state}
use Rattle.yaml_scan.proofs.Steps.{step_by}
use Rattle.yaml_stream.specs.Tale.{Close, at_end, built, in_step, tale, text_tale, told, told_of}

abbrev NotEnd : Token → Type 0
NotEnd t = t.kind ≡ StreamEnd → ⊥

abbrev NoEnd : List Token → Type 0
NoEnd [] = Unit {0}
NoEnd (t ∷ ts) = NotEnd t × NoEnd ts

-- of events, and of what waits
abbrev NoneSaid : List Event → Type 0
NoneSaid [] = Unit {0}
NoneSaid (put t ∷ es) = NotEnd t × NoneSaid es
NoneSaid (put_before k ts ∷ es) = NoEnd ts × NoneSaid es

abbrev NoneWaits : List Slot → Type 0
NoneWaits [] = Unit {0}
NoneWaits (x ∷ xs) = NoEnd x.before × NotEnd x.token × NoneWaits xs

none_append : (ts us : List Token) → NoEnd ts → NoEnd us → NoEnd (ts ++ us)
none_append [] us h k = k
none_append (t ∷ ts) us h k = (h.0, none_append ts us h.1 k)

said_append : (es fs : List Event) → NoneSaid es → NoneSaid fs → NoneSaid (es ++ fs)
said_append [] fs h k = k
said_append (put t ∷ es) fs h k = (h.0, said_append es fs h.1 k)
said_append (put_before n ts ∷ es) fs h k = (h.0, said_append es fs h.1 k)

waits_note : (n : ℕ) (ts : List Token) (xs : List Slot) → NoEnd ts → NoneWaits xs → NoneWaits (note n ts xs)
unfolding note
waits_note n ts [] h k = tt
waits_note zero ts (x ∷ xs) h k = (h, k.1, k.2)
waits_note (suc n) ts (x ∷ xs) h k = (k.0, k.1, waits_note n ts xs h k.2)

waits_one : (xs : List Slot) (t : Token) → NoneWaits xs → NotEnd t → NoneWaits (xs ++ (slot t [] ∷ []))
waits_one [] t h k = (tt, k, tt)
waits_one (x ∷ xs) t h k = (h.0, h.1, waits_one xs t h.2 k)

waits_slots : (xs : List Slot) (es : List Event) → NoneWaits xs → NoneSaid es → NoneWaits (slots xs es)
unfolding slots
waits_slots xs [] h k = h
waits_slots xs (put t ∷ es) h k = waits_slots (xs ++ (slot t [] ∷ [])) es (waits_one xs t h k.0) k.1
waits_slots xs (put_before n ts ∷ es) h k = waits_slots (note n ts xs) es (waits_note n ts xs k.0 h) k.1

none_flat : (xs : List Slot) → NoneWaits xs → NoEnd (flat xs)
unfolding flat
none_flat [] h = tt
none_flat (x ∷ xs) h = none_append x.before (x.token ∷ flat xs) h.0 (h.1, none_flat xs h.2)

-- a step

by_role : (t : Token) (r : Role) → role t.kind ≡ r → (ends_all ≡ r → ⊥) → NotEnd t
unfolding role
by_role t r e f k = f (sym (ap role k) ∙ e)

neither_ends : (t : Token) → role t.kind ≡ neither → NotEnd t
neither_ends t e = by_role t neither e (λ f. let z : ◌≡◌ {A = ℕ} 0 1 = cc in omega arith)

blocks_said : (n : ℕ) (m : Mark) → NoneSaid (block_ends n m)
blocks_said zero m = tt
blocks_said (suc n) m = ((λ e. let z : ◌≡◌ {A = ℕ} 0 1 = cc in omega arith), blocks_said n m)

if_said : (b : Bool) (k : Kind) (m : Mark) → (k ≡ StreamEnd → ⊥) → NoneSaid (empty_if b k m)
if_said true k m f = (f, tt)
if_said false k m f = tt

pair_said : (m : Mark) (s : State) → NoneSaid (pair_end m s)
pair_said m s = if_said (implicit_open s.levels) FlowMappingEnd m (λ e. let z : ◌≡◌ {A = ℕ} 0 1 = cc in omega arith)

start_said : (b sequence : Bool) (m : Mark) → NoneSaid (empty_if b (block_start sequence) m)
start_said b true m = if_said b BlockSequenceStart m (λ e. let z : ◌≡◌ {A = ℕ} 0 1 = cc in omega arith)
start_said b false m = if_said b BlockMappingStart m (λ e. let z : ◌≡◌ {A = ℕ} 0 1 = cc in omega arith)

pair_none : (m : Mark) → NotEnd (empty_token FlowMappingStart m)
pair_none m e = let z : ◌≡◌ {A = ℕ} 0 1 = cc in omega arith

block_none : (m : Mark) → NotEnd (empty_token BlockMappingStart m)
block_none m e = let z : ◌≡◌ {A = ℕ} 0 1 = cc in omega arith

key_none : (m : Mark) → NotEnd (empty_token Key m)
key_none m e = let z : ◌≡◌ {A = ℕ} 0 1 = cc in omega arith

goes_in_none : (pair block : Bool) (m : Mark) → NoEnd (goes_in pair block m)
goes_in_none true true m = (pair_none m, (block_none m, (key_none m, tt)))
goes_in_none true false m = (pair_none m, (key_none m, tt))
goes_in_none false true m = (block_none m, (key_none m, tt))
goes_in_none false false m = (key_none m, tt)

move_said : (s : State) {t : Token} {q : Place} {es : List Event} {i : Indents} {ks : List Candidate} {ls : List Level} → Move s t q es i ks ls → NoneSaid es
move_said s {t} (tells e same) = (neither_ends t e, tt)
move_said s {t} (leaves e f) = said_append (all_ends s) (put t ∷ []) (blocks_said (unroll_to 0 s).ended (mark_of s)) (neither_ends t e, tt)
move_said s {t} (opens sequence e same) = (by_role t (starts (bracket sequence)) e (λ f. let z : ◌≡◌ {A = ℕ} 0 1 = cc in omega arith), tt)
move_said s {t} (closes sequence m e c) =
    said_append (pair_end m s) (put t ∷ []) (pair_said m s) (by_role t (ends (bracket sequence)) e (λ f. let z : ◌≡◌ {A = ℕ} 0 1 = cc in omega arith), tt)
move_said s {t} (parts m e) = said_append (pair_end m s) (put t ∷ []) (pair_said m s) (neither_ends t e, tt)
move_said s {t} (begins {pair = p} {r = r} sequence m e k) =
    let fs = empty_if p FlowMappingStart m in
    let gs = empty_if r.starts (block_start sequence) m in
    let h = if_said p FlowMappingStart m (λ f. let z : ◌≡◌ {A = ℕ} 0 1 = cc in omega arith) in
    said_append (fs ++ gs) (put t ∷ []) (said_append fs gs h (start_said r.starts sequence m)) (neither_ends t e, tt)
move_said s {t} (uses {pair = p} {m = m} {r = r} e k c) = (goes_in_none p r.starts m, (neither_ends t e, tt))

abbrev Lasts : News → Type 0
Lasts (goes_on es t) = NoneSaid es
Lasts (ends_with es) = (fs : List Event) × (m : Mark) × (es ≡ fs ++ (put (empty_token StreamEnd m) ∷ [])) × NoneSaid fs

step_lasts : (limits : Limits) (s : State) → All News Lasts (step limits s)
step_lasts limits s = step_by limits s by_news
  where
    by_news : (t : State) → Gapped s t → (w : News) → Moves (unrolled_state t) w → Takes (unrolled_state t) w
        → Lasts (preceded (block_ends (unrolled t).ended (mark_of t)) w)
    by_news t g (goes_on es u) m k =
        said_append (block_ends (unrolled t).ended (mark_of t)) es (blocks_said (unrolled t).ended (mark_of t)) (move_said (unrolled_state t) m.2)
    by_news t g (ends_with es) m k =
        let bs = block_ends (unrolled t).ended (mark_of t) in
        let cs = block_ends (unroll_to 0 (unrolled_state t)).ended m.0 in
        let e = put (empty_token StreamEnd m.0) ∷ [] in (
          bs ++ cs,
          m.0,
          ap (λ (fs : List Event). bs ++ fs) m.2 ∙ sym (append_assoc bs cs e),
          said_append bs cs (blocks_said (unrolled t).ended (mark_of t)) (blocks_said (unroll_to 0 (unrolled_state t)).ended m.0),
        )

-- a list

-- wherever StreamEnd stands in it, the run came to the end, and nothing is behind it
abbrev pub LastOnly : Close → List Token → Type 0
LastOnly c ts = (us vs : List Token) (z : Token) → ts ≡ us ++ (z ∷ vs) → z.kind ≡ StreamEnd → (c ≡ at_end) × (vs ≡ [])

not_there : (ts us vs : List Token) (z : Token) → NoEnd ts → ts ≡ us ++ (z ∷ vs) → z.kind ≡ StreamEnd → ⊥
not_there [] [] vs z h e k = let y : ◌≡◌ {A = ℕ} 0 1 = cc in omega arith
not_there [] (u ∷ us) vs z h e k = let y : ◌≡◌ {A = ℕ} 0 1 = cc in omega arith
not_there (t ∷ ts) [] vs z h e k = let f : t ≡ z = cc in h.0 (rw f k)
not_there (t ∷ ts) (u ∷ us) vs z h e k = let f : ts ≡ us ++ (z ∷ vs) = cc in not_there ts us vs z h.1 f k

none_last : (c : Close) (ts : List Token) → NoEnd ts → LastOnly c ts
none_last c ts h us vs z e k = absurd (not_there ts us vs z h e k)

one_last : (ts us vs : List Token) (x z : Token) → NoEnd ts → ts ++ (x ∷ []) ≡ us ++ (z ∷ vs) → z.kind ≡ StreamEnd → vs ≡ []
one_last [] [] vs x z h e k = cc
one_last [] (u ∷ []) vs x z h e k = let y : ◌≡◌ {A = ℕ} 0 1 = cc in absurd (omega arith)
one_last [] (u ∷ w ∷ us) vs x z h e k = let y : ◌≡◌ {A = ℕ} 0 1 = cc in absurd (omega arith)
one_last (t ∷ ts) [] vs x z h e k = let f : t ≡ z = cc in absurd (h.0 (rw f k))
one_last (t ∷ ts) (u ∷ us) vs x z h e k = let f : ts ++ (x ∷ []) ≡ us ++ (z ∷ vs) = cc in one_last ts us vs x z h.1 f k

-- a run

tale_last : (limits : Limits) (k : ℕ) (s : State) (xs : List Slot) → NoneWaits xs → LastOnly (tale limits k s).close (flat (slots xs (tale limits k s).events))
unfolding tale slots flat
tale_last limits zero s xs h = none_last _ (flat xs) (none_flat xs h)
tale_last limits (suc k) s xs h =
    on_news (λ r. let t = in_step r (λ u. tale limits k u) in LastOnly t.close (flat (slots xs t.events))) (step_lasts limits s)
    (λ es t i. rw (slots_append xs es (tale limits k t).events) (tale_last limits k t (slots xs es) (waits_slots xs es h i)))
    (λ es i. ends_last es i.0 i.1 i.2 i.3) (λ _ _. none_last _ (flat xs) (none_flat xs h))
  where
    ends_last : (es fs : List Event) (m : Mark) → es ≡ fs ++ (put (empty_token StreamEnd m) ∷ []) → NoneSaid fs → LastOnly at_end (flat (slots xs es))
    ends_last es fs m e i us vs z f j =
        let x = empty_token StreamEnd m in
        let g : flat (slots xs es) ≡ flat (slots xs fs) ++ (x ∷ []) =
        ap (λ (gs : List Event). flat (slots xs gs)) e ∙ ap flat (slots_append xs fs (put x ∷ [])) ∙ flat_append (slots xs fs) (slot x [] ∷ []) in
        (refl, one_last (flat (slots xs fs)) us vs x z (none_flat (slots xs fs) (waits_slots xs fs h i)) (sym g ∙ f) j)

text_last : (limits : Limits) (cs : List ℕ) → let t = text_tale limits cs in LastOnly t.close (tokens_of t.events)
unfolding slots
text_last limits cs =
    tale_last limits (suc (length cs)) (begin cs) (slot (empty_token StreamStart origin) [] ∷ []) (tt, (λ e. let z : ◌≡◌ {A = ℕ} 0 1 = cc in omega arith), tt)

told_last : (limits : Limits) (r : Read (List ℕ)) → LastOnly (told_of limits r).close (tokens_of (told_of limits r).events)
unfolding slots flat
told_last limits (got cs) = text_last limits cs
told_last limits (refused n m) = none_last _ [] tt

nothing_last : (c : Close) → LastOnly c (tokens_of [])
unfolding slots flat
nothing_last c = none_last c [] tt

pub built_last : (limits : Limits) (bytes : List ℕ) → LastOnly (told limits bytes).close (built limits bytes)
unfolding told
built_last limits bytes =
    by_test (ltb limits.bytes (length bytes)) (λ e. rw (e, told) (nothing_last _)) (λ e. rw (e, told) (told_last limits (decode 0 origin bytes)))
