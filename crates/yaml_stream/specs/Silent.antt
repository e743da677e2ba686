-- What `brings` leaves out has no text: StreamEnd with the ends of blocks before it, and what goes in before a token. So it counts the texts of the list, all of them.
use Rattle.std.specs.Prelude.{suc, zero, ℕ, Bool, false, true, List, [], ◌++◌, ◌∷◌, ◌≡◌, refl, ltb, length}
use Rattle.std.proofs.Common.{◌∙◌, arith, length-append}
use Rattle.yaml_text.specs.declared.Mark.{Mark}
use Rattle.yaml_text.specs.Mark.{Place, origin}
use Rattle.yaml_text.specs.Refusal.{Read, got, refused}
use Rattle.yaml_text.specs.Decode.{decode}
use Rattle.yaml_text.specs.Test.{by_test}
use Rattle.yaml_text.specs.All.{All}
use Rattle.yaml_lexeme.specs.Token.{FlowMappingEnd, FlowMappingStart, StreamEnd, Token, empty_token, kind_bytes, texts, token_bytes}
use Rattle.yaml_scan.specs.declared.Candidate.{Candidate}
use Rattle.yaml_scan.specs.declared.Level.{Level}
use Rattle.yaml_scan.specs.declared.Limits.{Limits}
use Rattle.yaml_scan.specs.Indent.{Indents}
use Rattle.yaml_scan.specs.State.{Event, News, State, block_ends, empty_if, ends_with, goes_on, mark_of, preceded, put, put_before, unroll_to}
use Rattle.yaml_scan.specs.Bracket.{implicit_open}
use Rattle.yaml_scan.specs.Document.{all_ends}
use Rattle.yaml_scan.specs.Scan.{begin, step, unrolled}
use Rattle.yaml_scan.specs.Slots.{Slot, flat, note, slot, slots, tokens_of}
use Rattle.yaml_scan.specs.Candidates.{OnlyPuts, only_append, only_ends, only_if, only_one}
use Rattle.yaml_scan.specs.Budget.{on_news}
use Rattle.yaml_scan.specs.Moves.{Move, Moves, begins, block_start, closes, goes_in, leaves, opens, pair_end, parts, tells, uses}
use Rattle.yaml_scan.specs.Steps.{Gapped, Takes, unrolled_state}
use Rattle.yaml_scan.proofs.Steps.{step_by}
use Rattle.yaml_stream.specs.Stream.{brings}
use Rattle.yaml_stream.specs.Tale.{built, in_step, tale, told, told_of}
use Rattle.yaml_stream.specs.Sizes.{brings_append, core, core_slots, texts_append}

-- what goes in before tokens has no text
unfoldable pub Bare : List Event → Type 0
Bare [] = Unit {0}
Bare (put t ∷ es) = Bare es
Bare (put_before n ts ∷ es) = (texts ts ≡ []) × Bare es

bare_append : (es fs : List Event) → Bare es → Bare fs → Bare (es ++ fs)
unfolding Bare
bare_append [] fs h k = k
bare_append (put t ∷ es) fs h k = bare_append es fs h k
bare_append (put_before n ts ∷ es) fs h k = (h.0, bare_append es fs h.1 k)

only_bare : (es : List Event) → OnlyPuts es → Bare es
unfolding Bare OnlyPuts
only_bare [] h = tt
only_bare (put t ∷ es) h = only_bare es h
only_bare (put_before n ts ∷ es) h = absurd h

then_bare : (es : List Event) (t : Token) → OnlyPuts es → Bare (es ++ (put t ∷ []))
then_bare es t h = only_bare (es ++ (put t ∷ [])) (only_append es (put t ∷ []) h (only_one t))

goes_in_bare : (pair block : Bool) (m : Mark) → texts (goes_in pair block m) ≡ []
unfolding texts kind_bytes
goes_in_bare true true m = refl
goes_in_bare true false m = refl
goes_in_bare false true m = refl
goes_in_bare false false m = refl

move_bare : (s : State) {t : Token} {q : Place} {es : List Event} {i : Indents} {ks : List Candidate} {ls : List Level} → Move s t q es i ks ls → Bare es
unfolding Bare
move_bare s (tells e same) = tt
move_bare s {t} (leaves e f) = then_bare (all_ends s) t (only_ends (unroll_to 0 s).ended (mark_of s))
move_bare s (opens sequence e same) = tt
move_bare s {t} (closes sequence m e c) = then_bare (pair_end m s) t (only_if (implicit_open s.levels) FlowMappingEnd m)
move_bare s {t} (parts m e) = then_bare (pair_end m s) t (only_if (implicit_open s.levels) FlowMappingEnd m)
move_bare s {t} (begins {pair = p} {r = r} sequence m e k) =
    let fs = empty_if p FlowMappingStart m in
    let gs = empty_if r.starts (block_start sequence) m in
    then_bare (fs ++ gs) t (only_append fs gs (only_if p FlowMappingStart m) (only_if r.starts (block_start sequence) m))
move_bare s (uses {pair = p} {m = m} {r = r} e b c) = (goes_in_bare p r.starts m, tt)

-- the ends of blocks and StreamEnd
ends_bring : (n : ℕ) (m : Mark) → brings (block_ends n m) ≡ 0
unfolding brings kind_bytes
ends_bring zero m = refl
ends_bring (suc n) m = omega (arith, ends_bring n m)

end_brings : (n : ℕ) (m : Mark) → brings (block_ends n m ++ (put (empty_token StreamEnd m) ∷ [])) ≡ 0
unfolding brings kind_bytes
end_brings n m = omega (arith, brings_append (block_ends n m) (put (empty_token StreamEnd m) ∷ []), ends_bring n m)

abbrev pub Silent : News → Type 0
Silent (goes_on es t) = Bare es
Silent (ends_with es) = Bare es × (brings es ≡ 0)

pub step_silent : (limits : Limits) (s : State) → All News Silent (step limits s)
step_silent limits s = step_by limits s by_news
  where
    by_news : (t : State) → Gapped s t → (w : News) → Moves (unrolled_state t) w → Takes (unrolled_state t) w → Silent (preceded (block_ends (unrolled t).ended (mark_of t)) w)
    by_news t g (goes_on es u) m k =
        bare_append (block_ends (unrolled t).ended (mark_of t)) es (only_bare _ (only_ends (unrolled t).ended (mark_of t))) (move_bare (unrolled_state t) m.2)
    by_news t g (ends_with es) m k =
        let bs = block_ends (unrolled t).ended (mark_of t) in
        let n = (unroll_to 0 (unrolled_state t)).ended in
        let e = empty_token StreamEnd m.0 in (
          bare_append bs es (only_bare bs (only_ends (unrolled t).ended (mark_of t))) (rw m.2 (then_bare (block_ends n m.0) e (only_ends n m.0))),
          brings_append bs es ∙ rw (ends_bring (unrolled t).ended (mark_of t), m.2, end_brings n m.0),
        )

-- so the events bring the texts of their list, no more and no less

abbrev BareSlots : List Slot → Type 0
BareSlots [] = Unit {0}
BareSlots (x ∷ xs) = (texts x.before ≡ []) × BareSlots xs

slots_more : (xs : List Slot) (t : Token) → BareSlots xs → BareSlots (xs ++ (slot t [] ∷ []))
unfolding texts
slots_more [] t h = (refl, tt)
slots_more (x ∷ xs) t h = (h.0, slots_more xs t h.1)

slots_noted : (n : ℕ) (ts : List Token) (xs : List Slot) → texts ts ≡ [] → BareSlots xs → BareSlots (note n ts xs)
unfolding note
slots_noted n ts [] e h = tt
slots_noted zero ts (x ∷ xs) e h = (e, h.1)
slots_noted (suc n) ts (x ∷ xs) e h = (h.0, slots_noted n ts xs e h.1)

bare_slots : (xs : List Slot) (es : List Event) → Bare es → BareSlots xs → BareSlots (slots xs es)
unfolding slots Bare
bare_slots xs [] b h = h
bare_slots xs (put t ∷ es) b h = bare_slots (xs ++ (slot t [] ∷ [])) es b (slots_more xs t h)
bare_slots xs (put_before n ts ∷ es) b h = bare_slots (note n ts xs) es b.1 (slots_noted n ts xs b.0 h)

slots_texts : (xs : List Slot) → BareSlots xs → length (texts (flat xs)) ≡ core xs
unfolding core flat texts
slots_texts [] h = refl
slots_texts (x ∷ xs) h =
    rw (texts_append x.before (x.token ∷ flat xs), h.0) (omega (arith, length-append (token_bytes x.token) (texts (flat xs)), slots_texts xs h.1))

pub bare_texts : (es : List Event) → Bare es → length (texts (tokens_of es)) ≡ brings es
unfolding core
bare_texts es b = omega (arith, slots_texts (slots [] es) (bare_slots [] es b tt), core_slots [] es)

tale_bare : (limits : Limits) (k : ℕ) (s : State) → Bare (tale limits k s).events
unfolding tale Bare
tale_bare limits zero s = tt
tale_bare limits (suc k) s =
    on_news (λ r. Bare (in_step r (λ t. tale limits k t)).events) (step_silent limits s)
    (λ es t h. bare_append es (tale limits k t).events h (tale_bare limits k t)) (λ es h. h.0) (λ _ _. tt)

told_bare : (limits : Limits) (r : Read (List ℕ)) → Bare (told_of limits r).events
unfolding Bare
told_bare limits (got cs) = tale_bare limits (suc (length cs)) (begin cs)
told_bare limits (refused n m) = tt

-- D of the list that the rules have built
pub built_texts : (limits : Limits) (bytes : List ℕ) → length (texts (built limits bytes)) ≡ brings (told limits bytes).events
unfolding told Bare
built_texts limits bytes = bare_texts (told limits bytes).events all_bare
  where
    all_bare : Bare (told limits bytes).events
    all_bare = by_test (ltb limits.bytes (length bytes)) (λ e. rw (e, told) tt) (λ e. rw (e, told) (told_bare limits (decode 0 origin bytes)))
