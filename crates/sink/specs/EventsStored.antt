-- The events of the definition, stored in the words: they hold its slots.
use Rattle.std.specs.Prelude.{◌*◌, ◌+◌, ◌<◌, ◌≤◌, suc, zero, ℕ, List, [], ◌++◌, ◌∷◌, map, ◌≡◌, refl, length}
use Rattle.std.proofs.Common.{append_assoc, append-nil, ◌∙◌, ap, sym, arith, length-append}
use Rattle.yaml_text.specs.declared.Mark.{Mark}
use Rattle.yaml_lexeme.specs.Token.{Kind, Token, empty_token, token_bytes}
use Rattle.yaml_lexeme.specs.Record.{record_of, record_words}
use Rattle.yaml_scan.specs.State.{Event, put, put_before, puts}
use Rattle.yaml_scan.specs.Candidates.{EmptyAt, Free, GivenToken, Placed, fresh, note_at}
use Rattle.yaml_scan.specs.Slots.{Slot, note, slot, slots}
use Rattle.yaml_scan.specs.SlotLaws.{SlotsHold, holds_more, holds_noted, note_length, slots_length}
use Rattle.events.specs.Event as event
use Rattle.events.specs.Event.{LaidEvent, event_texts, laid_events}
use Rattle.events.specs.Laid.{laid_append}
use Rattle.events.specs.Weighed.{laid_puts, laid_sum, one}
use Rattle.sink.specs.Store.{put_note, put_record}
use Rattle.sink.specs.Settle.{note_kinds}
use Rattle.sink.specs.SlotsSettled.{AllNoted, NoTexts, note_no_text}
use Rattle.sink.specs.SlotWords.{laid_tokens, length_more, note_number, note_of, slot_texts, slots_note, slots_put, used_by, with_slots}

-- the words after these events, n tokens having come before: a token goes into the next slot, and what goes in before another is noted there
unfoldable pub store_laid : List ℕ → ℕ → List LaidEvent → List ℕ
store_laid l n [] = l
store_laid l n (event.put t ∷ hs) = store_laid (put_record l n (record_of t)) (suc n) hs
store_laid l n (event.put_before k ts ∷ hs) = store_laid (put_note l k (note_number ts)) n hs

-- the definition's, so many bytes of text having come before
abbrev pub store_events : List ℕ → ℕ → ℕ → List Event → List ℕ
store_events l n used es = store_laid l n (laid_events used es)

-- what goes in before a token is of a note's kinds
abbrev pub kinds : List Token → List Kind
kinds ts = map (λ (t : Token). t.kind) ts

unfoldable pub Notes : List Event → Type 0
Notes [] = Unit {0}
Notes (put t ∷ es) = Notes es
Notes (put_before k ts ∷ es) = (kinds ts ≡ note_kinds (note_of ts)) × Notes es

-- events in a row

pub store_laid_append : (hs gs : List LaidEvent) (l : List ℕ) (n : ℕ) → store_laid l n (hs ++ gs) ≡ store_laid (store_laid l n hs) (n + laid_sum one hs) gs
unfolding store_laid laid_sum
store_laid_append [] gs l n = let e : n + 0 ≡ n = omega arith in rw e
store_laid_append (event.put t ∷ hs) gs l n =
    let e : n + (1 + laid_sum one hs) ≡ suc n + laid_sum one hs = omega arith in
    rw e (store_laid_append hs gs (put_record l n (record_of t)) (suc n))
store_laid_append (event.put_before k ts ∷ hs) gs l n = store_laid_append hs gs (put_note l k (note_number ts)) n

pub store_events_append : (es fs : List Event) (l : List ℕ) (n used : ℕ)
    → store_events l n used (es ++ fs) ≡ store_events (store_events l n used es) (n + puts es) (used + length (event_texts es)) fs
store_events_append es fs l n used =
    ap (store_laid l n) (laid_append used es fs) ∙ store_laid_append (laid_events used es) _ l n ∙ rw (laid_puts used es)

pub notes_append : (es fs : List Event) → Notes es → Notes fs → Notes (es ++ fs)
unfolding Notes
notes_append [] fs h g = g
notes_append (put t ∷ es) fs h g = notes_append es fs h g
notes_append (put_before k ts ∷ es) fs h g = (h.0, notes_append es fs h.1 g)

-- each slot's note can be read off its record

noted_put : (xs : List Slot) (t : Token) → AllNoted xs → AllNoted (xs ++ (slot t [] ∷ []))
unfolding AllNoted note_number note_kinds
noted_put [] t h = (refl, tt)
noted_put (x ∷ xs) t h = (h.0, noted_put xs t h.1)

by_kinds : (m : Mark) (ts : List Token) → EmptyAt m ts → ts ≡ map (λ (k : Kind). empty_token k m) (kinds ts)
by_kinds m [] h = refl
by_kinds m (t ∷ ts) h = rw (sym (by_kinds m ts h.1)) (ap (λ (u : Token). u ∷ ts) h.0)

noted_note : (gs : List GivenToken) (xs : List Slot) (n : ℕ) (m : Mark) (ts : List Token) → SlotsHold gs xs → Free gs n m → EmptyAt m ts → kinds ts ≡ note_kinds (note_of ts)
    → AllNoted xs → AllNoted (note n ts xs)
unfolding AllNoted note
noted_note gs [] n m ts h f e k r = tt
noted_note [] (x ∷ xs) n m ts h f e k r = absurd h
noted_note (g ∷ gs) (x ∷ xs) zero m ts h f e k r =
    let s : x.token.start ≡ m = h.0 ∙ ap (λ (g' : GivenToken). g'.start) f.1 in
    (rw s (by_kinds m ts e ∙ ap (λ (ks : List Kind). map (λ (kind : Kind). empty_token kind m) ks) k), r.1)
noted_note (g ∷ gs) (x ∷ xs) (suc n) m ts h f e k r = (r.0, noted_note gs xs n m ts h.2 (omega (arith, f.0), f.1) e k r.1)

pub slots_noted : (es : List Event) (gs : List GivenToken) (xs : List Slot) → SlotsHold gs xs → Placed gs es → Notes es → AllNoted xs → AllNoted (slots xs es)
unfolding Placed Notes slots
slots_noted [] gs xs h p k r = r
slots_noted (put t ∷ es) gs xs h p k r = slots_noted es (gs ++ (fresh t.start ∷ [])) (xs ++ (slot t [] ∷ [])) (holds_more gs xs t h) p k (noted_put xs t r)
slots_noted (put_before n ts ∷ es) gs xs h p k r =
    slots_noted es (note_at n gs) (note n ts xs) (holds_noted gs xs n ts h) p.3 k.1 (noted_note gs xs n p.0 ts h p.1 p.2 k.0 r)

-- the texts of the slots are those of the events

texts_put : (xs : List Slot) (t : Token) → slot_texts (xs ++ (slot t [] ∷ [])) ≡ slot_texts xs ++ token_bytes t
unfolding slot_texts
texts_put [] t = append-nil (token_bytes t)
texts_put (x ∷ xs) t = rw (texts_put xs t) (sym (append_assoc (token_bytes x.token) (slot_texts xs) (token_bytes t)))

texts_note : (n : ℕ) (ts : List Token) (xs : List Slot) → slot_texts (note n ts xs) ≡ slot_texts xs
unfolding note slot_texts
texts_note n ts [] = refl
texts_note zero ts (x ∷ xs) = refl
texts_note (suc n) ts (x ∷ xs) = rw (texts_note n ts xs)

pub stored_texts : (es : List Event) (xs : List Slot) → slot_texts (slots xs es) ≡ slot_texts xs ++ event_texts es
unfolding slots event_texts
stored_texts [] xs = sym (append-nil (slot_texts xs))
stored_texts (put t ∷ es) xs =
    stored_texts es (xs ++ (slot t [] ∷ [])) ∙ rw (texts_put xs t) (append_assoc (slot_texts xs) (token_bytes t) (event_texts es))
stored_texts (put_before n ts ∷ es) xs = stored_texts es (note n ts xs) ∙ rw (texts_note n ts xs)

-- the words hold the slots

holds_length : (gs : List GivenToken) (xs : List Slot) → SlotsHold gs xs → length gs ≡ length xs
holds_length [] [] h = refl
holds_length [] (x ∷ xs) h = absurd h
holds_length (g ∷ gs) [] h = absurd h
holds_length (g ∷ gs) (x ∷ xs) h = ap suc (holds_length gs xs h.2)

-- a note is the same wherever the texts lie
same_tokens : (used : ℕ) (ts : List Token) → NoTexts (kinds ts) → laid_tokens used ts ≡ laid_tokens 0 ts
unfolding NoTexts
same_tokens used [] h = refl
same_tokens used (t ∷ ts) h = rw (h.0.same used, same_tokens used ts h.1)

same_note : (used : ℕ) (ts : List Token) → kinds ts ≡ note_kinds (note_of ts) → note_number (laid_tokens used ts) ≡ note_of ts
same_note used ts e = ap note_number (same_tokens used ts (rw e (note_no_text (note_of ts))))

same_store : (es : List Event) {l l' : List ℕ} {n n' used used' : ℕ} → l ≡ l' → n ≡ n' → used ≡ used' → store_events l n used es ≡ store_events l' n' used' es
same_store es e f g = rw (e, f, g)

-- so many bytes of text having come before the slots
pub events_stored : (used : ℕ) (es : List Event) (gs : List GivenToken) (xs : List Slot) (l : List ℕ) → SlotsHold gs xs → Placed gs es → Notes es
    → length (slots xs es) * record_words ≤ length l → store_events (with_slots used xs l) (length xs) (used + used_by xs) es ≡ with_slots used (slots xs es) l
unfolding Placed Notes slots store_laid laid_events
events_stored used [] gs xs l h p k r = refl
events_stored used (put t ∷ es) gs xs l h p k r =
    let ys = xs ++ (slot t [] ∷ []) in
    let e = slots_length ys es in
    let f = length_more xs (slot t []) in
    let g : suc (length xs) * record_words ≤ length l = omega arith in
    let u : used + used_by xs + length (token_bytes t) ≡ used + used_by ys = omega (arith, ap length (texts_put xs t), length-append (slot_texts xs) (token_bytes t)) in
    same_store es (slots_put used xs t l g) (sym f) u ∙ events_stored used es (gs ++ (fresh t.start ∷ [])) ys l (holds_more gs xs t h) p k r
events_stored used (put_before n ts ∷ es) gs xs l h p k r =
    let ys = note n ts xs in
    let e = slots_length ys es in
    let f = note_length n ts xs in
    let g : length xs * record_words ≤ length l = omega arith in
    let i : n < length xs = omega (arith, p.1.0, holds_length gs xs h) in
    same_store es (ap (put_note (with_slots used xs l) n) (same_note (used + used_by xs) ts k.0) ∙ slots_note n used ts xs l i g) (sym f)
    (ap (λ (b : List ℕ). used + length b) (sym (texts_note n ts xs)))
    ∙ events_stored used es (note_at n gs) ys l (holds_noted gs xs n ts h) p.3 k.1 r
