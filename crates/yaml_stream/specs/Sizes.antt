-- The list that the rules have built is no smaller than what its events bring: in bytes of text, and in tokens.
use Rattle.std.specs.Prelude.{◌+◌, ◌≤◌, suc, zero, ℕ, List, [], ◌++◌, ◌∷◌, ◌≡◌, refl, length}
use Rattle.std.proofs.Common.{append_assoc, ap, le_refl, arith, length-append}
use Rattle.yaml_text.specs.Mark.{origin}
use Rattle.yaml_text.specs.DecodeLaws.{NoNul}
use Rattle.yaml_lexeme.specs.Token.{Token, texts, token_bytes}
use Rattle.yaml_scan.specs.declared.Limits.{Limits}
use Rattle.yaml_scan.specs.State.{Event, State, put, put_before}
use Rattle.yaml_scan.specs.Scan.{begin}
use Rattle.yaml_scan.specs.Slots.{Slot, flat, note, slot, slots, tokens_of}
use Rattle.yaml_scan.specs.Candidates.{GivenToken, Placed, Sound, fresh, given, placed_append}
use Rattle.yaml_scan.proofs.Runs.{step_news}
use Rattle.yaml_scan.specs.Budget.{begin_sound, on_news}
use Rattle.yaml_scan.specs.SlotLaws.{total}
use Rattle.yaml_scan.proofs.SlotLaws.{tokens_total}
use Rattle.yaml_stream.specs.Stream.{brings}
use Rattle.yaml_stream.specs.Tale.{in_step, tale, text_tale}

-- the texts

pub brings_append : (es fs : List Event) → brings (es ++ fs) ≡ brings es + brings fs
unfolding brings
brings_append [] fs = omega arith
brings_append (put t ∷ es) fs = omega (arith, brings_append es fs)
brings_append (put_before n ts ∷ es) fs = brings_append es fs

-- the bytes of the slots' own tokens
unfoldable pub core : List Slot → ℕ
core [] = 0
core (x ∷ xs) = length (token_bytes x.token) + core xs

core_more : (xs : List Slot) (t : Token) → core (xs ++ (slot t [] ∷ [])) ≡ core xs + length (token_bytes t)
unfolding core
core_more [] t = omega arith
core_more (x ∷ xs) t = omega (arith, core_more xs t)

core_note : (n : ℕ) (ts : List Token) (xs : List Slot) → core (note n ts xs) ≡ core xs
unfolding core note
core_note n ts [] = refl
core_note zero ts (x ∷ xs) = refl
core_note (suc n) ts (x ∷ xs) = omega (arith, core_note n ts xs)

pub core_slots : (xs : List Slot) (es : List Event) → core (slots xs es) ≡ core xs + brings es
unfolding slots brings
core_slots xs [] = omega arith
core_slots xs (put t ∷ es) = omega (arith, core_slots (xs ++ (slot t [] ∷ [])) es, core_more xs t)
core_slots xs (put_before n ts ∷ es) = omega (arith, core_slots (note n ts xs) es, core_note n ts xs)

pub texts_append : (ts us : List Token) → texts (ts ++ us) ≡ texts ts ++ texts us
unfolding texts
texts_append [] us = refl
texts_append (t ∷ ts) us = rw (texts_append ts us, append_assoc)

core_texts : (xs : List Slot) → core xs ≤ length (texts (flat xs))
unfolding core flat texts
core_texts [] = le_refl _
core_texts (x ∷ xs) =
    let e = ap (λ (bs : List ℕ). length bs) (texts_append x.before (x.token ∷ flat xs)) in
    omega (arith, length-append (texts x.before) (token_bytes x.token ++ texts (flat xs)), length-append (token_bytes x.token) (texts (flat xs)), core_texts xs)

pub brings_texts : (es : List Event) → brings es ≤ length (texts (tokens_of es))
unfolding core
brings_texts es = omega (arith, core_slots [] es, core_texts (slots [] es))

-- the tokens

pub total_append : (es fs : List Event) → total (es ++ fs) ≡ total es + total fs
unfolding total
total_append [] fs = omega arith
total_append (put t ∷ es) fs = omega (arith, total_append es fs)
total_append (put_before n ts ∷ es) fs = omega (arith, total_append es fs)

tale_placed : (limits : Limits) (k : ℕ) (gs : List GivenToken) (s : State) → Sound gs s → Placed gs (tale limits k s).events
unfolding tale Placed
tale_placed limits zero gs s h = tt
tale_placed limits (suc k) gs s h =
    on_news (λ r. Placed gs (in_step r (λ t. tale limits k t)).events) (step_news gs limits s)
    (λ es t i. let j = i.sound h in placed_append gs es (tale limits k t).events j.0 (tale_placed limits k (given gs es) t j.1))
    (λ es i. i h) (λ _ _. tt)

-- each token that events say is in their list
pub text_total : (limits : Limits) (cs : List ℕ) → NoNul cs → length (tokens_of (text_tale limits cs).events) ≡ total (text_tale limits cs).events
unfolding given Placed
text_total limits cs h =
    tokens_total (text_tale limits cs).events (tale_placed limits (suc (length cs)) (fresh origin ∷ []) (begin cs) (begin_sound cs h))
