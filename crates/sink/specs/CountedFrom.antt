-- Tokens counted from another number on, as in words whose slot 0 is that of a later token: only where notes go changes.
use Rattle.std.specs.Prelude.{◌+◌, ◌-◌, suc, zero, ℕ, List, [], ◌++◌, ◌∷◌, map, ◌≡◌, refl, length}
use Rattle.std.proofs.lemmas.List.{map-append}
use Rattle.std.proofs.Common.{◌∙◌, ap, sym, arith}
use Rattle.yaml_text.specs.declared.Mark.{Mark}
use Rattle.yaml_lexeme.specs.Token.{token_bytes}
use Rattle.yaml_scan.specs.State.{Event, block_ends, put, put_before, puts}
use Rattle.yaml_scan.specs.SlotLaws.{total}
use Rattle.yaml_stream.specs.Stream.{counted_from}
use Rattle.yaml_stream.specs.Waits.{counted_puts}
use Rattle.events.specs.declared.Event as code
use Rattle.events.specs.declared.Note.{Note}
use Rattle.events.specs.declared.Note.TheVariants as note
use Rattle.events.specs.declared.Opening.{Opening}
use Rattle.events.specs.declared.Opening.TheVariants as opening
use Rattle.events.specs.Event.{LaidEvent, ends_of, event_texts, laid_events, laid_of, noted_of, opened_of}
use Rattle.events.specs.Event as event
use Rattle.sink.specs.EventsStored.{store_events, store_events_append}
use Rattle.sink.specs.StepTokens.{note_from, shifted}

-- the definition's events

pub counted_texts : (base : ℕ) (es : List Event) → event_texts (map (counted_from base) es) ≡ event_texts es
unfolding event_texts
counted_texts base [] = refl
counted_texts base (put t ∷ es) = ap (λ (bs : List ℕ). token_bytes t ++ bs) (counted_texts base es)
counted_texts base (put_before k ts ∷ es) = counted_texts base es

pub counted_total : (base : ℕ) (es : List Event) → total (map (counted_from base) es) ≡ total es
unfolding total
counted_total base [] = refl
counted_total base (put t ∷ es) = ap suc (counted_total base es)
counted_total base (put_before k ts ∷ es) = ap (λ (n : ℕ). length ts + n) (counted_total base es)

-- from the first token on, they are the same
pub counted_all : (es : List Event) → map (counted_from 0) es ≡ es
counted_all [] = refl
counted_all (put t ∷ es) = ap (λ (fs : List Event). put t ∷ fs) (counted_all es)
counted_all (put_before k ts ∷ es) = let e : k - 0 ≡ k = omega arith in rw (e, counted_all es)

pub counted_append : (base : ℕ) (es fs : List Event) (l : List ℕ) (n used : ℕ)
    → store_events l n used (map (counted_from base) (es ++ fs))
    ≡ store_events (store_events l n used (map (counted_from base) es)) (n + puts es) (used + length (event_texts es)) (map (counted_from base) fs)
counted_append base es fs l n used =
    let xs = map (counted_from base) es in
    ap (store_events l n used) (map-append (counted_from base) es fs)
    ∙ store_events_append xs (map (counted_from base) fs) l n used
    ∙ rw (counted_puts base es, counted_texts base es)

-- an event of the code that stands for them

abbrev laid_from : ℕ → LaidEvent → LaidEvent
laid_from base (event.put t) = event.put t
laid_from base (event.put_before k ts) = event.put_before (k - base) ts

laid_counted : (base used : ℕ) (es : List Event) → map (laid_from base) (laid_events used es) ≡ laid_events used (map (counted_from base) es)
unfolding laid_events
laid_counted base used [] = refl
laid_counted base used (put t ∷ es) = rw (laid_counted base (used + length (token_bytes t)) es)
laid_counted base used (put_before k ts ∷ es) = rw (laid_counted base used es)

ends_from : (base k : ℕ) (m : Mark) (hs : List LaidEvent) → map (laid_from base) (ends_of k m ++ hs) ≡ ends_of k m ++ map (laid_from base) hs
ends_from base zero m hs = refl
ends_from base (suc k) m hs = rw (ends_from base k m hs)

opened_from : (base : ℕ) (o : Opening) (m : Mark) (hs : List LaidEvent) → map (laid_from base) (opened_of m o ++ hs) ≡ opened_of m o ++ map (laid_from base) hs
unfolding opened_of
opened_from base opening.Nothing m hs = refl
opened_from base opening.BlockSequenceStart m hs = refl
opened_from base opening.BlockMappingStart m hs = refl
opened_from base opening.FlowMappingStart m hs = refl
opened_from base opening.FlowMappingEnd m hs = refl

noted_from : (base : ℕ) (o : Note) (m : Mark) (hs : List LaidEvent) → map (laid_from base) (noted_of m o ++ hs) ≡ noted_of m (note_from base o) ++ map (laid_from base) hs
unfolding noted_of
noted_from base note.Nothing m hs = refl
noted_from base (note.Key k) m hs = refl
noted_from base (note.Pair k) m hs = refl
noted_from base (note.Block k) m hs = refl

pub shifted_laid : (base : ℕ) (m : Mark) (e : code.Event) (used : ℕ) (es : List Event) → laid_of m e ≡ laid_events used es
    → laid_of m (shifted base e) ≡ laid_events used (map (counted_from base) es)
unfolding laid_of
shifted_laid base m e used es h =
    let start = e.token.start in
    let last = event.put e.token ∷ [] in
    let opened = opened_of start e.opening ++ last in
    sym (noted_from base e.note m (ends_of e.closed start ++ opened) ∙ rw (ends_from base e.closed start opened, opened_from base e.opening start last))
    ∙ ap (map (laid_from base)) h
    ∙ laid_counted base used es

pub counted_ends : (base k : ℕ) (m : Mark) (es : List Event) → map (counted_from base) (block_ends k m ++ es) ≡ block_ends k m ++ map (counted_from base) es
counted_ends base zero m es = refl
counted_ends base (suc k) m es = rw (counted_ends base k m es)
