-- Storing what a step brings is storing the definition's events.
use Rattle.std.specs.Prelude.{◌+◌, suc, zero, ℕ, List, [], ◌++◌, ◌∷◌, map, ◌≡◌, refl, length}
use Rattle.std.proofs.Common.{◌∙◌, ap, sym, arith}
use Rattle.std.proofs.lemmas.List.{length-replicate}
use Rattle.yaml_text.specs.declared.Mark.{Mark}
use Rattle.yaml_lexeme.specs.declared.Kind.TheVariants as kind
use Rattle.yaml_lexeme.specs.declared.Token.{Token}
use Rattle.yaml_lexeme.specs.Record.{number_of, record_of}
use Rattle.yaml_scan.specs.State as definition
use Rattle.yaml_stream.specs.Stream.{counted_from}
use Rattle.events.specs.declared.Event.{Event}
use Rattle.events.specs.declared.Note.{Note}
use Rattle.events.specs.declared.Note.TheVariants.{Block, Key, Nothing, Pair}
use Rattle.events.specs.declared.Opening.{Opening}
use Rattle.events.specs.declared.Opening.TheVariants as opening
use Rattle.events.specs.Event.{LaidEvent, empty_of, ends_of, laid_events, laid_of, noted_of, opened_of, put}
use Rattle.events.specs.Laid.{laid_ends}
use Rattle.sink.specs.StepTokens.{end_tokens, event_tokens, noted_words, opening_tokens, put_news, shifted}
use Rattle.sink.specs.Store.{put_list, put_list_append, put_record}
use Rattle.sink.specs.SlotWords.{note_number}
use Rattle.sink.specs.EventsStored.{store_events, store_laid}
use Rattle.sink.specs.CountedFrom.{counted_ends, shifted_laid}

-- tokens in a row

store_puts : (ts : List Token) (l : List ℕ) (n : ℕ) (hs : List LaidEvent) → store_laid l n (map put ts ++ hs) ≡ store_laid (put_list l n ts) (n + length ts) hs
unfolding store_laid put_list
store_puts [] l n hs = let e : n + 0 ≡ n = omega arith in rw e
store_puts (t ∷ ts) l n hs =
    let e : n + suc (length ts) ≡ suc n + length ts = omega arith in
    store_puts ts (put_record l n (record_of t)) (suc n) hs ∙ rw e

ends_put : (k : ℕ) (m : Mark) (hs : List LaidEvent) → ends_of k m ++ hs ≡ map put (end_tokens k m) ++ hs
ends_put zero m hs = refl
ends_put (suc k) m hs = ap (λ (gs : List LaidEvent). put (empty_of kind.BlockEnd m) ∷ gs) (ends_put k m hs)

store_ends : (k : ℕ) (m : Mark) (l : List ℕ) (n : ℕ) (hs : List LaidEvent) → store_laid l n (ends_of k m ++ hs) ≡ store_laid (put_list l n (end_tokens k m)) (n + k) hs
store_ends k m l n hs = rw (ends_put k m hs) (store_puts (end_tokens k m) l n hs ∙ rw (length-replicate k (empty_of kind.BlockEnd m)))

store_opened : (o : Opening) (m : Mark) (t : Token) (l : List ℕ) (n : ℕ) → store_laid l n (opened_of m o ++ (put t ∷ [])) ≡ put_list l n (opening_tokens o m ++ (t ∷ []))
unfolding store_laid put_list opened_of opening_tokens
store_opened opening.Nothing m t l n = refl
store_opened opening.BlockSequenceStart m t l n = refl
store_opened opening.BlockMappingStart m t l n = refl
store_opened opening.FlowMappingStart m t l n = refl
store_opened opening.FlowMappingEnd m t l n = refl

-- the tokens of an event
store_event : (e : Event) (l : List ℕ) (n : ℕ)
    → store_laid l n (ends_of e.closed e.token.start ++ (opened_of e.token.start e.opening ++ (put e.token ∷ []))) ≡ put_list l n (event_tokens e)
store_event e l n =
    let m = e.token.start in
    let ends = end_tokens e.closed m in
    let rest = opening_tokens e.opening m ++ (e.token ∷ []) in
    store_ends e.closed m l n (opened_of m e.opening ++ (put e.token ∷ []))
    ∙ store_opened e.opening m e.token (put_list l n ends) (n + e.closed)
    ∙ sym (put_list_append ends rest l n ∙ rw (length-replicate e.closed (empty_of kind.BlockEnd m)))

-- a note
store_note : (l : List ℕ) (o : Note) (m : Mark) (n : ℕ) (hs : List LaidEvent) → store_laid l n (noted_of m o ++ hs) ≡ store_laid (noted_words l o) n hs
unfolding noted_words noted_of store_laid note_number number_of
store_note l Nothing m n hs = refl
store_note l (Key k) m n hs = refl
store_note l (Pair k) m n hs = refl
store_note l (Block k) m n hs = refl

-- a step's, where its event stands for these events of the definition
event_stored : (e : Event) (here : Mark) (ended : ℕ) (m : Mark) (l : List ℕ) (n used : ℕ) (es : List definition.Event) → laid_of m e ≡ laid_events used es
    → put_news l n here ended e ≡ store_events l n used (definition.block_ends ended here ++ es)
unfolding laid_of
event_stored e here ended m l n used es s =
    let a = put_list l n (end_tokens ended here) in
    let k = n + ended in
    sym (store_ends ended here l n (laid_of m e) ∙ store_note a e.note m k _ ∙ store_event e (noted_words a e.note) k)
    ∙ ap (λ (hs : List LaidEvent). store_laid l n (ends_of ended here ++ hs)) s
    ∙ ap (λ (hs : List LaidEvent). store_laid l n hs) (sym (laid_ends here es used ended))

-- what put_news stores
pub news_stored : (base : ℕ) (e : Event) (here : Mark) (ended : ℕ) (m : Mark) (l : List ℕ) (n used : ℕ) (es : List definition.Event) → laid_of m e ≡ laid_events used es
    → put_news l n here ended (shifted base e) ≡ store_events l n used (map (counted_from base) (definition.block_ends ended here ++ es))
news_stored base e here ended m l n used es s =
    event_stored (shifted base e) here ended m l n used (map (counted_from base) es) (shifted_laid base m e used es s)
    ∙ ap (store_events l n used) (sym (counted_ends base ended here es))
