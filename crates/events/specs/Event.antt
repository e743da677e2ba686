-- Events: as code holds them, and the definition's, with their texts laid behind the bytes used so far.
use Rattle.std.specs.Prelude.{◌+◌, ◌<◌, ◌^◌, ℕ, Bool, List, [], ◌++◌, ◌∷◌, map, length, replicate}
use Rattle.yaml_text.specs.declared.Mark.{Mark}
use Rattle.yaml_text.specs.Pick.{pick}
use Rattle.yaml_text.specs.Refusal.{Read, got, refused}
use Rattle.yaml_lexeme.specs.declared.Kind.{Kind}
use Rattle.yaml_lexeme.specs.declared.Kind.TheVariants as kind
use Rattle.yaml_lexeme.specs.declared.Token.{Token}
use Rattle.yaml_lexeme.specs.Token as tokens
use Rattle.yaml_lexeme.specs.Record.{laid_token}
use Rattle.yaml_scan.specs.State as definition
use Rattle.events.specs.declared.Event.{Event}
use Rattle.events.specs.declared.Note.{Note}
use Rattle.events.specs.declared.Note.TheVariants as note
use Rattle.events.specs.declared.Opening.{Opening}
use Rattle.events.specs.declared.Opening.TheVariants as opening
use Rattle.reading.specs.Reading.{text_size}
use Rattle.events.specs.declared.Counts.{Counts}

abbrev pub note_size : Note → ℕ
note_size note.Nothing = 0
note_size (note.Key n) = 1
note_size (note.Pair n) = 2
note_size (note.Block n) = 2

abbrev pub opening_size : Opening → ℕ
opening_size opening.Nothing = 0
opening_size opening.BlockSequenceStart = 1
opening_size opening.BlockMappingStart = 1
opening_size opening.FlowMappingStart = 1
opening_size opening.FlowMappingEnd = 1

-- how many tokens an event gives, without those put in
abbrev pub event_size : Event → ℕ
event_size e = e.closed + opening_size e.opening + 1

-- the counts after an event
abbrev pub counted_of : Counts → Event → Counts
counted_of n e =
    record { count = n.count + event_size e; put_in = n.put_in + note_size e.note; used = n.used + text_size e.token.kind }

-- none of them wraps
pub record Countable (n : Counts) (e : Event) : Type 0 where
  pub tokens : n.count + event_size e < 2 ^ 32
  pub before : n.put_in + note_size e.note < 2 ^ 32
  pub bytes : n.used + text_size e.token.kind < 2 ^ 32

-- a token behind so many ends of blocks
abbrev pub closing_of : ℕ → Token → Event
closing_of n t = record { note = note.Nothing; closed = n; opening = opening.Nothing; token = t }

-- an empty token before another one, or none
abbrev pub opening_if : Bool → Opening → Opening
opening_if b o = pick b o opening.Nothing

-- a token behind an empty one
abbrev pub opening_of : Opening → Token → Event
opening_of o t = record { note = note.Nothing; closed = 0; opening = o; token = t }

-- a token that something goes in before a candidate for
abbrev pub noting_of : Note → Token → Event
noting_of n t = record { note = n; closed = 0; opening = opening.Nothing; token = t }

-- one token, behind an empty one or not
abbrev pub brief_event : Bool → Opening → Token → Event
brief_event led o t = opening_of (opening_if led o) t

-- an event of the definition, its tokens as code holds them: their texts are laid in the bytes
pub data LaidEvent : Type 0 where
  put : Token → LaidEvent
  put_before : ℕ → List Token → LaidEvent

abbrev pub empty_of : Kind → Mark → Token
empty_of k m = record { kind = k; start = m; end = m }

-- the tokens that go in before the candidate, which stands at m
unfoldable pub noted_of : Mark → Note → List LaidEvent
noted_of m note.Nothing = []
noted_of m (note.Key n) = put_before n (empty_of kind.Key m ∷ []) ∷ []
noted_of m (note.Pair n) = put_before n (empty_of kind.FlowMappingStart m ∷ empty_of kind.Key m ∷ []) ∷ []
noted_of m (note.Block n) = put_before n (empty_of kind.BlockMappingStart m ∷ empty_of kind.Key m ∷ []) ∷ []

unfoldable pub opened_of : Mark → Opening → List LaidEvent
opened_of m opening.Nothing = []
opened_of m opening.BlockSequenceStart = put (empty_of kind.BlockSequenceStart m) ∷ []
opened_of m opening.BlockMappingStart = put (empty_of kind.BlockMappingStart m) ∷ []
opened_of m opening.FlowMappingStart = put (empty_of kind.FlowMappingStart m) ∷ []
opened_of m opening.FlowMappingEnd = put (empty_of kind.FlowMappingEnd m) ∷ []

abbrev pub ends_of : ℕ → Mark → List LaidEvent
ends_of n m = replicate n (put (empty_of kind.BlockEnd m))

-- what an event of the code stands for, with the candidate at m
unfoldable pub laid_of : Mark → Event → List LaidEvent
laid_of m e =
    let start = e.token.start in
    noted_of m e.note ++ (ends_of e.closed start ++ (opened_of start e.opening ++ (put e.token ∷ [])))

-- the definition's events, their texts one behind the other from `used` on
unfoldable pub laid_events : ℕ → List definition.Event → List LaidEvent
laid_events used [] = []
laid_events used (definition.put t ∷ es) = put (laid_token used t) ∷ laid_events (used + length (tokens.token_bytes t)) es
laid_events used (definition.put_before n ts ∷ es) = put_before n (map (λ (t : tokens.Token). laid_token used t) ts) ∷ laid_events used es

-- the bytes of their texts
unfoldable pub event_texts : List definition.Event → List ℕ
event_texts [] = []
event_texts (definition.put t ∷ es) = tokens.token_bytes t ++ event_texts es
event_texts (definition.put_before n ts ∷ es) = event_texts es

-- the definition's news with such events
pub data LaidNews : Type 0 where
  goes_on : List LaidEvent → definition.State → LaidNews
  ends_with : List LaidEvent → LaidNews

unfoldable pub laid_news : ℕ → Read definition.News → Read LaidNews
laid_news used (got (definition.goes_on es s)) = got (goes_on (laid_events used es) s)
laid_news used (got (definition.ends_with es)) = got (ends_with (laid_events used es))
laid_news used (refused n m) = refused n m

-- the bytes of what is said
unfoldable pub news_texts : Read definition.News → List ℕ
news_texts (got (definition.goes_on es s)) = event_texts es
news_texts (got (definition.ends_with es)) = event_texts es
news_texts (refused n m) = []
