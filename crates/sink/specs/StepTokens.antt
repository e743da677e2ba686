-- What a step brings, as code holds it: its tokens in their order, the note on the candidate, and both stored.
use Rattle.std.specs.Prelude.{◌+◌, ◌-◌, ℕ, List, [], ◌++◌, ◌∷◌, replicate}
use Rattle.yaml_text.specs.declared.Mark.{Mark}
use Rattle.yaml_lexeme.specs.declared.Kind.TheVariants as kind
use Rattle.yaml_lexeme.specs.declared.Token.{Token}
use Rattle.events.specs.declared.Event.{Event}
use Rattle.events.specs.declared.Note.{Note}
use Rattle.events.specs.declared.Note.TheVariants.{Block, Key, Nothing, Pair}
use Rattle.events.specs.declared.Opening.{Opening}
use Rattle.events.specs.declared.Opening.TheVariants as opening
use Rattle.events.specs.Event.{empty_of}
use Rattle.sink.specs.Store.{put_list, put_note}

abbrev pub end_tokens : ℕ → Mark → List Token
end_tokens n m = replicate n (empty_of kind.BlockEnd m)

unfoldable pub opening_tokens : Opening → Mark → List Token
opening_tokens opening.Nothing m = []
opening_tokens opening.BlockSequenceStart m = empty_of kind.BlockSequenceStart m ∷ []
opening_tokens opening.BlockMappingStart m = empty_of kind.BlockMappingStart m ∷ []
opening_tokens opening.FlowMappingStart m = empty_of kind.FlowMappingStart m ∷ []
opening_tokens opening.FlowMappingEnd m = empty_of kind.FlowMappingEnd m ∷ []

-- so many blocks end, the empty token that comes first, the token: without those that go in before the candidate
abbrev pub event_tokens : Event → List Token
event_tokens e = end_tokens e.closed e.token.start ++ (opening_tokens e.opening e.token.start ++ (e.token ∷ []))

-- the numbers of the notes
unfoldable pub noted_words : List ℕ → Note → List ℕ
noted_words l Nothing = l
noted_words l (Key n) = put_note l n 1
noted_words l (Pair n) = put_note l n 2
noted_words l (Block n) = put_note l n 3

-- a note and an event, tokens counted from number n on
abbrev pub note_from : ℕ → Note → Note
note_from n Nothing = Nothing
note_from n (Key k) = Key (k - n)
note_from n (Pair k) = Pair (k - n)
note_from n (Block k) = Block (k - n)

abbrev pub shifted : ℕ → Event → Event
shifted n e = record { closed = e.closed; note = note_from n e.note; opening = e.opening; token = e.token }

-- what a step found, from slot n on: so many blocks end here, then the note and the tokens of its lexeme
abbrev pub put_news : List ℕ → ℕ → Mark → ℕ → Event → List ℕ
put_news l n here ended e = put_list (noted_words (put_list l n (end_tokens ended here)) e.note) (n + ended) (event_tokens e)
