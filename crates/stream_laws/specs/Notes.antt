-- What steps put in are notes, as the words hold them: so what they say is stored in the slots.
use Rattle.std.specs.Prelude.{◌*◌, ◌+◌, ◌≤◌, ℕ, List, [], ◌∷◌, map, ◌≡◌, refl, length}
use Rattle.yaml_text.specs.declared.Mark.{Mark}
use Rattle.yaml_lexeme.specs.Token.{Token}
use Rattle.yaml_lexeme.specs.Record.{laid, number_of, record_words}
use Rattle.yaml_scan.specs.State.{Event, put, put_before}
use Rattle.yaml_scan.specs.Candidates.{GivenToken, Placed}
use Rattle.yaml_scan.specs.Slots.{Slot}
use Rattle.yaml_scan.specs.SlotLaws.{SlotsHold}
use Rattle.yaml_stream.specs.Stream.{counted_from, waits}
use Rattle.yaml_stream.specs.Notes.{Note, block, key, no_note, pair}
use Rattle.yaml_stream.specs.Notes as stream
use Rattle.sink.specs.Settle.{note_kinds, opener}
use Rattle.sink.specs.SlotWords.{note_number, note_of, used_by, with_slots}
use Rattle.sink.specs.EventsStored.{Notes, events_stored, kinds, store_events}

note_kinds_of : {m : Mark} {ts : List Token} → Note m ts → kinds ts ≡ note_kinds (note_of ts)
unfolding note_kinds note_number opener laid number_of
note_kinds_of no_note = refl
note_kinds_of key = refl
note_kinds_of pair = refl
note_kinds_of block = refl

pub notes_kinds : (es : List Event) → stream.Notes es → Notes es
unfolding Notes stream.Notes
notes_kinds [] h = tt
notes_kinds (put t ∷ es) h = notes_kinds es h
notes_kinds (put_before k ts ∷ es) h = (note_kinds_of h.0.1, notes_kinds es h.1)

-- so many bytes of text having come before the slots
pub waits_stored : (used n : ℕ) (es : List Event) (gs : List GivenToken) (xs : List Slot) (l : List ℕ) → SlotsHold gs xs → Placed gs (map (counted_from n) es)
    → Notes (map (counted_from n) es) → length (waits n xs es) * record_words ≤ length l
    → store_events (with_slots used xs l) (length xs) (used + used_by xs) (map (counted_from n) es) ≡ with_slots used (waits n xs es) l
unfolding waits
waits_stored used n es gs xs l h p k r = events_stored used (map (counted_from n) es) gs xs l h p k r
