-- Counts that are small count any event of a fetcher.
use Rattle.std.specs.Prelude.{◌<◌, ◌≤◌, ◌^◌}
use Rattle.std.proofs.Common.{arith}
use Rattle.events.specs.declared.Counts.{Counts}
use Rattle.events.specs.declared.Event.{Event}
use Rattle.events.specs.declared.Note.{Note}
use Rattle.events.specs.declared.Note.TheVariants as note
use Rattle.events.specs.declared.Opening.{Opening}
use Rattle.events.specs.declared.Opening.TheVariants as opening
use Rattle.events.specs.Event.{Countable, note_size, opening_size}
use Rattle.reading.specs.Reading.{text_size}

pub opening_few : (o : Opening) → opening_size o ≤ 1
opening_few opening.Nothing = omega arith
opening_few opening.BlockSequenceStart = omega arith
opening_few opening.BlockMappingStart = omega arith
opening_few opening.FlowMappingStart = omega arith
opening_few opening.FlowMappingEnd = omega arith

pub note_few : (n : Note) → note_size n ≤ 2
note_few note.Nothing = omega arith
note_few (note.Key n) = omega arith
note_few (note.Pair n) = omega arith
note_few (note.Block n) = omega arith

pub countable : (n : Counts) (e : Event) → n.count < 2 ^ 31 → n.put_in < 2 ^ 31 → n.used < 2 ^ 31 → e.closed ≤ 255 → text_size e.token.kind < 2 ^ 31
    → Countable n e
countable n e a b c d t =
    let o = opening_few e.opening in
    let k = note_few e.note in
    record { tokens = omega arith; before = omega arith; bytes = omega arith }
