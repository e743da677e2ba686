-- The first call: what a fresh stream answers, and what is held then.
use Rattle.std.specs.Prelude.{List, ◌≡◌, set, ℕ, Result, Ok, Err}
use Rattle.yaml_text.specs.declared.Refusal.{Refusal}
use Rattle.yaml_text.specs.Mark.{origin}
use Rattle.yaml_lexeme.specs.declared.Kind.TheVariants as kind
use Rattle.yaml_lexeme.specs.Record.{record_of}
use Rattle.yaml_stream.specs.Stream.{Stream, broken, closing, scanning}
use Rattle.rooms.specs.Room.{cleared}
use Rattle.events.specs.declared.Counts.{Counts}
use Rattle.events.specs.Event.{empty_of}
use Rattle.states.specs.State.{s_begin}
use Rattle.driver.specs.Held.{base_at, phase_at, put_counts, put_state}
use Rattle.stream.specs.declared.Next.{Next}
use Rattle.stream.specs.declared.Next.TheVariants as next
use Rattle.stream.specs.Words.{no_token, refused_held}

-- StreamStart is counted
abbrev pub one_counted : Counts
one_counted = record { count = 1; put_in = 0; used = 0 }

-- what is held when StreamStart was given: all else is zero
abbrev pub begun_held : List ℕ → List ℕ
begun_held h = set (set (put_counts (put_state (cleared h 0) s_begin) one_counted) phase_at 1) base_at 1

-- x is a fresh stream
abbrev pub Starts : List ℕ → List ℕ → List ℕ → Result Next Refusal → Stream → Type 0
Starts h h' r a (broken k m) = (a ≡ Err (record { number = k; mark = m })) × (h' ≡ refused_held h (record { number = k; mark = m })) × (r ≡ no_token)
Starts h h' r a (scanning s n xs used) = (a ≡ Ok next.Token) × (h' ≡ begun_held h) × (r ≡ record_of (empty_of kind.StreamStart origin))
Starts h h' r a (closing xs) = ⊥
