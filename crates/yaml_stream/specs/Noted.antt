-- In every stream that calls come to, what waits is made of notes, each noted once: for steps put in notes, before tokens that wait and have none, and a call takes them from the front.
use Rattle.std.specs.Prelude.{◌≤◌, ℕ, List, map, ◌≡◌, refl, drop, length}
use Rattle.std.proofs.Common.{sym, arith}
use Rattle.yaml_text.specs.Mark.{origin}
use Rattle.yaml_text.proofs.DecodeLaws.{decode_is}
use Rattle.yaml_text.specs.All.{All, all_both, all_got, all_weak}
use Rattle.yaml_scan.specs.declared.Limits.{Limits}
use Rattle.yaml_scan.specs.State.{Event, News, State, ends_with, goes_on}
use Rattle.yaml_scan.specs.Scan.{step}
use Rattle.yaml_scan.specs.Slots.{Slot}
use Rattle.yaml_scan.specs.SlotLaws.{SlotsHold}
use Rattle.yaml_scan.specs.Candidates.{GivenToken, Placed, Sound, given, late, ready}
use Rattle.yaml_scan.specs.Runs.{Stepped}
use Rattle.yaml_scan.proofs.Runs.{step_news}
use Rattle.yaml_scan.specs.Budget.{begin_sound}
use Rattle.yaml_stream.specs.Stream.{Stream, broken, closing, counted_from, fresh, scanning, waits}
use Rattle.yaml_stream.specs.Kept.{StepKeeps, NotesFrom, step_keeps}
use Rattle.yaml_stream.specs.Changes.{fresh_by}
use Rattle.yaml_stream.specs.Waiting.{Held}
use Rattle.yaml_stream.specs.Notes.{AllNoted, Notes, NotesIn, counted_given, counted_notes, counted_placed, holds_after, no_note, noted_after, step_notes}

-- what waits
pub record Noted (s : State) (n : ℕ) (xs : List Slot) : Type 0 where
  -- all tokens, those given too
  pub all : List GivenToken
  pub sound : Sound all s
  pub holds_last : SlotsHold (drop n all) xs
  pub noted : AllNoted xs

abbrev pub NotedIn : Stream → Type 0
NotedIn (scanning s n xs used) = Noted s n xs
NotedIn (closing xs) = (gs : List GivenToken) × SlotsHold gs xs × AllNoted xs
NotedIn (broken k m) = Unit {0}

-- a step

pub sound_count : {gs : List GivenToken} {s : State} → Sound gs s → s.count ≡ length gs
sound_count (ready r) = r.counted
sound_count (late e o r) = r.counted

module _ (limits : Limits) (s : State) (n : ℕ) (xs : List Slot) (k : Held limits s n xs) (h : Noted s n xs) where
  least : n ≤ length h.all
  least = omega (arith, k.counted, sound_count h.sound)

  -- what the slots hold then, and what goes in before their tokens
  holds_then : (es : List Event) → NotesFrom n es → SlotsHold (drop n (given h.all es)) (waits n xs es)
  unfolding waits
  holds_then es f = rw (sym (counted_given n es h.all least f)) (holds_after (map (counted_from n) es) (drop n h.all) xs h.holds_last)

  noted_then : (es : List Event) → Placed h.all es → NotesFrom n es → Notes es → AllNoted (waits n xs es)
  unfolding waits
  noted_then es p f i =
      noted_after (map (counted_from n) es) (drop n h.all) xs h.holds_last (counted_placed n es h.all least f p) (counted_notes n es i) h.noted

  abbrev pub NotedThen : News → Type 0
  NotedThen (goes_on es t) = Noted t n (waits n xs es)
  NotedThen (ends_with es) = NotedIn (closing (waits n xs es))

  pub step_noted : All News NotedThen (step limits s)
  step_noted = all_weak by_news (all_both (step_news h.all limits s) (all_both (step_keeps n limits s (omega (arith, k.counted)) k.from) (step_notes limits s)))
    where
      by_news : (w : News) → Stepped h.all s w × (StepKeeps n s w × NotesIn w) → NotedThen w
      by_news (goes_on es t) i =
          let j = i.0.sound h.sound in
          let f = i.1.0.0 in
          record { all = given h.all es; sound = j.1; holds_last = holds_then es f; noted = noted_then es j.0 f i.1.1 }
      by_news (ends_with es) i =
          let f = i.1.0 in
          (drop n (given h.all es), holds_then es f, noted_then es (i.0 h.sound) f i.1.1)

-- a token is given

-- a fresh state
pub fresh_noted : (limits : Limits) (bytes : List ℕ) (words : ℕ) → NotedIn (fresh limits bytes words)
fresh_noted limits bytes words =
    fresh_by NotedIn limits bytes words tt tt (λ k m. tt)
    (λ cs e. record { all = _; sound = begin_sound cs (all_got (decode_is 0 origin bytes) e).no_nul; holds_last = (refl, λ _. refl, tt); noted = (no_note, tt) })
