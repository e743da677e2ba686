-- What calls come to, where one has to scan: the loop of steps goes on past the tokens that can be given. (That it comes to this: Loop.)
use Rattle.std.specs.Prelude.{◌+◌, ◌-◌, ◌<◌, ◌≤◌, ℕ, false, List, [], ◌++◌, ◌∷◌, map, ◌≡◌, refl, ltb, drop, length, take}
use Rattle.std.proofs.Common.{append_assoc, ◌∙◌, sym, arith, length-append}
use Rattle.yaml_text.specs.declared.Mark.{Mark}
use Rattle.yaml_text.specs.Pick.{pick}
use Rattle.yaml_lexeme.specs.Token.{token_bytes}
use Rattle.yaml_scan.specs.declared.Limits.{Limits}
use Rattle.yaml_scan.specs.State.{Event, State, mark_of, put, put_before}
use Rattle.yaml_scan.specs.Slots.{Slot, flat}
use Rattle.yaml_scan.specs.Candidates.{GivenToken, Placed}
use Rattle.yaml_stream.specs.Stream.{Stream, brings, broken, call, called, closing, counted_from, fresh, refusal, scanning, waits}
use Rattle.yaml_stream.specs.Stream as stream
use Rattle.yaml_stream.specs.Waiting.{StreamReaches}
use Rattle.yaml_stream.specs.Notes.{AllNoted}
use Rattle.yaml_stream.specs.Between.{BetweenCalls}
use Rattle.yaml_stream.specs.Ahead.{CallsGive}
use Rattle.events.specs.Event.{event_texts}
use Rattle.sink.specs.EventsStored.{Notes, stored_texts}
use Rattle.sink.specs.CountedFrom.{counted_texts}
use Rattle.sink.specs.SlotWords.{slot_texts, used_by}
use Rattle.stream_laws.specs.declared.Pending.{Pending}
use Rattle.stream_laws.specs.Driven.{Driven, Test, ends, one_by_one, pauses, spent, stops}

-- what events come to

pub brings_texts : (es : List Event) → brings es ≡ length (event_texts es)
unfolding brings event_texts
brings_texts [] = refl
brings_texts (put t ∷ es) = omega (arith, length-append (token_bytes t) (event_texts es), brings_texts es)
brings_texts (put_before k ts ∷ es) = brings_texts es

pub waits_texts : (n : ℕ) (xs : List Slot) (es : List Event) → slot_texts (waits n xs es) ≡ slot_texts xs ++ event_texts es
unfolding waits
waits_texts n xs es = stored_texts (map (counted_from n) es) xs ∙ rw (counted_texts n es)

pub front_texts : (xs ys : List Slot) → slot_texts (xs ++ ys) ≡ slot_texts xs ++ slot_texts ys
unfolding slot_texts
front_texts [] ys = refl
front_texts (x ∷ xs) ys = rw (front_texts xs ys) (sym (append_assoc (token_bytes x.token) (slot_texts xs) (slot_texts ys)))

-- the fresh stream whose calls these are: the limits, the text, the words and the bytes lent
pub record Setting : Type 0 where
  pub limits : Limits
  pub text : List ℕ
  pub words : ℕ
  pub room : ℕ
  pub some_entries : 1 ≤ limits.entries
  pub few_entries : limits.entries ≤ 255

abbrev pub ComesTo : Setting → Stream → Type 0
ComesTo q x = StreamReaches q.limits q.room (fresh q.limits q.text q.words) x

-- the test behind each step
abbrev pub test : Setting → ℕ → Test
test q base = λ w level t m. one_by_one q.room base w level t.keys (length t.levels) (mark_of t) m

-- the level of the first token that waits, l; where none waits, the one from which the next step is made
abbrev pub level_from : ℕ → State → ℕ → ℕ
level_from l s n = pick (ltb n s.count) l (length s.levels)

-- what steps said: it can be stored in the slots xs of the tokens gs, and there is room for it
pub record Said (base : ℕ) (gs : List GivenToken) (xs : List Slot) (es : List Event) : Type 0 where
  pub placed : Placed gs (map (counted_from base) es)
  pub notes : Notes (map (counted_from base) es)
  pub few : length (waits base xs es) ≤ 4_383

-- between two calls, where the next has to scan. w: what is pending
pub record Idle (q : Setting) (w : Pending) (t : State) (ys : List Slot) (used : ℕ) : Type 0 where
  pub not_ready : stream.ready (scanning t w.number ys used) ≡ false
  pub comes : ComesTo q (scanning t w.number ys used)
  pub fits : used ≤ q.room
  pub level : ℕ
  pub between : BetweenCalls level t w.number ys
  pub on_level : w.level ≡ level_from level t w.number

-- what the loop comes to, from the stream x. What waits then is waits base xs es; of it the slots before the pending one can be given
pub record EndsWith (q : Setting) (base : ℕ) (gs : List GivenToken) (xs : List Slot) (used : ℕ) (x : Stream) (es : List Event) : Type 0 where
  pub given_all : CallsGive q.limits q.room x (flat (waits base xs es)) (closing [])
  pub said : Said base gs xs es
  pub noted : AllNoted (waits base xs es)
  pub fits : used + brings es ≤ q.room

pub record PausesAt (q : Setting) (base : ℕ) (gs : List GivenToken) (xs : List Slot) (used : ℕ) (x : Stream) (es : List Event) (w : Pending) (t : State) : Type 0 where
  pub given_free : CallsGive q.limits q.room x (flat (take (w.number - base) (waits base xs es))) (scanning t w.number (drop (w.number - base) (waits base xs es)) (used + brings es))
  pub said : Said base gs xs es
  pub noted : AllNoted (waits base xs es)
  pub some : base < w.number
  pub within : w.number ≤ base + length (waits base xs es)
  pub idle : Idle q w t (drop (w.number - base) (waits base xs es)) (used + brings es)

pub record StopsAt (q : Setting) (base : ℕ) (gs : List GivenToken) (xs : List Slot) (used : ℕ) (x : Stream) (es : List Event) (w : Pending) (k : ℕ) (p : Mark) : Type 0 where
  pub behind : Stream
  pub given_free : CallsGive q.limits q.room x (flat (take (w.number - base) (waits base xs es))) behind
  pub refusal_next : call q.limits q.room behind ≡ called (refusal k p) (broken k p)
  pub said : Said base gs xs es
  pub noted : AllNoted (waits base xs es)
  pub least : base ≤ w.number
  pub within : w.number ≤ base + length (waits base xs es)
  -- their texts are in the bytes lent
  pub fits : used_by (take (w.number - base) (waits base xs es)) + used ≤ q.room + used_by xs

abbrev pub Finds : Setting → ℕ → List GivenToken → List Slot → ℕ → Stream → Driven → Type 0
Finds q base gs xs used x (ends es) = EndsWith q base gs xs used x es
Finds q base gs xs used x (pauses es w t) = PausesAt q base gs xs used x es w t
Finds q base gs xs used x (stops es w k p) = StopsAt q base gs xs used x es w k p
Finds q base gs xs used x spent = ⊥
