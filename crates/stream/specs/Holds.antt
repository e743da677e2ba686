-- What stands between two calls in the words that are held (h), the lent words (l) and the lent bytes (b), of a stream of the definition.
-- `gone` are the texts of the tokens that were given. Steps were made ahead: `gs` are the slots whose tokens the next calls give.
use Rattle.std.specs.Prelude.{◌*◌, ◌+◌, ◌/◌, ◌<◌, ◌≤◌, ℕ, false, List, [], ◌++◌, ◌≡◌, drop, length, replicate, take, Result, Ok, Err}
use Rattle.yaml_text.specs.declared.Mark.{Mark}
use Rattle.yaml_text.specs.declared.Refusal.{Refusal}
use Rattle.yaml_lexeme.specs.Record.{record_words}
use Rattle.yaml_lexeme.specs.Token.{token_bytes}
use Rattle.yaml_scan.specs.declared.Limits.{Limits}
use Rattle.yaml_scan.specs.Slots.{Slot, flat}
use Rattle.yaml_scan.specs.State as definition
use Rattle.yaml_stream.specs.Stream.{Stream, broken, call, called, closing, ended, fresh, least_records, ready, refusal, scanning, spent, token}
use Rattle.yaml_stream.specs.Stream as stream
use Rattle.yaml_stream.specs.Ahead.{CallsGive}
use Rattle.yaml_stream.specs.Between.{BetweenCalls}
use Rattle.yaml_stream.specs.Notes.{AllNoted}
use Rattle.yaml_stream.specs.Waiting.{StreamReaches}
use Rattle.stacks.specs.Most.{at_most}
use Rattle.sink.specs.SlotWords.{laid_record, slot_texts, slot_words, used_by}
use Rattle.stream_laws.specs.Sought.{level_from}
use Rattle.driver.specs.Held.{base_at, counts_held, level_at, phase_at, seen_held, slot_at, until_at, word}
use Rattle.stream.specs.declared.Next.{Next}
use Rattle.stream.specs.declared.Next.TheVariants as next
use Rattle.stream.specs.Words.{refusal_held}

-- the words and the text that calls go on with
pub record Lent (limits : Limits) (text l : List ℕ) : Type 0 where
  pub short : length text ≤ limits.bytes
  pub records : least_records ≤ length l / record_words

-- gs can be given, from the slot that is held up to the one that is held as their end; xs wait behind them. The bytes hold the texts of what was
-- given, then theirs
pub record Waits (h l b gone : List ℕ) (gs xs : List Slot) : Type 0 where
  pub fit : word h slot_at + length (gs ++ xs) < least_records
  pub slots : take (length (gs ++ xs) * record_words) (drop (word h slot_at * record_words) l) ≡ slot_words (length gone) (gs ++ xs)
  pub texts : take (length gone + used_by (gs ++ xs)) b ≡ gone ++ slot_texts (gs ++ xs)
  pub until : word h until_at ≡ word h slot_at + length gs
  pub noted : AllNoted gs

-- behind gs more has to be scanned, from the state s; the first token that can't be given has the number n
pub record Scans (limits : Limits) (text h l b gone : List ℕ) (gs : List Slot) (s : definition.State) (n : ℕ) (xs : List Slot) (used : ℕ) : Type 0 where
  pub phase : word h phase_at ≡ 1
  pub seen : seen_held limits text h ≡ s
  pub used_held : (counts_held text h).used ≡ used
  pub used_so_far : used ≡ length gone + used_by (gs ++ xs)
  pub first : word h base_at + word h until_at ≡ n
  pub waits : Waits h l b gone gs xs
  pub level : ℕ
  pub between : BetweenCalls level s n xs
  pub on_level : at_most 255 (word h level_at) ≡ level_from level s n
  pub idle : ready (scanning s n xs used) ≡ false
  pub lent : Lent limits text l

-- StreamEnd was scanned: it stands last in gs, or was given
pub record Closes (limits : Limits) (text h l b gone : List ℕ) (gs : List Slot) : Type 0 where
  pub phase : word h phase_at ≡ 2
  pub waits : Waits h l b gone gs []
  pub lent : Lent limits text l

-- a refusal is held, which comes behind gs
pub record Breaks (h l b gone : List ℕ) (gs : List Slot) (k : ℕ) (m : Mark) : Type 0 where
  pub phase : 2 < word h phase_at
  pub is : refusal_held h ≡ record { number = k; mark = m }
  pub waits : Waits h l b gone gs []
  pub records : 1 ≤ length gs → least_records ≤ length l / record_words

-- the next calls of the stream x give the tokens of gs; behind them there is more to scan, or nothing is left, or a refusal comes
pub data Holds (limits : Limits) (text h l b : List ℕ) : List ℕ → Stream → Type 0 where
  -- a state of zeros is fresh, whatever the lent words and bytes hold
  fresh_state : word h phase_at ≡ 0 → word h until_at ≡ 0 → Holds limits text h l b [] (fresh limits text (length l))
  scans : {gone : List ℕ} {x : Stream} {gs : List Slot} {s : definition.State} {n used : ℕ} {xs : List Slot}
      → StreamReaches limits (length b) (fresh limits text (length l)) (scanning s n xs used) → CallsGive limits (length b) x (flat gs) (scanning s n xs used)
      → Scans limits text h l b gone gs s n xs used → Holds limits text h l b gone x
  closes : {gone : List ℕ} {x : Stream} {gs : List Slot} → CallsGive limits (length b) x (flat gs) (closing []) → Closes limits text h l b gone gs → Holds limits text h l b gone x
  breaks : {gone : List ℕ} {x y : Stream} {gs : List Slot} {k : ℕ} {m : Mark} → CallsGive limits (length b) x (flat gs) y → call limits (length b) y ≡ called (refusal k m) (broken k m)
      → Breaks h l b gone gs k m → Holds limits text h l b gone x

-- the answer of a call, and the record of its token: all zero where none was given. Its texts stand behind those of the tokens given before
abbrev pub Says : ℕ → stream.Next → List ℕ → Result Next Refusal → Type 0
Says used (token t) r a = (a ≡ Ok next.Token) × (r ≡ laid_record used t)
Says used ended r a = (a ≡ Ok next.Ended) × (r ≡ replicate record_words 0)
Says used (refusal k m) r a = (a ≡ Err (record { number = k; mark = m })) × (r ≡ replicate record_words 0)
Says used spent r a = ⊥

abbrev pub text_given : stream.Next → List ℕ
text_given (token t) = token_bytes t
text_given ended = []
text_given (refusal k m) = []
text_given spent = []

-- a call: of every stream that is held, the definition's answer, and the stream behind it is held then
pub record Calls (limits : Limits) (text b h' l' b' r : List ℕ) (a : Result Next Refusal) (gone : List ℕ) (x : Stream) : Type 0 where
  pub says : Says (length gone) (call limits (length b) x).answer r a
  pub holds : Holds limits text h' l' b' (gone ++ text_given (call limits (length b) x).answer) (call limits (length b) x).stream

-- of every stream that is held; no caller is asked for anything, so a call with other words than those of the call before promises nothing
abbrev pub Promises : Limits → List ℕ → List ℕ → List ℕ → List ℕ → List ℕ → List ℕ → List ℕ → List ℕ → Result Next Refusal → Type 0
Promises limits text h l b h' l' b' r a = (gone : List ℕ) (x : Stream) → Holds limits text h l b gone x → Calls limits text b h' l' b' r a gone x
