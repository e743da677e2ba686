-- What the parts of a call do to the words that they are lent.
use Rattle.std.specs.Prelude.{◌*◌, ◌+◌, ◌-◌, ℕ, Bool, false, true, List, ◌≡◌, eqb, ltb, drop, length, replicate, set, take, Result, Ok, Err}
use Rattle.std.proofs.lemmas.List.Edits.{sets}
use Rattle.yaml_text.specs.declared.Refusal.{Refusal}
use Rattle.yaml_text.specs.Pick.{pick}
use Rattle.yaml_lexeme.specs.Record.{record_words}
use Rattle.yaml_lexeme.specs.Token.{Key}
use Rattle.yaml_stream.specs.Stream.{least_records}
use Rattle.stacks.specs.Most.{at_most}
use Rattle.records.specs.Note.{empty_at, note_in, noted_word}
use Rattle.sink.specs.Settle.{number, opener}
use Rattle.events.specs.declared.Counts.{Counts}
use Rattle.driver.specs.Held.{base_at, counts_at, mark_at, mark_words, number_at, phase_at, slot_at, until_at, word}
use Rattle.stream.specs.declared.Next.{Next}
use Rattle.stream.specs.declared.Next.TheVariants as next

-- the number of the kind that goes in first before a record with the note n
unfoldable pub first_number : ℕ → ℕ
first_number n = pick (eqb n 1) (number Key) (number (opener n))

-- the record x of the first slot that waits gives a token: one that goes in before its own, or its own
unfoldable pub token_words : List ℕ → List ℕ
token_words x = pick (eqb (note_in x) 0) x (empty_at (first_number (note_in x)) x)

-- its note behind that
unfoldable pub note_left : ℕ → ℕ
note_left n = pick (ltb 1 n) 1 0

-- 1 where it was its own
unfoldable pub own : ℕ → ℕ
own n = pick (eqb n 0) 1 0

-- the lent words behind that, the record begins at word i
unfoldable pub words_left : List ℕ → ℕ → ℕ → List ℕ
words_left l i n = pick (eqb n 0) l (set l i (noted_word l i (note_left n)))

abbrev pub record_from : List ℕ → ℕ → List ℕ
record_from l i = take record_words (drop i l)

-- the first slot that waits, as it is held, and where its record begins
abbrev pub slot_held : List ℕ → ℕ
slot_held h = at_most (least_records - 1) (word h slot_at)

abbrev pub first_at : List ℕ → ℕ
first_at h = slot_held h * record_words

-- the first token that waits is given
pub record Gives (h l h' l' r : List ℕ) : Type 0 where
  pub token : r ≡ token_words (record_from l (first_at h))
  pub words : l' ≡ words_left l (first_at h) (note_in (record_from l (first_at h)))
  pub held : h' ≡ set h slot_at (slot_held h + own (note_in (record_from l (first_at h))))

-- the one slot that may wait moves to the front
abbrev pub front_base : List ℕ → ℕ
front_base h = at_most 1_073_741_824 (word h base_at) + slot_held h

abbrev pub front_held : List ℕ → List ℕ
front_held h = set (set h base_at (front_base h)) slot_at 0

unfoldable pub front_words : List ℕ → List ℕ → List ℕ
front_words h l = pick (ltb (front_base h) (word h counts_at)) (sets l 0 (record_from l (first_at h))) l

-- a refusal is held
abbrev pub put_refusal : List ℕ → Refusal → List ℕ
put_refusal h f = set (sets (set h phase_at 3) mark_at (mark_words f.mark)) number_at f.number

-- where nothing can be given
abbrev pub refused_held : List ℕ → Refusal → List ℕ
refused_held h f = set (set (put_refusal h f) slot_at 0) until_at 0

-- the refusal that is held
abbrev pub refusal_held : List ℕ → Refusal
refusal_held h = record { number = word h number_at; mark = record { index = word h mark_at; line = word h (mark_at + 1); col = word h (mark_at + 2) } }

-- StreamEnd was scanned
abbrev pub close_held : List ℕ → Counts → List ℕ
close_held h m = set (set h phase_at 2) until_at (m.count - at_most m.count (word h base_at))

-- whether a token can be given, where so many words are lent
unfoldable pub has_some : List ℕ → ℕ → Bool
has_some h n = pick (ltb n (least_records * record_words)) false (ltb (word h slot_at) (word h until_at))

-- the first token that waits is given if it can be, else all stays; r says which. t stood in the token's words
pub record MayGive (h l t h' l' t' : List ℕ) (r : Bool) : Type 0 where
  pub told : r ≡ has_some h (length l)
  pub given : r ≡ true → Gives h l h' l' t'
  pub stays : r ≡ false → (h' ≡ h) × (l' ≡ l) × (t' ≡ t)

-- what is said where none can
unfoldable pub last_held : List ℕ → Result Next Refusal
last_held h = pick (eqb (word h phase_at) 2) (Ok next.Ended) (Err (refusal_held h))

abbrev pub no_token : List ℕ
no_token = replicate record_words 0
