-- Ask 8: one token at a time. A fresh state; then a call that gives the next token and the state after it.
use Rattle.std.specs.Prelude.{◌+◌, ◌-◌, ◌/◌, suc, zero, ℕ, Bool, ◌&&◌, ◌||◌, false, not, true, List, [], ◌∷◌, map, eqb, ltb, length}
use Rattle.yaml_text.specs.declared.Mark.{Mark}
use Rattle.yaml_text.specs.Mark.{origin}
use Rattle.yaml_text.specs.Refusal.{Read, got, refused}
use Rattle.yaml_text.specs.Decode.{decode}
use Rattle.yaml_text.specs.PlaceLaws.{left}
use Rattle.yaml_lexeme.specs.Token.{StreamStart, Token, empty_token, token_bytes}
use Rattle.yaml_lexeme.specs.Record.{record_words}
use Rattle.yaml_scan.specs.declared.Candidate.{Candidate}
use Rattle.yaml_scan.specs.declared.Candidate.TheVariants.{Absent, Possible}
use Rattle.yaml_scan.specs.declared.Limits.{Limits}
use Rattle.yaml_scan.specs.State.{Event, News, State, ends_with, goes_on, mark_of, put, put_before}
use Rattle.yaml_scan.specs.Slots.{Slot, flat, slot, slots}
use Rattle.yaml_scan.specs.Scan.{begin, step}

-- so many tokens may wait before a step
abbrev pub most_waiting : ℕ
most_waiting = 4_096

-- 51: more wait, and the first of them is a possible key
abbrev pub too_many_wait : ℕ
too_many_wait = 51

-- the words hold so many records
abbrev pub least_records : ℕ
least_records = 4_400

-- 52: they hold fewer
abbrev pub too_few_words : ℕ
too_few_words = 52

-- the state between two calls. What waits stands in slots: a token, behind those that go in before it
pub data Stream : Type 0 where
  -- the scanner's state; the number of the first slot that waits; the slots; how many bytes of text were scanned so far
  scanning : State → ℕ → List Slot → ℕ → Stream
  -- StreamEnd was scanned, and these wait; none: ended
  closing : List Slot → Stream
  -- a refusal, which stands for ever
  broken : ℕ → Mark → Stream

-- token n is a possible key: the candidate of some level
unfoldable pub possible : ℕ → List Candidate → Bool
possible n [] = false
possible n (Absent ∷ ks) = possible n ks
possible n (Possible required k m ∷ ks) = eqb n k || possible n ks

-- an event, tokens counted from number n on
abbrev pub counted_from : ℕ → Event → Event
counted_from n (put t) = put t
counted_from n (put_before k ts) = put_before (k - n) ts

-- what waits after these events, where token n was the first
unfoldable pub waits : ℕ → List Slot → List Event → List Slot
waits n xs es = slots xs (map (counted_from n) es)

-- the bytes of text that events bring; tokens put in have none
unfoldable pub brings : List Event → ℕ
brings [] = 0
brings (put t ∷ es) = length (token_bytes t) + brings es
brings (put_before k ts ∷ es) = brings es

-- too many wait, and the first is a possible key
unfoldable pub crowded : State → ℕ → List Slot → Bool
crowded s n xs = ltb most_waiting (length (flat xs)) && possible n s.keys

-- behind a step. 5: the texts scanned are more than the bytes lent; then 51
unfoldable pub behind : ℕ → State → ℕ → List Slot → ℕ → Stream
behind room s n xs used =
    elim (ltb room used) [
      | true ↦ broken 5 origin
      | false ↦ elim (crowded s n xs) [
        | true ↦ broken too_many_wait (mark_of s)
        | false ↦ scanning s n xs used
      ]
    ]

-- a rule broken is the answer at once; StreamEnd brings no text, and no key is possible behind it
abbrev pub after_news : ℕ → ℕ → List Slot → ℕ → Read News → Stream
after_news room n xs used (got (goes_on es s)) = behind room s n (waits n xs es) (used + brings es)
after_news room n xs used (got (ends_with es)) = closing (waits n xs es)
after_news room n xs used (refused k m) = broken k m

-- one scanning step
unfoldable pub stepped : Limits → ℕ → Stream → Stream
stepped limits room (scanning s n xs used) = after_news room n xs used (step limits s)
stepped limits room (closing xs) = closing xs
stepped limits room (broken k m) = broken k m

-- the first waiting token is no possible key, or nothing is left to scan
unfoldable pub ready : Stream → Bool
ready (scanning s n [] used) = false
ready (scanning s n (x ∷ xs) used) = not (possible n s.keys)
ready (closing xs) = true
ready (broken k m) = true

-- the scan goes on only until then; so many steps at most
unfoldable pub sought : Limits → ℕ → ℕ → Stream → Stream
sought limits room zero x = x
sought limits room (suc k) x =
    elim (ready x) [
      | true ↦ x
      | false ↦ sought limits room k (stepped limits room x)
    ]

pub data Next : Type 0 where
  token : Token → Next
  ended : Next
  refusal : ℕ → Mark → Next
  -- out of budget
  spent : Next

pub record Called : Type 0 where
  pub answer : Next
  pub stream : Stream

abbrev pub called : Next → Stream → Called
called a x = record { answer = a; stream = x }

-- the first token of a slot: of those put in before its own token, or this. f: the stream of what waits then, from that number on
unfoldable pub first_of : (ℕ → List Slot → Stream) → ℕ → List Token → Token → List Slot → Called
first_of f n [] t xs = called (token t) (f (suc n) xs)
first_of f n (b ∷ bs) t xs = called (token b) (f n (slot t bs ∷ xs))

unfoldable pub give : Stream → Called
give (scanning s n [] used) = called spent (scanning s n [] used)
give (scanning s n (x ∷ xs) used) =
    elim (possible n s.keys) [
      | true ↦ called spent (scanning s n (x ∷ xs) used)
      | false ↦ first_of (λ k ys. scanning s k ys used) n x.before x.token xs
    ]
give (closing []) = called ended (closing [])
give (closing (x ∷ xs)) = first_of (λ _ ys. closing ys) 0 x.before x.token xs
give (broken k m) = called (refusal k m) (broken k m)

-- each step but the last takes a character
unfoldable pub budget : Stream → ℕ
budget (scanning s n xs used) = suc (left s.place)
budget (closing xs) = 0
budget (broken k m) = 0

-- the call. room: the bytes lent
unfoldable pub call : Limits → ℕ → Stream → Called
call limits room x = give (sought limits room (budget x) x)

-- 52; else StreamStart waits
unfoldable pub begun : ℕ → List ℕ → Stream
begun words_room cs =
    elim (ltb (words_room / record_words) least_records) [
      | true ↦ broken too_few_words origin
      | false ↦ scanning (begin cs) 0 (slot (empty_token StreamStart origin) [] ∷ []) 0
    ]

-- a fresh state. 1; 2 or 3, of the whole text; then 52
unfoldable pub fresh : Limits → List ℕ → ℕ → Stream
fresh limits bytes words_room =
    elim (ltb limits.bytes (length bytes)) [
      | true ↦ broken 1 origin
      | false ↦ elim (decode 0 origin bytes) [
        | got cs ↦ begun words_room cs
        | refused k m ↦ broken k m
      ]
    ]

-- the tokens given by at most k calls, up to one that gives none, and what that one answers
pub record Heard : Type 0 where
  pub tokens : List Token
  pub last : Next

abbrev pub heard : List Token → Next → Heard
heard ts a = record { tokens = ts; last = a }

abbrev pub on_answer : Next → Stream → (Stream → Heard) → Heard
on_answer (token t) x go = let h = go x in heard (t ∷ h.tokens) h.last
on_answer ended x go = heard [] ended
on_answer (refusal k m) x go = heard [] (refusal k m)
on_answer spent x go = heard [] spent

unfoldable pub hear : Limits → ℕ → ℕ → Stream → Heard
hear limits room zero x = heard [] spent
hear limits room (suc k) x = let c = call limits room x in on_answer c.answer c.stream (λ y. hear limits room k y)
