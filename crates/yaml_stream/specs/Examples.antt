-- How the open places of Ask 8 are read: the smallest text of each, computed; `one` is 8.1. The kinds of the tokens given, then the answer that comes from then on.
use Rattle.std.specs.Prelude.{◌*◌, ◌-◌, ℕ, false, List, [], ◌∷◌, map, ◌≡◌, refl, replicate}
use Rattle.yaml_text.specs.Mark.{origin}
use Rattle.yaml_lexeme.specs.Token.{FlowEntry, Token, empty_token}
use Rattle.yaml_lexeme.specs.Record.{laid, number_of, record_words}
use Rattle.yaml_scan.specs.declared.Candidate.TheVariants.{Possible}
use Rattle.yaml_scan.specs.State.{State, mark_of, with_keys}
use Rattle.yaml_scan.specs.Slots.{Slot, slot}
use Rattle.yaml_scan.specs.Scan.{begin, standard}
use Rattle.yaml_scan.specs.Open.{all_open}
use Rattle.yaml_stream.specs.Stream.{Heard, Next, behind, broken, ended, fresh, hear, refusal, scanning}
use Rattle.yaml_stream.specs.Open.{stream_open}

record Shown : Type 0 where
  kinds : List ℕ
  last : Next

abbrev shown : Heard → Shown
shown h = record { kinds = map (λ (t : Token). number_of (laid 0 t.kind)) h.tokens; last = h.last }

-- words for 4,400 records
abbrev ample : ℕ
ample = 4_400 * record_words

-- text, words, bytes: 20 calls
abbrev stream : List ℕ → ℕ → ℕ → Shown
stream text words room = shown (hear standard room 20 (fresh standard text words))

abbrev gives : List ℕ → Next → Shown
gives ks a = record { kinds = ks; last = a }

abbrev refused_at : ℕ → ℕ → ℕ → ℕ → Next
refused_at n index line col = refusal n (record { index = index; line = line; col = col })

-- `]`: StreamStart is given without scanning
pub one : stream (93 ∷ []) ample 9 ≡ gives (1 ∷ []) (refused_at 47 0 1 0)
unfolding all_open stream_open
one = refl

-- `|⏎ a⏎]`: a candidate is possible until a check has found it lapsed
pub two : stream (124 ∷ 10 ∷ 32 ∷ 97 ∷ 10 ∷ 93 ∷ []) ample 9 ≡ gives (1 ∷ []) (refused_at 47 5 3 0)
unfolding all_open stream_open
two = refl

-- `[a, b}`: of any level
pub three : stream (91 ∷ 97 ∷ 44 ∷ 32 ∷ 98 ∷ 125 ∷ []) ample 9 ≡ gives (1 ∷ []) (refused_at 47 5 1 5)
unfolding all_open stream_open
three = refl

-- `a: [b, c}`: on its key's line '[' is no candidate, and its entries are given as they come
pub four : stream (97 ∷ 58 ∷ 32 ∷ 91 ∷ 98 ∷ 44 ∷ 32 ∷ 99 ∷ 125 ∷ []) ample 9 ≡ gives (1 ∷ 9 ∷ 17 ∷ 22 ∷ 18 ∷ 11 ∷ 22 ∷ 16 ∷ []) (refused_at 47 8 1 8)
unfolding all_open stream_open
four = refl

-- `a:⏎  [b, c}`: on a line of its own it is one
pub five : stream (97 ∷ 58 ∷ 10 ∷ 32 ∷ 32 ∷ 91 ∷ 98 ∷ 44 ∷ 32 ∷ 99 ∷ 125 ∷ []) ample 9 ≡ gives (1 ∷ 9 ∷ 17 ∷ 22 ∷ 18 ∷ []) (refused_at 47 10 2 7)
unfolding all_open stream_open
five = refl

-- `{a: [b, c}`: '{' waits first
pub six : stream (123 ∷ 97 ∷ 58 ∷ 32 ∷ 91 ∷ 98 ∷ 44 ∷ 32 ∷ 99 ∷ 125 ∷ []) ample 9 ≡ gives (1 ∷ []) (refused_at 47 9 1 9)
unfolding all_open stream_open
six = refl

-- behind a step, the first of so many a possible key
abbrev keyed : State
keyed = with_keys (Possible false 1 origin ∷ []) (begin [])

abbrev entries : ℕ → List Slot
entries k = replicate k (slot (empty_token FlowEntry origin) [])

-- 4,096 may wait
pub seven : behind 9 keyed 1 (entries 4_096) 0 ≡ scanning keyed 1 (entries 4_096) 0
unfolding all_open stream_open
seven = refl

-- one more: 51
pub eight : behind 9 keyed 1 (entries 4_097) 0 ≡ broken 51 (mark_of keyed)
unfolding all_open stream_open
eight = refl

-- but not where the first is none
pub given_on : behind 9 keyed 0 (entries 4_097) 0 ≡ scanning keyed 0 (entries 4_097) 0
unfolding all_open stream_open
given_on = refl

-- `[a, b}`, 1 byte: 5 behind the step whose text is too much, ahead of rules broken further on
pub fourteen : stream (91 ∷ 97 ∷ 44 ∷ 32 ∷ 98 ∷ 125 ∷ []) ample 1 ≡ gives (1 ∷ []) (refused_at 5 0 1 0)
unfolding all_open stream_open
fourteen = refl

-- `'a' b`, no bytes: a step that breaks a rule has scanned no token
pub fifteen : stream (39 ∷ 97 ∷ 39 ∷ 32 ∷ 98 ∷ []) ample 0 ≡ gives (1 ∷ []) (refused_at 40 4 1 4)
unfolding all_open stream_open
fifteen = refl

-- `''`, no bytes: an empty text always fits
pub sixteen : stream (39 ∷ 39 ∷ []) ample 0 ≡ gives (1 ∷ 22 ∷ 2 ∷ []) ended
unfolding all_open stream_open
sixteen = refl

-- `a`, words for 4,399 records: 52 at the first call, in place of StreamStart
pub eighteen : stream (97 ∷ []) (ample - 1) 9 ≡ gives [] (refused_at 52 0 1 0)
unfolding all_open stream_open
eighteen = refl

-- FF, no words: 2 goes first
pub earlier : stream (255 ∷ []) 0 9 ≡ gives [] (refused_at 2 0 1 0)
unfolding all_open stream_open
earlier = refl

-- `[a: b]`: what goes in before a token is given before it
pub pairs : stream (91 ∷ 97 ∷ 58 ∷ 32 ∷ 98 ∷ 93 ∷ []) ample 9 ≡ gives (1 ∷ 11 ∷ 13 ∷ 17 ∷ 22 ∷ 18 ∷ 22 ∷ 14 ∷ 12 ∷ 2 ∷ []) ended
unfolding all_open stream_open
pairs = refl
