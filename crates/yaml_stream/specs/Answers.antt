-- What the calls of Ask 8 answer: the tokens of 01's list in order, or a beginning of what its rules have built; then the same answer for ever.
use Rattle.std.specs.Prelude.{ℕ, List, [], ◌++◌, ◌∷◌, ◌≡◌, refl}
use Rattle.yaml_text.specs.declared.Mark.{Mark}
use Rattle.yaml_text.specs.Test.{by_test}
use Rattle.yaml_lexeme.specs.Token.{Token}
use Rattle.yaml_scan.specs.declared.Limits.{Limits}
use Rattle.yaml_scan.specs.Slots.{Slot}
use Rattle.yaml_stream.specs.Stream.{Next, Stream, broken, budget, call, called, closing, ended, first_of, give, possible, refusal, scanning, sought, spent, token}

-- what comes on every later call

-- the stream behind an answer
abbrev Lasts : Next → Stream → Type 0
Lasts (token t) x = Unit {0}
Lasts ended x = x ≡ closing []
Lasts (refusal k m) x = x ≡ broken k m
Lasts spent x = Unit {0}

first_lasts : (f : ℕ → List Slot → Stream) (n : ℕ) (bs : List Token) (t : Token) (xs : List Slot) → Lasts (first_of f n bs t xs).answer (first_of f n bs t xs).stream
unfolding first_of
first_lasts f n [] t xs = tt
first_lasts f n (b ∷ bs) t xs = tt

give_lasts : (x : Stream) → Lasts (give x).answer (give x).stream
unfolding give
give_lasts (scanning s n [] used) = tt
give_lasts (scanning s n (x ∷ xs) used) =
    by_test (possible n s.keys) (λ e. rw (e, give) tt) (λ e. rw (e, give) (first_lasts (λ k ys. scanning s k ys used) n x.before x.token xs))
give_lasts (closing []) = refl
give_lasts (closing (x ∷ xs)) = first_lasts (λ _ ys. closing ys) 0 x.before x.token xs
give_lasts (broken k m) = refl

-- behind a refusal the stream is broken
pub refused_stays : (limits : Limits) (room : ℕ) (x : Stream) (k : ℕ) (m : Mark) → (call limits room x).answer ≡ refusal k m → (call limits room x).stream ≡ broken k m
unfolding call
refused_stays limits room x k m e =
    let y = sought limits room (budget x) x in
    let h : Lasts (refusal k m) (give y).stream = rw e at (give_lasts y) in
    h

-- and the same refusal comes again
pub refused_again : (limits : Limits) (room k : ℕ) (m : Mark) → call limits room (broken k m) ≡ called (refusal k m) (broken k m)
unfolding call give sought budget
refused_again limits room k m = refl

-- behind "ended" nothing is left
pub ended_stays : (limits : Limits) (room : ℕ) (x : Stream) → (call limits room x).answer ≡ ended → (call limits room x).stream ≡ closing []
unfolding call
ended_stays limits room x e =
    let y = sought limits room (budget x) x in
    let h : Lasts ended (give y).stream = rw e at (give_lasts y) in
    h

-- and "ended" comes again
pub ended_again : (limits : Limits) (room : ℕ) → call limits room (closing []) ≡ called ended (closing [])
unfolding call give sought budget
ended_again limits room = refl

-- between calls

-- the stream y, behind calls from x that gave the tokens ts
pub data Comes (limits : Limits) (room : ℕ) (x : Stream) : List Token → Stream → Type 0 where
  here : Comes limits room x [] x
  then_call : {ts : List Token} {t : Token} {y z : Stream} → Comes limits room x ts y → call limits room y ≡ called (token t) z → Comes limits room x (ts ++ (t ∷ [])) z

-- all calls

-- a text that 01 accepts

-- a text that 01 refuses
