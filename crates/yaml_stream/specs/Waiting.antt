-- In every stream that calls come to, at most 4,096 tokens wait before a scanning step; and where 51 is answered. (Behind a step: Tight.)
use Rattle.std.specs.Prelude.{◌+◌, ◌≤◌, suc, zero, ℕ, Bool, false, not, true, List, [], ◌++◌, ◌∷◌, ◌⊎◌, ◌≡◌, refl, length}
use Rattle.std.proofs.Common.{inl, ◌∙◌, ap, arith}
use Rattle.yaml_text.specs.declared.Mark.{Mark}
use Rattle.yaml_text.specs.Test.{by_test, true_false}
use Rattle.yaml_lexeme.specs.Token.{Token}
use Rattle.yaml_scan.specs.declared.Limits.{Limits}
use Rattle.yaml_scan.specs.State.{Event, State, put}
use Rattle.yaml_scan.specs.Slots.{Slot, flat, slot, slots}
use Rattle.yaml_scan.specs.Candidates.{Fall}
use Rattle.yaml_stream.specs.Stream.{Next, Stream, broken, budget, call, closing, ended, fresh, give, hear, most_waiting, on_answer, ready, refusal, scanning, sought, spent, stepped, token, waits}
use Rattle.yaml_stream.specs.Kept.{From}
use Rattle.yaml_stream.specs.Waits.{waits_append}
use Rattle.yaml_stream.specs.Changes.{fresh_by}
use Rattle.yaml_stream.specs.Answers.{refused_stays}
use Rattle.yaml_stream.specs.Depth.{depth}
use Rattle.yaml_stream.specs.Here.{Levelled}

-- the only token that may be a key is the last that waits, and nothing goes in before it yet
pub record OnlyLastKey (s : State) (n : ℕ) (xs : List Slot) : Type 0 where
  pub others : List Slot
  pub last : Token
  pub is : xs ≡ others ++ (slot last [] ∷ [])
  pub later : From (n + length others) s.keys

abbrev pub Few : State → ℕ → List Slot → Type 0
Few s n xs = (length (flat xs) ≤ most_waiting) ⊎ OnlyLastKey s n xs

pub record Held (limits : Limits) (s : State) (n : ℕ) (xs : List Slot) : Type 0 where
  pub from : From n s.keys
  pub counted : n + length xs ≡ s.count
  pub falls : Fall s.count s.keys
  pub shallow : depth s ≤ limits.entries
  pub levelled : Levelled s.keys s.levels
  pub few : Few s n xs

abbrev pub StreamKeeps : Limits → Stream → Type 0
StreamKeeps limits (scanning s n xs used) = Held limits s n xs
StreamKeeps limits (closing xs) = Unit {0}
StreamKeeps limits (broken k m) = Unit {0}

-- before a step

pub not_false : (b : Bool) → not b ≡ false → b ≡ true
not_false true e = refl
not_false false e = true_false e

-- a step

-- the last token of events is the last that waits, and nothing goes in before it yet
pub waits_then : (n : ℕ) (xs : List Slot) (es front : List Event) (last : Token) → es ≡ front ++ (put last ∷ []) → waits n xs es ≡ waits n xs front ++ (slot last [] ∷ [])
unfolding waits slots
waits_then n xs es front last e = ap (λ (fs : List Event). waits n xs fs) e ∙ waits_append n xs front (put last ∷ [])

-- a token is given

-- a fresh state
pub fresh_keeps : (limits : Limits) (bytes : List ℕ) (words : ℕ) → StreamKeeps limits (fresh limits bytes words)
unfolding flat
fresh_keeps limits bytes words =
    fresh_by (StreamKeeps limits) limits bytes words tt tt (λ k m. tt)
    (λ cs _. record { from = tt; counted = refl; falls = tt; shallow = omega arith; levelled = refl; few = inl (omega arith) })

-- the streams that calls come to, within them too: a step where the first waiting token is none yet, or a possible key; else a token is given
pub data StreamReaches (limits : Limits) (room : ℕ) (x : Stream) : Stream → Type 0 where
  here : StreamReaches limits room x x
  then_step : {y : Stream} → StreamReaches limits room x y → ready y ≡ false → StreamReaches limits room x (stepped limits room y)
  then_give : {y : Stream} → StreamReaches limits room x y → StreamReaches limits room x (give y).stream

-- what a step and a gift keep holds of all of them
pub reaches_by : (P : Stream → Type 0) (limits : Limits) (room : ℕ) {x y : Stream} → ((z : Stream) → P z → ready z ≡ false → P (stepped limits room z))
    → ((z : Stream) → P z → P (give z).stream) → P x → StreamReaches limits room x y → P y
reaches_by P limits room f g h here = h
reaches_by P limits room f g h (then_step {y = y} r e) = f y (reaches_by P limits room f g h r) e
reaches_by P limits room f g h (then_give {y = y} r) = g y (reaches_by P limits room f g h r)

-- a call is such steps and then a gift
pub sought_reaches : (limits : Limits) (room k : ℕ) {x : Stream} (y : Stream) → StreamReaches limits room x y → StreamReaches limits room x (sought limits room k y)
unfolding sought
sought_reaches limits room zero y r = r
sought_reaches limits room (suc k) y r =
    by_test (ready y) (λ e. rw (e, sought) r) (λ e. rw (e, sought) (sought_reaches limits room k (stepped limits room y) (then_step r e)))

pub call_reaches : (limits : Limits) (room : ℕ) {x : Stream} (y : Stream) → StreamReaches limits room x y → StreamReaches limits room x (call limits room y).stream
unfolding call
call_reaches limits room y r = then_give (sought_reaches limits room (budget y) y r)

-- a refusal heard is that of a stream that the calls come to
pub hear_breaks : (limits : Limits) (room k : ℕ) {w : Stream} (x : Stream) (n : ℕ) (m : Mark) → StreamReaches limits room w x → (hear limits room k x).last ≡ refusal n m
    → StreamReaches limits room w (broken n m)
unfolding hear
hear_breaks limits room zero x n m r e = let z : ◌≡◌ {A = ℕ} 0 1 = cc in absurd (omega arith)
hear_breaks limits room (suc k) {w} x n m r e =
    by_answer (call limits room x).answer refl (λ f. hear_breaks limits room k (call limits room x).stream n m (call_reaches limits room x r) f) e
  where
    by_answer : (a : Next) → (call limits room x).answer ≡ a → ((hear limits room k (call limits room x).stream).last ≡ refusal n m → StreamReaches limits room w (broken n m))
        → (on_answer a (call limits room x).stream (λ y. hear limits room k y)).last ≡ refusal n m → StreamReaches limits room w (broken n m)
    by_answer (token t) i h f = h f
    by_answer ended i h f = let z : ◌≡◌ {A = ℕ} 0 1 = cc in absurd (omega arith)
    by_answer (refusal j p) i h f = rw (refused_stays limits room x n m (i ∙ f)) at (call_reaches limits room x r)
    by_answer spent i h f = let z : ◌≡◌ {A = ℕ} 0 1 = cc in absurd (omega arith)
