-- Words that are held: a word between the stacks and the counts is no part of the state, so the state is read out as before.
use Prim.Native.Nat.{◌+◌, ◌<◌, ◌≤◌, ℕ}
use mathlib.Core.List.{List}
use mathlib.Core.Path.{◌≡◌}
use native.Mathlib.Omega.{arith}
use lib.ListN.{set}
use lib.Seq.{get_or-set_other, take-set-le}
use Rattle.yaml_scan.specs.declared.Limits.{Limits}
use Rattle.stacks.specs.Stack.{stack_words}
use Rattle.events.specs.declared.Counts.{Counts}
use Rattle.states.specs.declared.State.{State}
use Rattle.states.specs.State.{state_of}
use Rattle.driver.specs.Held.{counts_at, counts_held, seen_held, stacks_held, state_at, word}
use Rattle.driver.proofs.Words.{counts_same, state_same}

pub seen_by : (text : List ℕ) {a a' : List ℕ} {n n' : Counts} {s s' : State} → a ≡ a' → n ≡ n' → s ≡ s' → state_of text a n.count s ≡ state_of text a' n'.count s'
seen_by text e f g = rw (e, f, g)

-- the same state is read out of both
pub record SameSeen (limits : Limits) (text h h' : List ℕ) : Type 0 where
  pub seen : seen_held limits text h' ≡ seen_held limits text h
  pub counts : counts_held text h' ≡ counts_held text h

-- the stacks stay, and the words from the counts on
pub seen_same : (limits : Limits) (text h h' : List ℕ) → stacks_held h' ≡ stacks_held h → ((j : ℕ) → j < 12 → word h' (counts_at + j) ≡ word h (counts_at + j)) → SameSeen limits text h h'
seen_same limits text h h' e w =
    let s = state_same limits text h h' (λ j o. let i : counts_at + (3 + j) ≡ state_at + j = omega arith in rw i at (w (3 + j) (omega arith))) in
    let c = counts_same text h h' (w 3 (omega arith)) (λ j o. w j (omega arith)) in
    record { seen = seen_by text e c s; counts = c }

module _ (limits : Limits) (text h : List ℕ) where
  pub seen_set : (i v : ℕ) → stack_words ≤ i → i < counts_at → SameSeen limits text h (set h i v)
  seen_set i v a b =
      seen_same limits text h (set h i v) (take-set-le stack_words h i v a) (λ j o. get_or-set_other h i (counts_at + j) v 0 (λ e. omega arith))
