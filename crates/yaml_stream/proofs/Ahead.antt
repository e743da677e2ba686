-- Theorems about specs/Ahead, and what rests on them.
use Prim.Native.Nat.{◌+◌, ◌<◌, ◌≤◌, suc, zero, ℕ}
use Rattle.std.specs.Prelude.{false, ◌≡◌, refl, drop, length, take}
use mathlib.Core.List.{List, [], ◌++◌, ◌∷◌}
use Rattle.std.proofs.Common.{◌∙◌}
use native.Mathlib.Omega.{arith}
use Rattle.yaml_lexeme.specs.Token.{Token}
use Rattle.yaml_scan.specs.declared.Limits.{Limits}
use Rattle.yaml_scan.specs.State.{State}
use Rattle.yaml_scan.specs.Slots.{Slot, flat, slot}
use Rattle.yaml_stream.specs.Stream.{Stream, call, closing, first_of, give, possible, ready, scanning}
use Rattle.yaml_stream.specs.Seeks.{call_here}
use Rattle.yaml_stream.specs.Ahead.{CallsGive, there, gives}

module _ (limits : Limits) (room : ℕ) where
  call_first : (s : State) (n : ℕ) (x : Slot) (xs : List Slot) (used : ℕ) → possible n s.keys ≡ false
      → call limits room (scanning s n (x ∷ xs) used) ≡ first_of (λ k ys. scanning s k ys used) n x.before x.token xs
  unfolding ready give
  call_first s n x xs used e = call_here limits room (scanning s n (x ∷ xs) used) (rw e) ∙ rw (e, give)

  slot_ahead : {z : Stream} {ts : List Token} (s : State) (n : ℕ) (bs : List Token) (t : Token) (xs : List Slot) (used : ℕ) → possible n s.keys ≡ false
      → CallsGive limits room (scanning s (suc n) xs used) ts z → CallsGive limits room (scanning s n (slot t bs ∷ xs) used) (bs ++ (t ∷ ts)) z
  unfolding first_of
  slot_ahead s n [] t xs used e a = gives (call_first s n (slot t []) xs used e) a
  slot_ahead s n (b ∷ bs) t xs used e a = gives (call_first s n (slot t (b ∷ bs)) xs used e) (slot_ahead s n bs t xs used e a)

  -- so many of them
  pub free_ahead : (s : State) (n k : ℕ) (xs : List Slot) (used : ℕ) → k ≤ length xs → ((i : ℕ) → i < n + k → possible i s.keys ≡ false)
      → CallsGive limits room (scanning s n xs used) (flat (take k xs)) (scanning s (n + k) (drop k xs) used)
  unfolding flat
  free_ahead s n zero xs used b h = let e : n + 0 ≡ n = omega arith in rw e there
  free_ahead s n (suc k) [] used b h = absurd (omega arith)
  free_ahead s n (suc k) (x ∷ xs) used b h =
      let e : n + suc k ≡ suc n + k = omega arith in
      slot_ahead s n x.before x.token xs used (h n (omega arith)) (rw e (free_ahead s (suc n) k xs used (omega arith) (λ i c. h i (omega arith))))

  slot_closes : {z : Stream} {ts : List Token} (bs : List Token) (t : Token) (xs : List Slot) → CallsGive limits room (closing xs) ts z
      → CallsGive limits room (closing (slot t bs ∷ xs)) (bs ++ (t ∷ ts)) z
  unfolding ready give first_of
  slot_closes [] t xs a = gives (call_here limits room (closing (slot t [] ∷ xs)) refl) a
  slot_closes (b ∷ bs) t xs a = gives (call_here limits room (closing (slot t (b ∷ bs) ∷ xs)) refl) (slot_closes bs t xs a)

  pub closing_ahead : (xs : List Slot) → CallsGive limits room (closing xs) (flat xs) (closing [])
  unfolding flat
  closing_ahead [] = there
  closing_ahead (x ∷ xs) = slot_closes x.before x.token xs (closing_ahead xs)
