-- Theorems about specs/Changes, and what rests on them.
use Rattle.std.specs.Prelude.{◌≤◌, suc, ℕ, false, ◌≡◌, length}
use mathlib.Core.List.{List, [], ◌∷◌}
use Rattle.std.proofs.Common.{arith}
use Rattle.yaml_text.specs.Test.{by_test}
use Rattle.yaml_lexeme.specs.Token.{Token}
use Rattle.yaml_scan.specs.State.{State}
use Rattle.yaml_scan.specs.Slots.{Slot, flat, slot}
use Rattle.yaml_stream.specs.Stream.{Stream, broken, closing, first_of, give, possible, scanning}
use Rattle.yaml_stream.specs.Waits.{flat_length}

module _ (P : Stream → Type 0) where
  module _ (part : (s : State) (n used : ℕ) (b : Token) (bs : List Token) (t : Token) (xs : List Slot)
      → P (scanning s n (slot t (b ∷ bs) ∷ xs) used) → P (scanning s n (slot t bs ∷ xs) used))
      (own : (s : State) (n used : ℕ) (t : Token) (xs : List Slot) → possible n s.keys ≡ false → P (scanning s n (slot t [] ∷ xs) used) → P (scanning s (suc n) xs used))
      (last_part : (b : Token) (bs : List Token) (t : Token) (xs : List Slot) → P (closing (slot t (b ∷ bs) ∷ xs)) → P (closing (slot t bs ∷ xs)))
      (last_own : (t : Token) (xs : List Slot) → P (closing (slot t [] ∷ xs)) → P (closing xs)) where
    first_scanned : (s : State) (n : ℕ) (bs : List Token) (t : Token) (xs : List Slot) (used : ℕ) → possible n s.keys ≡ false → P (scanning s n (slot t bs ∷ xs) used)
        → P (first_of (λ k ys. scanning s k ys used) n bs t xs).stream
    unfolding first_of
    first_scanned s n [] t xs used e h = own s n used t xs e h
    first_scanned s n (b ∷ bs) t xs used e h = part s n used b bs t xs h

    first_closed : (bs : List Token) (t : Token) (xs : List Slot) → P (closing (slot t bs ∷ xs)) → P (first_of (λ _ ys. closing ys) 0 bs t xs).stream
    unfolding first_of
    first_closed [] t xs h = last_own t xs h
    first_closed (b ∷ bs) t xs h = last_part b bs t xs h

    pub give_by : (x : Stream) → P x → P (give x).stream
    unfolding give
    give_by (scanning s n [] used) h = h
    give_by (scanning s n (x ∷ xs) used) h =
        by_test (possible n s.keys) (λ e. rw (e, give) h) (λ e. rw (e, give) (first_scanned s n x.before x.token xs used e h))
    give_by (closing []) h = h
    give_by (closing (x ∷ xs)) h = first_closed x.before x.token xs h
    give_by (broken k m) h = h

  -- what holds while so many wait, and while fewer do
  pub give_fewer : ((s : State) (n k used : ℕ) (xs ys : List Slot) → length (flat ys) ≤ length (flat xs) → P (scanning s n xs used) → P (scanning s k ys used))
      → ((xs : List Slot) → P (closing xs)) → (x : Stream) → P x → P (give x).stream
  give_fewer f c x h =
      give_by
      (λ s n used b bs t xs k. f s n n used (slot t (b ∷ bs) ∷ xs) (slot t bs ∷ xs) (omega (arith, flat_length (slot t (b ∷ bs)) xs, flat_length (slot t bs) xs)) k)
      (λ s n used t xs e k. f s n (suc n) used (slot t [] ∷ xs) xs (omega (arith, flat_length (slot t []) xs)) k)
      (λ b bs t xs k. c (slot t bs ∷ xs)) (λ t xs k. c xs) x h
