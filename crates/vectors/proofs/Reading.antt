-- Reading bytes in hexadecimal: what is left of the line gives the whole.
use Prim.Native.Nat.{◌*◌, ◌+◌, ◌<◌, ◌≤◌, suc, ℕ}
use mathlib.Core.List.{List, [], ◌∷◌}
use mathlib.Core.Path.{◌∙◌, ◌≡◌, ap, refl, sym}
use native.Mathlib.Omega.{arith}
use Rattle.std.specs.Prelude.{None, Some}
use lib.ListN.{drop, get_or, length, length-drop, length-set, set}
use lib.Seq.{drop-cons, sets}
use Rattle.rooms.specs.Room.{sets_out}
use Rattle.vectors.specs.Hex.{ByteOf, ReadHex, hex_bytes}

pub record Reading (line before out : List ℕ) (n : ℕ) : Type 0 where
  pub same : length out ≡ length before
  pub within : n ≤ length before
  pub stored : sets before 0 (hex_bytes line) ≡ sets out n (hex_bytes (drop (2 * n) line))
  pub count : length (hex_bytes line) ≡ n + length (hex_bytes (drop (2 * n) line))

pub reading_starts : (line before : List ℕ) → Reading line before before 0
reading_starts line before = record { same = refl; within = omega arith; stored = refl; count = omega arith }

two_more : (l : List ℕ) (i : ℕ) → i + 2 ≤ length l → drop i l ≡ get_or l i 0 ∷ (get_or l (i + 1) 0 ∷ drop (i + 2) l)
two_more l i h =
    let e : i + 1 ≡ suc i = omega arith in
    let f : i + 2 ≡ suc (suc i) = omega arith in
    rw (e, f, drop-cons l i 0 (omega arith), drop-cons l (suc i) 0 (omega arith))

none_short : (l : List ℕ) → length l < 2 → hex_bytes l ≡ []
unfolding hex_bytes
none_short [] h = refl
none_short (a ∷ []) h = refl
none_short (a ∷ b ∷ l) h = absurd (omega arith)

module _ {line before out : List ℕ} {n : ℕ} (w : Reading line before out n) where
  -- the room ends
  pub reading_full : length out ≤ n → ReadHex line before out n
  reading_full h =
      let s = sets_out (hex_bytes (drop (2 * n) line)) out n h in
      let e = w.same in
      let f = w.count in
      let g = w.within in
      record { stored = sym (w.stored ∙ s); count = omega arith }

  -- the digits end
  reading_ends : hex_bytes (drop (2 * n) line) ≡ [] → ReadHex line before out n
  reading_ends e =
      let s = rw e at w.stored in
      let f = rw e at w.count in
      let g = w.within in
      record { stored = sym s; count = omega arith }

  pub reading_short : length line < 2 * n + 2 → ReadHex line before out n
  reading_short h = reading_ends (none_short (drop (2 * n) line) (simp length-drop (omega arith)))

  module _ (some : 2 * n + 2 ≤ length line) where
    two : hex_bytes (drop (2 * n) line) ≡ hex_bytes (get_or line (2 * n) 0 ∷ (get_or line (2 * n + 1) 0 ∷ drop (2 * n + 2) line))
    two = ap hex_bytes (two_more line (2 * n) some)

    pub reading_none : ByteOf (get_or line (2 * n) 0) (get_or line (2 * n + 1) 0) None → ReadHex line before out n
    reading_none h = reading_ends (two ∙ h (drop (2 * n + 2) line))

    pub reading_more : (b : ℕ) → ByteOf (get_or line (2 * n) 0) (get_or line (2 * n + 1) 0) (Some b) → n < length out → Reading line before (set out n b) (n + 1)
    reading_more b h k =
        let e : 2 * n + 2 ≡ 2 * (n + 1) = omega arith in
        let d : hex_bytes (drop (2 * n) line) ≡ b ∷ hex_bytes (drop (2 * (n + 1)) line) = two ∙ rw (← e) (h (drop (2 * n + 2) line)) in
        let s : n + 1 ≡ suc n = omega arith in
        let f = ap length d in
        let i = w.count in
        let j = w.same in
        record { same = length-set out n b ∙ w.same; within = omega arith; stored = w.stored ∙ rw (d, s); count = omega arith }
