-- Bytes in hexadecimal.
use Rattle.std.specs.Prelude.{◌*◌, ◌+◌, ◌-◌, ◌<◌, ◌≤◌, min, ℕ, ◌&&◌, None, Option, Some, List, [], ◌∷◌, ◌≡◌, leb, ltb, drop, length, take}
use Rattle.std.proofs.Common.{◌∙◌, ap, sym, arith, take-append-drop, length-take-le, take_all, take-take, le-ltb, lt-ltb, ltb-false, ltb-true}
use Rattle.std.proofs.lemmas.List.Edits.{sets, sets-eq}
use Rattle.std.proofs.lemmas.List.{take-append-le}
use Rattle.yaml_text.specs.Pick.{pick}
use Rattle.yaml_text.specs.Test.{by_test}
use Rattle.rooms.specs.Room.{sets_join, take_sets}

-- the value of a digit, 0 to 9 and a to f; 16 for any other byte
unfoldable pub hex_value : ℕ → ℕ
hex_value b = pick (leb 48 b && leb b 57) (b - 48) (pick (leb 97 b && leb b 102) (b - 87) 16)

-- a byte for every two digits, up to what is none
unfoldable pub hex_bytes : List ℕ → List ℕ
hex_bytes [] = []
hex_bytes (a ∷ []) = []
hex_bytes (a ∷ b ∷ l) = pick (ltb (hex_value a) 16 && ltb (hex_value b) 16) ((hex_value a * 16 + hex_value b) ∷ hex_bytes l) []

-- as the code has them: no value where there is no digit
abbrev pub DigitOf : ℕ → Option ℕ → Type 0
DigitOf b None = hex_value b ≡ 16
DigitOf b (Some d) = (hex_value b ≡ d) × (d < 16)

-- the value of two digits
abbrev pub ByteOf : ℕ → ℕ → Option ℕ → Type 0
ByteOf a b None = (l : List ℕ) → hex_bytes (a ∷ b ∷ l) ≡ []
ByteOf a b (Some n) = (l : List ℕ) → hex_bytes (a ∷ b ∷ l) ≡ n ∷ hex_bytes l

-- the bytes that a line begins with were stored, as far as there is room, and r of them were
pub record ReadHex (line before after : List ℕ) (r : ℕ) : Type 0 where
  pub stored : after ≡ sets before 0 (hex_bytes line)
  pub count : r ≡ min (length (hex_bytes line)) (length before)

pub hex_pair : (a b : ℕ) (l : List ℕ) → hex_value a ≤ 15 → hex_value b ≤ 15 → hex_bytes (a ∷ b ∷ l) ≡ (hex_value a * 16 + hex_value b) ∷ hex_bytes l
unfolding hex_bytes
hex_pair a b l h g = rw (lt-ltb (hex_value a) 16 (omega arith), lt-ltb (hex_value b) 16 (omega arith))

pub hex_no_high : (a b : ℕ) (l : List ℕ) → 15 < hex_value a → hex_bytes (a ∷ b ∷ l) ≡ []
unfolding hex_bytes
hex_no_high a b l h = rw (le-ltb (hex_value a) 16 h)

pub hex_no_low : (a b : ℕ) (l : List ℕ) → hex_value a ≤ 15 → 15 < hex_value b → hex_bytes (a ∷ b ∷ l) ≡ []
unfolding hex_bytes
hex_no_low a b l h g = rw (lt-ltb (hex_value a) 16 (omega arith), le-ltb (hex_value b) 16 g)

-- what was read of a line: the bytes that it begins with, as many as there is room for
first_stored : (t l : List ℕ) (k : ℕ) → k ≤ length t → k ≤ length l → take k (sets l 0 t) ≡ take k t
first_stored t l k h g =
    let n = length-take-le k t h in
    let s = rw take-append-drop at (sets_join (take k t) (drop k t) l 0) in
    let p = take_sets (drop k t) (sets l 0 (take k t)) k (0 + length (take k t)) (omega arith) in
    let q = sets-eq (take k t) l 0 (omega arith) in
    let m = take-append-le k (take k t) (drop (0 + length (take k t)) l) (omega arith) in
    ap (take k) (sym s) ∙ p ∙ ap (take k) q ∙ m ∙ take-take k k t (omega arith)

first_fits : (t : List ℕ) (m k : ℕ) → k ≡ min (length t) m → take k t ≡ take m t
first_fits t m k e =
    by_test (ltb (length t) m)
    (λ f. let h = ltb-true (length t) m f in take_all k t (omega arith) ∙ sym (take_all m t (omega arith)))
    (λ f. let h = ltb-false (length t) m f in let g : k ≡ m = omega arith in rw g)

pub read_text : (line before after : List ℕ) (r : ℕ) → ReadHex line before after r → take r after ≡ take (length before) (hex_bytes line)
read_text line before after r w =
    let e = w.count in
    ap (take r) w.stored ∙ first_stored (hex_bytes line) before r (omega arith) (omega arith) ∙ first_fits (hex_bytes line) (length before) r e
