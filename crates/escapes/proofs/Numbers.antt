-- Numbers in hexadecimal digits, digit by digit.
use Rattle.std.specs.Prelude.{Some, None}
use Prim.Native.Nat.{◌*◌, ◌+◌, ◌-◌, ◌<◌, ◌^◌, ◌≤◌, suc, ℕ}
use mathlib.Core.Bool.{Bool, ◌||◌, false, not, true}
use mathlib.Core.List.{List, ◌∷◌}
use mathlib.Core.Path.{◌∙◌, ◌≡◌}
use native.Mathlib.Nat.{pow-le-pow_right, pow-suc}
use native.Mathlib.Numerals.{add-one}
use native.Mathlib.Omega.{arith}
use lib.Dec.{T, ltb, ltb→lt}
use lib.ListN.{drop, get_or}
use Rattle.yaml_text.specs.declared.Mark.{Mark}
use Rattle.yaml_text.specs.Class.{as_hex, is_digit, is_hex, peek}
use Rattle.yaml_text.specs.Refusal.{refused}
use Rattle.yaml_text.specs.Utf8.{chars}
use Rattle.yaml_lexeme.specs.Escape.{hex_number}
use Rattle.utf8.proofs.Below.{all_below, below}
use Rattle.chars.specs.Ascii.{ascii_low, hex_ascii}
use Rattle.chars.specs.Bytes.{ascii_at, ascii_char}
use Rattle.chars.specs.Reach.{Reach, none, reach_one, reach_then}
use Rattle.escapes.specs.Parts.{NumberAt}

abbrev fits : ℕ → Bool
fits c = not (is_hex c) || ltb (as_hex c) 16

all_fit : T (all_below 128 fits)
unfolding is_hex is_digit as_hex
all_fit = tt

-- the value of a digit
pub digit_value : (c : ℕ) → is_hex c ≡ true → as_hex c < 16
digit_value c e =
    let t = below 128 fits all_fit c (ascii_low hex_ascii c e).1 in
    ltb→lt (as_hex c) 16 (rw e at t)

module _ (start : Mark) (n v : ℕ) (cs : List ℕ) where
  pub digit_more : is_hex (peek cs 0) ≡ true → hex_number start (suc n) v cs ≡ hex_number start n (v * 16 + as_hex (peek cs 0)) (drop 1 cs)
  unfolding hex_number
  digit_more e = rw (e, hex_number)

  pub digit_none : is_hex (peek cs 0) ≡ false → hex_number start (suc n) v cs ≡ refused 38 start
  unfolding hex_number
  digit_none e = rw (e, hex_number)

-- The number of n digits of the text, as it goes on with the value v after i of them: what is left gives the whole.
pub record Reading (text : List ℕ) (at n v i : ℕ) : Type 0 where
  pub small : v < 16 ^ i
  pub read : Reach text at i (at + i)
  pub whole : (start : Mark) → hex_number start n 0 (chars (drop at text)) ≡ hex_number start (n - i) v (chars (drop (at + i) text))

pub reading_start : (text : List ℕ) (at n : ℕ) → Reading text at n 0 0
reading_start text at n =
    let e : at + 0 ≡ at = omega arith in
    let z : n - 0 ≡ n = omega arith in
    record { small = omega arith; read = rw e none; whole = λ start. rw (e, z) }

-- a digit more
module _ {text : List ℕ} {at n v i : ℕ} (w : Reading text at n v i) (h : i < n) where
  -- no value of eight digits wraps
  pub reading_room : n ≤ 8 → v * 16 + 16 ≤ 2 ^ 32
  reading_room k =
      let m : suc i ≤ 8 = omega arith in
      let p = pow-le-pow_right {n = 16} (omega arith) m in
      let q = pow-suc 16 i in
      omega (arith, w.small)

  left : n - i ≡ suc (n - (i + 1))
  left = omega arith

  pub reading_more : {c r : ℕ} → c ≡ get_or text (at + i) 0 → is_hex c ≡ true → r ≡ as_hex c → Reading text at n (v * 16 + r) (i + 1)
  reading_more {c} e f g =
      let d = ascii_char text (at + i) c e hex_ascii f in
      let q = pow-suc 16 i in
      let k = digit_value c f in
      let s : at + (i + 1) ≡ at + i + 1 = omega arith in
      record {
        small = rw add-one (omega (arith, w.small));
        read = rw s (reach_then w.read (reach_one d));
        whole = λ start. w.whole start ∙ rw (left, d.next, s, g) (digit_more start (n - (i + 1)) v (c ∷ chars (drop (at + i + 1) text)) f);
      }

  pub reading_stop : {c : ℕ} → c ≡ get_or text (at + i) 0 → is_hex c ≡ false → NumberAt text at n None
  reading_stop {c} e f =
      record {
        same = λ start. w.whole start
            ∙ rw left (digit_none start (n - (i + 1)) v (chars (drop (at + i) text)) (ascii_at text (at + i) c e hex_ascii ∙ f));
        found = tt;
      }

pub reading_done : {text : List ℕ} {at n v i : ℕ} → Reading text at n v i → i ≤ n → n ≤ i → NumberAt text at n (Some v)
unfolding hex_number
reading_done {n = n} {i = i} w k h =
    let e : i ≡ n = omega arith in
    let z : n - n ≡ 0 = omega arith in
    let u = rw e at w in
    record { same = λ start. u.whole start ∙ rw z; found = (u.small, u.read) }
