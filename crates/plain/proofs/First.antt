-- The first character of a plain scalar, and the scalar that is read.
use Prim.Native.Nat.{◌%◌, ◌*◌, ◌+◌, ◌-◌, ◌≤◌, suc, zero, ℕ}
use mathlib.Core.Bool.{Bool, ◌&&◌, false, true}
use mathlib.Core.List.{List, ◌∷◌}
use mathlib.Core.Path.{◌∙◌, ◌≡◌, ap, refl, sym}
use native.Mathlib.Omega.{arith}
use lib.Dec.{ltb}
use Rattle.std.proofs.Common.{Ok, Result}
use lib.ListN.{drop, get_or, length, take}
use lib.Seq.{length-take-le, sets}
use borrow.Author.Tests.{eqb-false}
use Rattle.yaml_text.specs.declared.Decoded.TheVariants.{Char, Ill}
use Rattle.yaml_text.specs.declared.Mark.{Mark}
use Rattle.yaml_text.specs.declared.Refusal.{Refusal}
use Rattle.yaml_text.specs.Class.{is_z, peek}
use Rattle.yaml_text.specs.Mark.{along}
use Rattle.yaml_text.specs.Refusal.{got}
use Rattle.yaml_text.specs.Test.{by_pick}
use Rattle.yaml_text.specs.Utf8.{by_len, char_if, chars, encode, four, is_scalar, is_tail, len_of, three, two}
use Rattle.yaml_text.specs.Utf8Laws.{first_at}
use Rattle.yaml_lexeme.specs.declared.Style.TheVariants.{Plain}
use Rattle.yaml_lexeme.specs.Plain.{plain_text, scan_plain_scalar}
use Rattle.chars.specs.declared.mark.Place.{Place}
use Rattle.chars.specs.Bytes.{CharAt, peek_char}
use Rattle.chars.specs.Parts.{Spans, part_join, part_more}
use Rattle.chars.specs.Places.{stands_along}
use Rattle.chars.specs.View.{Stands, past, view}
use Rattle.reading.specs.declared.Lexeme.{Lexeme}
use Rattle.reading.specs.Reading.{ReaderGiven, Lexes}
use Rattle.reading.specs.Reading as readings
use Rattle.reading.specs.Scalars.{scalar_at, scalar_got}

no_char : {A : Type 0} {c n : ℕ} → Ill ≡ Char c n → A
no_char e = let z : ◌≡◌ {A = ℕ} 0 1 = cc in absurd (omega arith)

len_if : (p : Bool) (v m c n : ℕ) → char_if p v m ≡ Char c n → n ≡ m
len_if true v m c n e = cc
len_if false v m c n e = no_char e

two_len : (a b v n : ℕ) → two a b ≡ Char v n → n ≡ 2
unfolding two
two_len a b v n e = let w = a % 32 * 64 + b % 64 in len_if (is_tail b && is_scalar 0x80 w) w 2 v n e

three_len : (a b c v n : ℕ) → three a b c ≡ Char v n → n ≡ 3
unfolding three
three_len a b c v n e = let w = a % 16 * 4096 + b % 64 * 64 + c % 64 in len_if (is_tail b && (is_tail c && is_scalar 0x800 w)) w 3 v n e

four_len : (a b c d v n : ℕ) → four a b c d ≡ Char v n → n ≡ 4
unfolding four
four_len a b c d v n e =
    let w = a % 8 * 262144 + b % 64 * 4096 + c % 64 * 64 + d % 64 in
    len_if (is_tail b && (is_tail c && (is_tail d && is_scalar 0x10000 w))) w 4 v n e

-- a character is as long as its first byte tells
len_by : (k a b c d v n : ℕ) → k ≤ 4 → by_len k a b c d ≡ Char v n → n ≡ k
unfolding by_len
len_by zero a b c d v n h e = let z : ◌≡◌ {A = ℕ} 0 1 = cc in absurd (omega arith)
len_by (suc zero) a b c d v n h e = cc
len_by (suc (suc zero)) a b c d v n h e = two_len a b v n e
len_by (suc (suc (suc zero))) a b c d v n h e = three_len a b c v n e
len_by (suc (suc (suc (suc k)))) a b c d v n h e = let l = four_len a b c d v n e in omega arith

len_few : (a : ℕ) → len_of a ≤ 4
unfolding len_of
len_few a =
    let P : ℕ → Type 0 = λ n. n ≤ 4 in
    by_pick P (ltb a 128) _ _ (omega arith) (by_pick P (ltb a 192) _ _ (omega arith) (by_pick P (ltb a 224) _ _ (omega arith)
    (by_pick P (ltb a 240) _ _ (omega arith) (by_pick P (ltb a 248) _ _ (omega arith) (omega arith)))))

char_lead : {s : List ℕ} {at c n : ℕ} → CharAt s at c n → n ≡ len_of (get_or s at 0)
char_lead {s} {at} {c} {n} a = len_by _ _ _ _ _ c n (len_few _) (sym (first_at s at (omega (arith, a.within, a.some))) ∙ a.is)

pub first_char : (s : List ℕ) → is_z (peek (chars s) 0) ≡ false → (b n : ℕ) → b ≡ get_or s 0 0 → n ≡ len_of b → CharAt s 0 (peek (chars s) 0) n
unfolding is_z
first_char s h b n e f =
    let z = eqb-false (peek (chars s) 0) 0 h in
    let a = peek_char s 0 (peek (chars s) 0) refl (omega arith) in
    let k = char_lead a in
    rw (f, e, ← k) a

-- the scalar from its first character of n bytes to the place e
module _ (flow : Bool) {text : List ℕ} {used : ℕ} {start : Mark} {c n : ℕ} (g : ReaderGiven text start used) (a : CharAt text 0 c n) where
  abbrev behind_first : Place
  behind_first = past (readings.first_at start) n (along start)

  pub first_stands : Stands text behind_first
  first_stands = stands_along g.stands n 1 a.some a.within

  pub plain_got : {before after : List ℕ} {e : Place} {r : Result Lexeme Refusal}
      → Spans text behind_first e (plain_text flow false (along start) (chars (drop (0 + n) text))) → after ≡ sets before 0 (take e.at text)
      → r ≡ Ok (scalar_at Plain used e.at start e) → Lexes text before after used r (got (scan_plain_scalar flow (view text (readings.first_at start))))
  unfolding scan_plain_scalar encode
  plain_got {before} {after} {e} {r} k b f =
      let d = plain_text flow false (along start) (chars (drop (0 + n) text)) in
      let z : e.at - 0 ≡ e.at = omega arith in
      let h : 0 + n ≤ e.at = k.moves.onward in
      let w : encode (c ∷ d.text) ≡ take e.at text =
      sym (rw z at (part_join text 0 (0 + n) e.at (omega arith) h) ∙ rw (part_more text 0 (omega arith) a, ← k.bytes)) in
      let l : length (encode (c ∷ d.text)) ≡ e.at = ap length w ∙ length-take-le e.at text k.moves.stands.within in
      rw a.next
      (scalar_got k.moves.same k.moves.stands (omega (arith, a.some)) l (omega (arith, g.stands, k.moves.stands)) (omega arith) (b ∙ rw w) f)
