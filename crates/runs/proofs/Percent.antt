-- A percent escape that is read: its characters are of one byte each, and they are no fewer than the bytes of the character.
use Prim.Native.Nat.{◌*◌, ◌+◌, ◌-◌, ◌≤◌, suc, zero, ℕ}
use mathlib.Core.Bool.{◌&&◌, true}
use mathlib.Core.List.{List, [], ◌∷◌}
use mathlib.Core.Path.{◌∙◌, ◌≡◌, refl, sym}
use native.Mathlib.Omega.{arith}
use lib.Dec.{eqb}
use lib.ListN.{drop, get_or, length}
use borrow.Author.Tests.{ltb-true}
use Rattle.yaml_text.specs.declared.Decoded.{Decoded}
use Rattle.yaml_text.specs.declared.Decoded.TheVariants.{Char, End, Ill}
use Rattle.yaml_text.specs.declared.Mark.{Mark}
use Rattle.yaml_text.specs.All.{All, all_bind, all_test, holds, not_read}
use Rattle.yaml_text.specs.Char.{'%'}
use Rattle.yaml_text.specs.Class.{is_hex, peek}
use Rattle.yaml_text.specs.Test.{both_true, on_pick}
use Rattle.yaml_text.specs.Utf8.{char_bytes, chars, first, len_of}
use Rattle.yaml_text.proofs.Utf8Laws.{first_bytes, first_fits}
use Rattle.yaml_lexeme.specs.Escape.{Escaped}
use Rattle.yaml_lexeme.specs.Tag.{code_point, octet, percent, trailing}
use Rattle.chars.specs.Ascii.{Ascii, hex_ascii, one}
use Rattle.chars.specs.Bytes.{CharAt, ascii_at, ascii_char}
use Rattle.chars.specs.Reach.{Reach, more, none, reach_rest, reach_then}

-- an ASCII character that is seen
seen : (s : List ℕ) (at : ℕ) {p : ℕ → _} → Ascii p → p (peek (chars (drop at s)) 0) ≡ true → CharAt s at (get_or s at 0) 1
seen s at a e = ascii_char s at (get_or s at 0) refl a (sym (ascii_at s at (get_or s at 0) refl a) ∙ e)

octet_reach : (start : Mark) (s : List ℕ) (at : ℕ) → All ℕ (λ _. Reach s at 3 (at + 3)) (octet start (chars (drop at s)))
unfolding octet
octet_reach start s at =
    let cs = chars (drop at s) in
    on_pick (All ℕ (λ _. Reach s at 3 (at + 3))) (eqb (peek cs 0) '%' && is_hex (peek cs 1) && is_hex (peek cs 2))
    (λ e. let h = both_true (eqb (peek cs 0) '%' && is_hex (peek cs 1)) (is_hex (peek cs 2)) e in
    let g = both_true (eqb (peek cs 0) '%') (is_hex (peek cs 1)) h.0 in
    let a = seen s at (one '%' tt) g.0 in
    let b = seen s (at + 1) hex_ascii (rw a.next at g.1) in
    let c = seen s (at + 1 + 1) hex_ascii (rw (a.next, b.next) at h.1) in
    let k : at + 1 + 1 + 1 ≡ at + 3 = omega arith in
    holds (rw (← k) (more a (more b (more c none)))))
    (λ _. not_read)

trailing_reach : (start : Mark) (s : List ℕ) (n at : ℕ)
    → All (List ℕ) (λ bs. Reach s at (n * 3) (at + n * 3) × (length bs ≡ n)) (trailing start n (chars (drop at s)))
unfolding trailing
trailing_reach start s zero at = let e : at + 0 ≡ at = omega arith in holds {a = []} (rw e none, refl)
trailing_reach start s (suc n) at =
    all_bind _ (octet_reach start s at)
    (λ b r. all_test _ 23 start _ (λ _. all_bind _ (rw (reach_rest r) at (trailing_reach start s n (at + 3)))
    (λ bs h. let k : 3 + n * 3 ≡ suc n * 3 = omega arith in
    let l : at + 3 + n * 3 ≡ at + (3 + n * 3) = omega arith in
    holds {a = b ∷ bs} (rw (← k, ← l) (reach_then r h.0), omega (arith, h.1)))))

pub record EscapeRead (s : List ℕ) (at : ℕ) (e : Escaped) : Type 0 where
  pub reach : Reach s at (e.took + 1) (at + (e.took + 1))
  pub few : length (char_bytes e.char) ≤ e.took + 1

code_read : (start : Mark) (s : List ℕ) (at a : ℕ) (bs : List ℕ) (took : ℕ) (d : Decoded) → first (a ∷ bs) ≡ d
    → Reach s at (took + 1) (at + (took + 1)) → length bs ≤ took → All Escaped (EscapeRead s at) (code_point start took d)
unfolding code_point
code_read start s at a bs took (Char c n) e r h =
    let b = first_bytes (a ∷ bs) c n e in
    let f = first_fits (a ∷ bs) c n e in
    holds {a = record { char = c; took = took }} (record { reach = r; few = omega (arith, b.1, f.2) })
code_read start s at a bs took Ill e r h = not_read
code_read start s at a bs took End e r h = not_read

pub percent_read : (start : Mark) (s : List ℕ) (at : ℕ) → All Escaped (EscapeRead s at) (percent start (chars (drop at s)))
unfolding percent
percent_read start s at =
    all_bind _ (octet_reach start s at)
    (λ a r. all_test _ 22 start _ (λ t. let l = ltb-true 0 (len_of a) t in
    all_bind _ (rw (reach_rest r) at (trailing_reach start s (len_of a - 1) (at + 3)))
    (λ bs h. let k : 3 + (len_of a - 1) * 3 ≡ len_of a * 3 - 1 + 1 = omega arith in
    let e : at + 3 + (len_of a - 1) * 3 ≡ at + (3 + (len_of a - 1) * 3) = omega arith in
    code_read start s at a bs (len_of a * 3 - 1) (first (a ∷ bs)) refl (rw (← k, ← e) (reach_then r h.0)) (omega (arith, h.1)))))
