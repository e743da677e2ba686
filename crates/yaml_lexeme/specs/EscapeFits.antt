-- An escape takes a character or more behind its first one, and they are there.
use Rattle.std.specs.Prelude.{◌%◌, ◌*◌, ◌+◌, ◌-◌, ◌≤◌, suc, zero, ℕ, Bool, ◌&&◌, false, true, List, ◌∷◌, ◌≡◌, refl, eqb, drop, get_or, length}
use Rattle.std.proofs.Common.{arith, length-drop, ltb-true}
use Rattle.yaml_text.specs.declared.Decoded.{Decoded}
use Rattle.yaml_text.specs.declared.Decoded.TheVariants.{Char, End, Ill}
use Rattle.yaml_text.specs.declared.Mark.{Mark}
use Rattle.yaml_text.specs.Char.{'%'}
use Rattle.yaml_text.specs.Utf8.{by_len, char_if, first, four, is_scalar, is_tail, len_of, three, two}
use Rattle.yaml_text.specs.Class.{is_digit, is_hex, peek}
use Rattle.yaml_text.specs.Test.{both_true, on_pick}
use Rattle.yaml_text.specs.All.{All, all_bind, all_need, all_test, holds, not_read}
use Rattle.yaml_text.specs.PlaceLaws.{there}
use Rattle.yaml_lexeme.specs.Escape.{Escaped}
use Rattle.yaml_lexeme.specs.Tag.{code_point, octet, percent, trailing}

abbrev pub Took : ℕ → Escaped → Type 0
Took n e = (1 ≤ e.took) × (e.took ≤ n)

octet_there : (start : Mark) (cs : List ℕ) → All ℕ (λ _. 3 ≤ length cs) (octet start cs)
unfolding octet is_hex is_digit
octet_there start cs =
    on_pick (All ℕ (λ _. 3 ≤ length cs)) (eqb (peek cs 0) '%' && is_hex (peek cs 1) && is_hex (peek cs 2))
    (λ e. holds (there is_hex cs 2 refl (both_true (eqb (peek cs 0) '%' && is_hex (peek cs 1)) (is_hex (peek cs 2)) e).1))
    (λ _. not_read)

trailing_there : (start : Mark) (n : ℕ) (cs : List ℕ) → All (List ℕ) (λ _. n * 3 ≤ length cs) (trailing start n cs)
unfolding trailing
trailing_there start zero cs = holds (omega arith)
trailing_there start (suc n) cs =
    all_bind _ (octet_there start cs)
    (λ b h. all_need _ 23 start _ (all_bind _ (trailing_there start n (drop 3 cs))
    (λ bs k. let i : suc n * 3 ≤ length cs = omega (arith, length-drop 3 cs) in holds i)))

code_point_fit : {n : ℕ} (start : Mark) (took : ℕ) (d : Decoded) → (1 ≤ took) × (took ≤ n) → All Escaped (Took n) (code_point start took d)
unfolding code_point
code_point_fit start took (Char c n) h = holds h
code_point_fit start took Ill h = not_read
code_point_fit start took End h = not_read

pub percent_fit : (start : Mark) (c : ℕ) (cs : List ℕ) → All Escaped (Took (length cs)) (percent start (c ∷ cs))
unfolding percent
percent_fit start c cs =
    all_bind _ (octet_there start (c ∷ cs))
    (λ a h. all_test _ 22 start _ (λ e. let k = ltb-true 0 (len_of a) e in
    all_bind _ (trailing_there start (len_of a - 1) (drop 3 (c ∷ cs)))
    (λ bs i. code_point_fit start (len_of a * 3 - 1) (first (a ∷ bs)) (omega (arith, length-drop 2 cs)))))

-- a percent escape has its lead octet, so `code_point` is never asked about an end

abbrev Begun : Decoded → Type 0
Begun (Char c n) = Unit {0}
Begun Ill = Unit {0}
Begun End = ⊥

begun_if : (t : Bool) (c n : ℕ) → Begun (char_if t c n)
begun_if true c n = tt
begun_if false c n = tt

begun_by : (n a b c d : ℕ) → Begun (by_len n a b c d)
unfolding by_len two three four
begun_by zero a b c d = tt
begun_by (suc zero) a b c d = tt
begun_by (suc (suc zero)) a b c d = let v = a % 32 * 64 + b % 64 in begun_if (is_tail b && is_scalar 0x80 v) v 2
begun_by (suc (suc (suc zero))) a b c d =
    let v = a % 16 * 4096 + b % 64 * 64 + c % 64 in begun_if (is_tail b && (is_tail c && is_scalar 0x800 v)) v 3
begun_by (suc (suc (suc (suc n)))) a b c d =
    let v = a % 8 * 262144 + b % 64 * 4096 + c % 64 * 64 + d % 64 in
    begun_if (is_tail b && (is_tail c && (is_tail d && is_scalar 0x10000 v))) v 4

pub lead_there : (a : ℕ) (bs : List ℕ) → first (a ∷ bs) ≡ End → ⊥
unfolding first
lead_there a bs e = rw e at (begun_by (len_of a) a (get_or bs 0 0) (get_or bs 1 0) (get_or bs 2 0))
