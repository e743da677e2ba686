-- A character is a code point.
use Rattle.std.specs.Prelude.{◌%◌, ◌*◌, ◌+◌, ◌<◌, suc, zero, ℕ, Bool, ◌&&◌, false, true, List, [], ◌∷◌, ◌≡◌, refl, ltb, get_or}
use Rattle.std.proofs.Math.Bool.{and-false}
use Rattle.std.proofs.Common.{◌∙◌, sym, arith, ltb-true}
use Rattle.yaml_text.specs.declared.Decoded.{Decoded}
use Rattle.yaml_text.specs.declared.Decoded.TheVariants.{Char, End, Ill}
use Rattle.yaml_text.specs.Test.{by_test, true_false}
use Rattle.utf8.proofs.Laws.{lone}
use Rattle.yaml_text.specs.Utf8.{by_len, char_if, first, four, is_scalar, is_tail, len_of, three, two}

abbrev CodePoint : Decoded → Type 0
CodePoint (Char c n) = c < 0x110000
CodePoint Ill = Unit {0}
CodePoint End = Unit {0}

small_if : (t : Bool) (c n : ℕ) → c < 0x110000 → CodePoint (char_if t c n)
small_if true c n h = h
small_if false c n h = tt

scalar_no : (lo c : ℕ) → ltb c 0x110000 ≡ false → is_scalar lo c ≡ false
unfolding is_scalar
scalar_no lo c e = rw (e, and-false, and-false)

pub scalar_small : (lo c : ℕ) → is_scalar lo c ≡ true → c < 0x110000
scalar_small lo c e = by_test (ltb c 0x110000) (ltb-true c 0x110000) (λ f. true_false (sym e ∙ scalar_no lo c f))

small_four : (a b c d : ℕ) → CodePoint (four a b c d)
unfolding four
small_four a b c d =
    let v = a % 8 * 262144 + b % 64 * 4096 + c % 64 * 64 + d % 64 in
    by_test (ltb v 0x110000)
    (λ e. small_if (is_tail b && (is_tail c && (is_tail d && is_scalar 0x10000 v))) v 4 (ltb-true v 0x110000 e))
    (λ e. rw (scalar_no 0x10000 v e, and-false, and-false, and-false) tt)

small_by : (k a b c d : ℕ) → (k ≡ 1 → a < 128) → CodePoint (by_len k a b c d)
unfolding by_len two three
small_by zero a b c d h = tt
small_by (suc zero) a b c d h = let l = h refl in omega arith
small_by (suc (suc zero)) a b c d h =
    let v = a % 32 * 64 + b % 64 in small_if (is_tail b && is_scalar 0x80 v) v 2 (omega arith)
small_by (suc (suc (suc zero))) a b c d h =
    let v = a % 16 * 4096 + b % 64 * 64 + c % 64 in small_if (is_tail b && (is_tail c && is_scalar 0x800 v)) v 3 (omega arith)
small_by (suc (suc (suc (suc k)))) a b c d h = small_four a b c d

first_small : (l : List ℕ) → CodePoint (first l)
unfolding first
first_small [] = tt
first_small (a ∷ t) = small_by (len_of a) a (get_or t 0 0) (get_or t 1 0) (get_or t 2 0) (lone a)

pub char_small : (l : List ℕ) (c n : ℕ) → first l ≡ Char c n → c < 0x110000
char_small l c n e = rw e at (first_small l)
