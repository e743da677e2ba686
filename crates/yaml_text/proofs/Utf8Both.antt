-- Theorems about specs/Utf8Both, and what rests on them.
use Rattle.std.specs.Prelude.{◌%◌, ◌*◌, ◌+◌, ◌/◌, ◌<◌, ◌≤◌, suc, zero, ℕ, true, List, [], ◌++◌, ◌∷◌, ◌≡◌, refl, ltb, drop, length, take}
use Rattle.std.proofs.Common.{◌∙◌, ap, arith, take-add, le-leb, le-ltb, lt-ltb, ltb-false, ltb-true}
use Rattle.std.proofs.Math.Seq.{drop-append_seam, take-length}
use Rattle.yaml_text.specs.declared.Decoded.{Decoded}
use Rattle.yaml_text.specs.declared.Decoded.TheVariants.{Char, End, Ill}
use Rattle.yaml_text.specs.Utf8.{by_len, char_bytes, chars, chars_after, encode, first, four, is_scalar, is_tail, len_of, more, three, two}
use Rattle.yaml_text.specs.Test.{by_test}
use Rattle.yaml_text.specs.Utf8Laws.{good, good_after, good_step, scalar_inv}
use Rattle.yaml_text.proofs.Utf8Laws.{chars_next, first_bytes, first_fits}
use Rattle.yaml_text.specs.ByteLaws.{first_ascii}
use Rattle.yaml_text.specs.Utf8Both.{Scalars}

scalar_from : (lo c : ℕ) → is_scalar 0 c ≡ true → lo ≤ c → is_scalar lo c ≡ true
unfolding is_scalar
scalar_from lo c e h = rw (le-leb lo c h) (rw (le-leb 0 c (omega arith)) at e)

tail_is : (b : ℕ) → 128 ≤ b → b < 192 → is_tail b ≡ true
unfolding is_tail
tail_is b h k = rw (le-leb 128 b h, lt-ltb b 192 k)

two_is : (a b c : ℕ) (l : List ℕ) → 192 ≤ a → a < 224 → is_tail b ≡ true → a % 32 * 64 + b % 64 ≡ c → is_scalar 0x80 c ≡ true
    → first (a ∷ b ∷ l) ≡ Char c 2
unfolding first len_of by_len two
two_is a b c l h k t e s =
    let i : 128 ≤ a = omega arith in
    rw (le-ltb a 128 i, le-ltb a 192 h, lt-ltb a 224 k, t, e, s)

three_is : (a b b' c : ℕ) (l : List ℕ) → 224 ≤ a → a < 240 → is_tail b ≡ true → is_tail b' ≡ true → a % 16 * 4096 + b % 64 * 64 + b' % 64 ≡ c
    → is_scalar 0x800 c ≡ true → first (a ∷ b ∷ b' ∷ l) ≡ Char c 3
unfolding first len_of by_len three
three_is a b b' c l h k t t' e s =
    let i : 128 ≤ a = omega arith in
    let j : 192 ≤ a = omega arith in
    rw (le-ltb a 128 i, le-ltb a 192 j, le-ltb a 224 h, lt-ltb a 240 k, t, t', e, s)

four_is : (a b b' b'' c : ℕ) (l : List ℕ) → 240 ≤ a → a < 248 → is_tail b ≡ true → is_tail b' ≡ true → is_tail b'' ≡ true
    → a % 8 * 262144 + b % 64 * 4096 + b' % 64 * 64 + b'' % 64 ≡ c → is_scalar 0x10000 c ≡ true → first (a ∷ b ∷ b' ∷ b'' ∷ l) ≡ Char c 4
unfolding first len_of by_len four
four_is a b b' b'' c l h k t t' t'' e s =
    let i : 128 ≤ a = omega arith in
    let j : 192 ≤ a = omega arith in
    let j' : 224 ≤ a = omega arith in
    rw (le-ltb a 128 i, le-ltb a 192 j, le-ltb a 224 j', le-ltb a 240 h, lt-ltb a 248 k, t, t', t'', e, s)

-- six bits behind a one
tail_of : (n : ℕ) → is_tail (128 + n % 64) ≡ true
tail_of n = tail_is (128 + n % 64) (omega arith) (omega arith)

-- six bits behind a one, taken out again
six : (n : ℕ) → (128 + n % 64) % 64 ≡ n % 64
six n = omega arith

by_sixes : (c : ℕ) → c / 64 ≡ c / 4096 * 64 + c / 64 % 64
by_sixes c = omega arith

by_twelves : (c : ℕ) → c / 4096 ≡ c / 262144 * 64 + c / 4096 % 64
by_twelves c = omega arith

lead_three_bits : (q : ℕ) → q < 8 → (240 + q) % 8 ≡ q
lead_three_bits q h = omega arith

from_four : (c : ℕ) → c < 0x110000
    → (240 + c / 262144) % 8 * 262144 + (128 + c / 4096 % 64) % 64 * 4096 + (128 + c / 64 % 64) % 64 * 64 + (128 + c % 64) % 64 ≡ c
from_four c h =
    let q : c / 262144 < 8 = omega arith in
    let e = by_sixes c in
    let f = by_twelves c in
    let g : c ≡ c / 64 * 64 + c % 64 = omega arith in
    rw (lead_three_bits (c / 262144) q, six (c / 4096), six (c / 64), six c) (omega arith)

pub read_back : (c : ℕ) (l : List ℕ) → is_scalar 0 c ≡ true → first (char_bytes c ++ l) ≡ Char c (length (char_bytes c))
unfolding char_bytes
read_back c l s =
    by_test (ltb c 0x80) (λ e. rw e (first_ascii c l (ltb-true c 0x80 e)))
    (λ e. by_test (ltb c 0x800)
    (λ f. let h = ltb-true c 0x800 f in
    rw (e, f) (two_is (192 + c / 64) (128 + c % 64) c l (omega arith) (omega arith) (tail_of c) (omega arith) (scalar_from 0x80 c s (ltb-false c 0x80 e))))
    (λ f. by_test (ltb c 0x10000)
    (λ g. let h = ltb-true c 0x10000 g in
    rw (e, f, g) (three_is (224 + c / 4096) (128 + c / 64 % 64) (128 + c % 64) c l (omega arith) (omega arith) (tail_of (c / 64)) (tail_of c) (omega arith)
    (scalar_from 0x800 c s (ltb-false c 0x800 f))))
    (λ g. let h = scalar_inv 0 c s in
    rw (e, f, g) (four_is (240 + c / 262144) (128 + c / 4096 % 64) (128 + c / 64 % 64) (128 + c % 64) c l (omega arith) (omega arith)
    (tail_of (c / 4096)) (tail_of (c / 64)) (tail_of c) (from_four c h.1) (scalar_from 0x10000 c s (ltb-false c 0x10000 g))))))

pub chars_encode : (cs : List ℕ) → Scalars cs → chars (encode cs) ≡ cs
unfolding encode chars_after
chars_encode [] h = refl
chars_encode (c ∷ cs) h =
    chars_next (char_bytes c ++ encode cs) c (length (char_bytes c)) (read_back c (encode cs) h.0)
    ∙ ap (λ (l : List ℕ). c ∷ l) (rw (drop-append_seam (char_bytes c) (encode cs)) (chars_encode cs h.1))

encode_step : (d : Decoded) (a : ℕ) (t : List ℕ) → first (a ∷ t) ≡ d → ((n : ℕ) → encode (chars_after n t) ≡ take (good_after n t) (drop n t))
    → encode (more d (λ n. chars_after n t)) ≡ take (good_step d (λ n. good_after n t)) (a ∷ t)
unfolding encode
encode_step (Char c zero) a t e f = let h = first_fits (a ∷ t) c zero e in absurd (omega arith)
encode_step (Char c (suc n)) a t e f =
    rw ((first_bytes (a ∷ t) c (suc n) e).0, f n, take-add (suc n) (good_after n t) (a ∷ t))
encode_step Ill a t e f = refl
encode_step End a t e f = refl

encode_after : (k : ℕ) (l : List ℕ) → encode (chars_after k l) ≡ take (good_after k l) (drop k l)
unfolding chars_after good_after encode
encode_after zero [] = refl
encode_after (suc k) [] = refl
encode_after zero (a ∷ t) = encode_step (first (a ∷ t)) a t refl (λ n. encode_after n t)
encode_after (suc k) (a ∷ t) = encode_after k t

-- up to the first place where no character begins
pub encode_chars_good : (l : List ℕ) → encode (chars l) ≡ take (good l) l
encode_chars_good l = encode_after 0 l

-- of a well-formed text all
pub encode_chars : (l : List ℕ) → good l ≡ length l → encode (chars l) ≡ l
encode_chars l e = encode_chars_good l ∙ rw (e, take-length l)
