-- Theorems about specs/Utf8Laws, and what rests on them.
use Rattle.std.specs.Prelude.{◌%◌, ◌*◌, ◌+◌, ◌<◌, ◌≤◌, min, suc, zero, ℕ, Bool, ◌&&◌, false, true, List, [], ◌∷◌, ◌≡◌, refl, leb, ltb, drop, get_or, length, take}
use Rattle.std.proofs.Common.{◌∙◌, ap, sym, arith, length-take, le-ltb, leb-true, lt-ltb, ltb-false, ltb-true}
use Rattle.yaml_text.specs.declared.Decoded.{Decoded}
use Rattle.yaml_text.specs.declared.Decoded.TheVariants.{Char, Ill}
use Rattle.yaml_text.specs.Test.{both_true, on_pick}
use Rattle.yaml_text.specs.Utf8.{by_len, char_bytes, char_if, chars, first, four, is_scalar, is_tail, len_of, three, two}
use Rattle.yaml_text.specs.Utf8Laws.{two_no, three_no, four_no, tail0, scalar_inv, bytes1, chars_char, good_step, good_after, good}

never : {A : Type 0} (c n : ℕ) → Ill ≡ Char c n → A
never c n e = let z : ◌≡◌ {A = ℕ} 0 1 = cc in absurd (omega arith)

char_inv : (p : Bool) (v m c n : ℕ) → char_if p v m ≡ Char c n → (p ≡ true) × (v ≡ c) × (m ≡ n)
char_inv true v m c n e = (refl, cc, cc)
char_inv false v m c n e = never c n e

tail_inv : (b : ℕ) → is_tail b ≡ true → (128 ≤ b) × (b < 192)
unfolding is_tail
tail_inv b e = let h = both_true (leb 128 b) (ltb b 192) e in (leb-true 128 b h.0, ltb-true b 192 h.1)

-- what the length says of the lead byte
abbrev Lead : ℕ → ℕ → Type 0
Lead a zero = Unit {0}
Lead a (suc zero) = a < 128
Lead a (suc (suc zero)) = (192 ≤ a) × (a < 224)
Lead a (suc (suc (suc zero))) = (224 ≤ a) × (a < 240)
Lead a (suc (suc (suc (suc n)))) = (240 ≤ a) × (a < 248)

lead : (a : ℕ) → Lead a (len_of a)
unfolding len_of
lead a =
    on_pick (Lead a) (ltb a 128) (λ e. ltb-true a 128 e) λ _.
    on_pick (Lead a) (ltb a 192) (λ _. tt) λ f.
    on_pick (Lead a) (ltb a 224) (λ e. (ltb-false a 192 f, ltb-true a 224 e)) λ g.
    on_pick (Lead a) (ltb a 240) (λ e. (ltb-false a 224 g, ltb-true a 240 e)) λ h.
    on_pick (Lead a) (ltb a 248) (λ e. (ltb-false a 240 h, ltb-true a 248 e)) λ _. tt

cons2 : {a b a' b' : ℕ} → a ≡ a' → b ≡ b' → a ∷ b ∷ [] ≡ a' ∷ b' ∷ []
cons2 p q = cc

cons3 : {a b c a' b' c' : ℕ} → a ≡ a' → b ≡ b' → c ≡ c' → a ∷ b ∷ c ∷ [] ≡ a' ∷ b' ∷ c' ∷ []
cons3 p q r = cc

cons4 : {a b c d a' b' c' d' : ℕ} → a ≡ a' → b ≡ b' → c ≡ c' → d ≡ d' → a ∷ b ∷ c ∷ d ∷ [] ≡ a' ∷ b' ∷ c' ∷ d' ∷ []
cons4 p q r s = cc

bytes2 : (a b c : ℕ) → 192 ≤ a → a < 224 → 128 ≤ b → b < 192 → a % 32 * 64 + b % 64 ≡ c → 0x80 ≤ c → char_bytes c ≡ a ∷ b ∷ []
unfolding char_bytes
bytes2 a b c h1 h2 h3 h4 e h5 =
    let u : c < 0x800 = omega arith in
    rw (le-ltb c 0x80 h5, lt-ltb c 0x800 u) (cons2 (omega arith) (omega arith))

bytes3 : (a b c v : ℕ) → 224 ≤ a → a < 240 → 128 ≤ b → b < 192 → 128 ≤ c → c < 192 → a % 16 * 4096 + b % 64 * 64 + c % 64 ≡ v → 0x800 ≤ v
    → char_bytes v ≡ a ∷ b ∷ c ∷ []
unfolding char_bytes
bytes3 a b c v h1 h2 h3 h4 h5 h6 e h7 =
    let u : v < 0x10000 = omega arith in
    let l : 0x80 ≤ v = omega arith in
    rw (le-ltb v 0x80 l, le-ltb v 0x800 h7, lt-ltb v 0x10000 u) (cons3 (omega arith) (omega arith) (omega arith))

bytes4 : (a b c d v : ℕ) → 240 ≤ a → a < 248 → 128 ≤ b → b < 192 → 128 ≤ c → c < 192 → 128 ≤ d → d < 192
    → a % 8 * 262144 + b % 64 * 4096 + c % 64 * 64 + d % 64 ≡ v → 0x10000 ≤ v → char_bytes v ≡ a ∷ b ∷ c ∷ d ∷ []
unfolding char_bytes
bytes4 a b c d v h1 h2 h3 h4 h5 h6 h7 h8 e h9 =
    let l : 0x80 ≤ v = omega arith in
    let m : 0x800 ≤ v = omega arith in
    rw (le-ltb v 0x80 l, le-ltb v 0x800 m, le-ltb v 0x10000 h9) (cons4 (omega arith) (omega arith) (omega arith) (omega arith))

two_inv : (a b c n : ℕ) → Lead a 2 → two a b ≡ Char c n → (n ≡ 2) × (char_bytes c ≡ a ∷ b ∷ [])
unfolding two
two_inv a b c n h e =
    let v = a % 32 * 64 + b % 64 in
    let i = char_inv (is_tail b && is_scalar 0x80 v) v 2 c n e in
    let j = both_true (is_tail b) (is_scalar 0x80 v) i.0 in
    let k = tail_inv b j.0 in
    let s = scalar_inv 0x80 v j.1 in
    (sym i.2, bytes2 a b c h.0 h.1 k.0 k.1 i.1 (rw i.1 at s.0))

three_inv : (a b c v n : ℕ) → Lead a 3 → three a b c ≡ Char v n → (n ≡ 3) × (char_bytes v ≡ a ∷ b ∷ c ∷ [])
unfolding three
three_inv a b c v n h e =
    let w = a % 16 * 4096 + b % 64 * 64 + c % 64 in
    let i = char_inv (is_tail b && (is_tail c && is_scalar 0x800 w)) w 3 v n e in
    let j = both_true (is_tail b) (is_tail c && is_scalar 0x800 w) i.0 in
    let j' = both_true (is_tail c) (is_scalar 0x800 w) j.1 in
    let k = tail_inv b j.0 in
    let k' = tail_inv c j'.0 in
    let s = scalar_inv 0x800 w j'.1 in
    (sym i.2, bytes3 a b c v h.0 h.1 k.0 k.1 k'.0 k'.1 i.1 (rw i.1 at s.0))

four_inv : (a b c d v n : ℕ) → Lead a 4 → four a b c d ≡ Char v n → (n ≡ 4) × (char_bytes v ≡ a ∷ b ∷ c ∷ d ∷ [])
unfolding four
four_inv a b c d v n h e =
    let w = a % 8 * 262144 + b % 64 * 4096 + c % 64 * 64 + d % 64 in
    let i = char_inv (is_tail b && (is_tail c && (is_tail d && is_scalar 0x10000 w))) w 4 v n e in
    let j = both_true (is_tail b) (is_tail c && (is_tail d && is_scalar 0x10000 w)) i.0 in
    let j' = both_true (is_tail c) (is_tail d && is_scalar 0x10000 w) j.1 in
    let j'' = both_true (is_tail d) (is_scalar 0x10000 w) j'.1 in
    let k = tail_inv b j.0 in
    let k' = tail_inv c j'.0 in
    let k'' = tail_inv d j''.0 in
    let s = scalar_inv 0x10000 w j''.1 in
    (sym i.2, bytes4 a b c d v h.0 h.1 k.0 k.1 k'.0 k'.1 k''.0 k''.1 i.1 (rw i.1 at s.0))

same_by : (k a : ℕ) (t : List ℕ) (c n : ℕ) → Lead a k → by_len k a (get_or t 0 0) (get_or t 1 0) (get_or t 2 0) ≡ Char c n
    → (char_bytes c ≡ take n (a ∷ t)) × (n ≡ length (char_bytes c))
unfolding by_len
same_by zero a t c n h e = never c n e
same_by (suc zero) a t c n h e =
    let p : 1 ≡ n = cc in
    let q : a ≡ c = cc in
    let r : char_bytes c ≡ a ∷ [] = rw (← q) (bytes1 a h) in
    (rw (r, ← p), rw r (sym p))
same_by (suc (suc zero)) a [] c n h e = never c n (sym (two_no a 0 tail0) ∙ e)
same_by (suc (suc zero)) a (b ∷ t) c n h e = let i = two_inv a b c n h e in (rw (i.1, i.0), rw i.1 i.0)
same_by (suc (suc (suc zero))) a [] c n h e = never c n (sym (three_no a 0 0 tail0) ∙ e)
same_by (suc (suc (suc zero))) a (b ∷ []) c n h e = never c n (sym (three_no a b 0 tail0) ∙ e)
same_by (suc (suc (suc zero))) a (b ∷ b' ∷ t) c n h e = let i = three_inv a b b' c n h e in (rw (i.1, i.0), rw i.1 i.0)
same_by (suc (suc (suc (suc k)))) a [] c n h e = never c n (sym (four_no a 0 0 0 tail0) ∙ e)
same_by (suc (suc (suc (suc k)))) a (b ∷ []) c n h e = never c n (sym (four_no a b 0 0 tail0) ∙ e)
same_by (suc (suc (suc (suc k)))) a (b ∷ b' ∷ []) c n h e = never c n (sym (four_no a b b' 0 tail0) ∙ e)
same_by (suc (suc (suc (suc k)))) a (b ∷ b' ∷ b'' ∷ t) c n h e = let i = four_inv a b b' b'' c n h e in (rw (i.1, i.0), rw i.1 i.0)

pub first_bytes : (l : List ℕ) (c n : ℕ) → first l ≡ Char c n → (char_bytes c ≡ take n l) × (n ≡ length (char_bytes c))
unfolding first
first_bytes [] c n e = let z : ◌≡◌ {A = ℕ} 0 1 = cc in absurd (omega arith)
first_bytes (a ∷ t) c n e = same_by (len_of a) a t c n (lead a) e

bytes_length : (c : ℕ) → (1 ≤ length (char_bytes c)) × (length (char_bytes c) ≤ 4)
unfolding char_bytes
bytes_length c =
    on_pick P (ltb c 0x80) (λ _. omega arith) λ _.
    on_pick P (ltb c 0x800) (λ _. omega arith) λ _.
    on_pick P (ltb c 0x10000) (λ _. omega arith) λ _. omega arith
  where
    P : List ℕ → Type 0
    P l = (1 ≤ length l) × (length l ≤ 4)

-- a character takes one to four bytes, and no more than there are
pub first_fits : (l : List ℕ) (c n : ℕ) → first l ≡ Char c n → (1 ≤ n) × (n ≤ 4) × (n ≤ length l)
first_fits l c n e =
    let b = first_bytes l c n e in
    let k = bytes_length c in
    let i : n ≡ min n (length l) = b.1 ∙ ap length b.0 ∙ length-take n l in
    omega arith

pub chars_next : (l : List ℕ) (c n : ℕ) → first l ≡ Char c n → chars l ≡ c ∷ chars (drop n l)
chars_next l c zero e = let h = first_fits l c zero e in absurd (omega arith)
chars_next l c (suc n) e = chars_char l c n e

good_drop : (k : ℕ) (l : List ℕ) → good_after k l ≡ good (drop k l)
unfolding good_after
good_drop zero l = refl
good_drop (suc k) [] = refl
good_drop (suc k) (a ∷ t) = good_drop k t

pub good_char : (l : List ℕ) (c n : ℕ) → first l ≡ Char c n → good l ≡ n + good (drop n l)
unfolding good_after first
good_char [] c n e = let z : ◌≡◌ {A = ℕ} 0 1 = cc in absurd (omega arith)
good_char (a ∷ t) c zero e = let h = first_fits (a ∷ t) c zero e in absurd (omega arith)
good_char (a ∷ t) c (suc n) e = ap (λ (d : Decoded). good_step d (λ m. good_after m t)) e ∙ ap (λ (m : ℕ). suc n + m) (good_drop n t)
