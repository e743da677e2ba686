-- Laws of UTF-8: what a loop over characters cites, and that a decoded character encodes to the bytes that it was read from.
use Rattle.std.specs.Prelude.{◌+◌, ◌<◌, ◌≤◌, pred, suc, zero, ℕ, Bool, ◌&&◌, ◌||◌, false, true, List, [], ◌++◌, ◌∷◌, ◌≡◌, refl, leb, ltb, drop, get_or, length}
use Rattle.std.proofs.Common.{append_assoc, ◌∙◌, ap, sym, arith, drop_of_length-le, drop-cons, get_or-drop, leb-true, lt-ltb, ltb-true}
use Rattle.yaml_text.specs.declared.Decoded.{Decoded}
use Rattle.yaml_text.specs.declared.Decoded.TheVariants.{Char, End, Ill}
use Rattle.yaml_text.specs.Test.{both_true}
use Rattle.yaml_text.specs.Utf8.{by_len, char_bytes, chars, chars_after, encode, first, four, is_scalar, is_tail, len_of, more, three, two}

-- the character at a place

pub first_past : (s : List ℕ) (at : ℕ) → length s ≤ at → first (drop at s) ≡ End
unfolding first
first_past s at h = rw drop_of_length-le

pub first_at : (s : List ℕ) (at : ℕ) → at < length s
    → first (drop at s) ≡ by_len (len_of (get_or s at 0)) (get_or s at 0) (get_or s (at + 1) 0) (get_or s (at + 2) 0) (get_or s (at + 3) 0)
unfolding first
first_at s at h =
    let e0 : suc at + 0 ≡ at + 1 = omega arith in
    let e1 : suc at + 1 ≡ at + 2 = omega arith in
    let e2 : suc at + 2 ≡ at + 3 = omega arith in
    rw (drop-cons s at 0, get_or-drop (suc at) s 0 0, get_or-drop (suc at) s 1 0, get_or-drop (suc at) s 2 0, e0, e1, e2)

pub by_len_four : (n a b c d : ℕ) → (n ≡ 0 → ⊥) → (n ≡ 1 → ⊥) → (n ≡ 2 → ⊥) → (n ≡ 3 → ⊥) → by_len n a b c d ≡ four a b c d
unfolding by_len
by_len_four zero a b c d h0 h1 h2 h3 = absurd (h0 refl)
by_len_four (suc zero) a b c d h0 h1 h2 h3 = absurd (h1 refl)
by_len_four (suc (suc zero)) a b c d h0 h1 h2 h3 = absurd (h2 refl)
by_len_four (suc (suc (suc zero))) a b c d h0 h1 h2 h3 = absurd (h3 refl)
by_len_four (suc (suc (suc (suc n)))) a b c d h0 h1 h2 h3 = refl

-- what is read as a character are its bytes

both_false : (p : Bool) → (p && false) ≡ false
both_false true = refl
both_false false = refl

pub two_no : (a b : ℕ) → is_tail b ≡ false → two a b ≡ Ill
unfolding two
two_no a b e = simp e

pub three_no : (a b c : ℕ) → is_tail c ≡ false → three a b c ≡ Ill
unfolding three
three_no a b c e = simp (e, both_false)

pub four_no : (a b c d : ℕ) → is_tail d ≡ false → four a b c d ≡ Ill
unfolding four
four_no a b c d e = simp (e, both_false)

pub tail0 : is_tail 0 ≡ false
unfolding is_tail
tail0 = refl

pub scalar_inv : (lo c : ℕ) → is_scalar lo c ≡ true → (lo ≤ c) × (c < 0x110000)
unfolding is_scalar
scalar_inv lo c e =
    let h = both_true (leb lo c) ((ltb c 0xd800 || ltb 0xdfff c) && ltb c 0x110000) e in
    (leb-true lo c h.0, ltb-true c 0x110000 (both_true (ltb c 0xd800 || ltb 0xdfff c) (ltb c 0x110000) h.1).1)

pub bytes1 : (c : ℕ) → c < 128 → char_bytes c ≡ c ∷ []
unfolding char_bytes
bytes1 c h = rw (lt-ltb c 0x80 h)

-- the characters of a list

pub after_drop : (k : ℕ) (l : List ℕ) → chars_after k l ≡ chars (drop k l)
unfolding chars_after
after_drop zero l = refl
after_drop (suc k) [] = refl
after_drop (suc k) (a ∷ t) = after_drop k t

-- a list that begins with the character c of n bytes
pub chars_char : (l : List ℕ) (c n : ℕ) → first l ≡ Char c (suc n) → chars l ≡ c ∷ chars (drop (suc n) l)
unfolding chars_after first
chars_char [] c n e = let z : ◌≡◌ {A = ℕ} 0 1 = cc in absurd (omega arith)
chars_char (a ∷ t) c n e = ap (λ (d : Decoded). more d (λ m. chars_after m t)) e ∙ ap (λ (m : List ℕ). c ∷ m) (after_drop n t)

pub chars_none : (l : List ℕ) → first l ≡ Ill → chars l ≡ []
unfolding chars_after first
chars_none [] e = refl
chars_none (a ∷ t) e = ap (λ (d : Decoded). more d (λ m. chars_after m t)) e

pub chars_end : (l : List ℕ) → first l ≡ End → chars l ≡ []
unfolding chars_after first
chars_end [] e = refl
chars_end (a ∷ t) e = ap (λ (d : Decoded). more d (λ m. chars_after m t)) e

-- how many bytes stand before the first place where no character begins; k bytes are passed over before the next one
abbrev pub good_step : Decoded → (ℕ → ℕ) → ℕ
good_step (Char c n) f = n + f (pred n)
good_step Ill f = 0
good_step End f = 0

unfoldable pub good_after : ℕ → List ℕ → ℕ
good_after k [] = 0
good_after zero (a ∷ t) = good_step (first (a ∷ t)) (λ n. good_after n t)
good_after (suc k) (a ∷ t) = good_after k t

abbrev pub good : List ℕ → ℕ
good l = good_after 0 l

pub good_none : (l : List ℕ) → first l ≡ Ill → good l ≡ 0
unfolding good_after first
good_none [] e = refl
good_none (a ∷ t) e = ap (λ (d : Decoded). good_step d (λ m. good_after m t)) e

pub good_end : (l : List ℕ) → first l ≡ End → good l ≡ 0
unfolding good_after first
good_end [] e = refl
good_end (a ∷ t) e = ap (λ (d : Decoded). good_step d (λ m. good_after m t)) e

pub encode_append : (s t : List ℕ) → encode (s ++ t) ≡ encode s ++ encode t
unfolding encode
encode_append [] t = refl
encode_append (c ∷ s) t = rw (encode_append s t) (sym (append_assoc (char_bytes c) (encode s) (encode t)))
