-- Theorems about specs/ByteLaws, and what rests on them.
use Rattle.std.specs.Prelude.{◌<◌, ◌≤◌, ℕ, Bool, false, List, [], ◌∷◌, ◌≡◌, refl, ltb, get_or, length, take}
use Rattle.std.proofs.Common.{◌∙◌, ap, sym, arith, ltb-false, ltb-true}
use Rattle.yaml_text.specs.declared.Decoded.{Decoded}
use Rattle.yaml_text.specs.declared.Decoded.TheVariants.{Char, End, Ill}
use Rattle.yaml_text.specs.Utf8.{char_bytes, chars, chars_after, first, more}
use Rattle.yaml_text.specs.Class.{peek}
use Rattle.yaml_text.specs.Test.{by_test}
use Rattle.yaml_text.specs.Utf8Laws.{bytes1}
use Rattle.yaml_text.proofs.Utf8Laws.{chars_next, first_bytes}
use Rattle.yaml_text.specs.ByteLaws.{first_ascii}

pub chars_ascii : (a : ℕ) (t : List ℕ) → a < 128 → chars (a ∷ t) ≡ a ∷ chars t
chars_ascii a t h = chars_next (a ∷ t) a 1 (first_ascii a t h)

one_taken : (a c n : ℕ) (t bs : List ℕ) → bs ≡ c ∷ [] → bs ≡ take n (a ∷ t) → n ≡ length bs → c ≡ a
one_taken a c n t bs e f g =
    let k : n ≡ 1 = rw e at g in
    let w : c ∷ [] ≡ a ∷ [] = sym e ∙ f ∙ rw k in
    ap (λ (l : List ℕ). get_or l 0 0) w

-- a character that begins with a byte from 128 up is no byte below 128
pub first_high : (a : ℕ) (t : List ℕ) (c n : ℕ) → 128 ≤ a → first (a ∷ t) ≡ Char c n → 128 ≤ c
first_high a t c n h e =
    by_test (ltb c 128)
    (λ f. let b = first_bytes (a ∷ t) c n e in
    let k = ltb-true c 128 f in
    let s = one_taken a c n t (char_bytes c) (bytes1 c k) b.0 b.1 in absurd (omega arith))
    (λ f. ltb-false c 128 f)

head_of : (p : ℕ → Bool) (d : Decoded) (f : ℕ → List ℕ) → ((c n : ℕ) → d ≡ Char c n → p c ≡ false) → p 0 ≡ false → p (peek (more d f) 0) ≡ false
head_of p (Char c n) f h z = h c n refl
head_of p Ill f h z = z
head_of p End f h z = z

-- a class that holds no character from 128 up, nor the end, tells the same of a text's first byte and of its first character
pub ascii_class : (p : ℕ → Bool) → ((c : ℕ) → 128 ≤ c → p c ≡ false) → p 0 ≡ false → (l : List ℕ) → p (peek (chars l) 0) ≡ p (get_or l 0 0)
unfolding chars_after
ascii_class p high z [] = refl
ascii_class p high z (a ∷ t) =
    by_test (ltb a 128)
    (λ e. ap (λ (l : List ℕ). p (peek l 0)) (chars_ascii a t (ltb-true a 128 e)))
    (λ e. let h = ltb-false a 128 e in
    head_of p (first (a ∷ t)) (λ n. chars_after n t) (λ c n f. high c (first_high a t c n h f)) z ∙ sym (high a h))
