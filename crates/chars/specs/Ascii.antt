-- Classes of ASCII characters: they hold neither the end nor a character from 128 up.
use Rattle.std.specs.Prelude.{◌<◌, ◌≤◌, ℕ, Bool, ◌&&◌, ◌||◌, false, not, true, List, [], ◌∷◌, ◌≡◌, refl, T, eqb, leb, ltb}
use Rattle.std.specs.Bool.{beq}
use Rattle.std.proofs.Math.Bool.{and-false}
use Rattle.std.proofs.Common.{◌∙◌, sym, arith, ltb→lt, ltb-false, ltb-true, ne_eqb}
use Rattle.std.proofs.Math.Facts.{and_yes}
use Rattle.std.proofs.lemmas.Bool.{lt-leb}
use Rattle.utf8.proofs.Below.{all_below, below}
use Rattle.yaml_text.specs.Class.{among, is_alpha, is_blank, is_break, is_digit, is_flow, is_hex, is_tag, is_uri, is_word}
use Rattle.yaml_text.specs.Test.{by_test, true_false}

pub record Ascii (p : ℕ → Bool) : Type 0 where
  pub end : p 0 ≡ false
  pub high : (c : ℕ) → 128 ≤ c → p c ≡ false

-- what such a class holds
pub ascii_low : {p : ℕ → Bool} → Ascii p → (c : ℕ) → p c ≡ true → (0 < c) × (c < 128)
ascii_low {p} a c e = (
  by_test (ltb 0 c) (ltb-true 0 c) (λ f. let z : c ≡ 0 = omega (arith, ltb-false 0 c f) in true_false (sym e ∙ rw z a.end)),
  by_test (ltb c 128) (ltb-true c 128) (λ f. true_false (sym e ∙ a.high c (ltb-false c 128 f))),
)

infixl 30 ◌or◌
pub ◌or◌ : {p q : ℕ → Bool} → Ascii p → Ascii q → Ascii (λ c. p c || q c)
a or b = record { end = rw a.end b.end; high = λ c h. rw (a.high c h) (b.high c h) }

pub but : {p : ℕ → Bool} (q : ℕ → Bool) → Ascii p → Ascii (λ c. p c && q c)
but q a = record { end = rw a.end; high = λ c h. rw (a.high c h) }

-- an ASCII character that is not NUL
abbrev pub low : ℕ → Bool
low k = ltb 0 k && ltb k 128

low_is : (k : ℕ) → T (low k) → (0 < k) × (k < 128)
low_is k t = let b = and_yes (ltb 0 k) (ltb k 128) t in (ltb→lt 0 k b.0, ltb→lt k 128 b.1)

pub range : (lo hi : ℕ) → T (low lo) → T (low hi) → Ascii (λ c. leb lo c && leb c hi)
range lo hi t u =
    let l = low_is lo t in
    let h = low_is hi u in
    record { end = rw (lt-leb lo 0 l.0); high = λ c e. rw (lt-leb c hi (omega arith)) (and-false (leb lo c)) }

pub just : (k : ℕ) → 0 < k → k < 128 → Ascii (λ c. eqb c k)
just k l h = record { end = ne_eqb 0 k (omega arith); high = λ c e. ne_eqb c k (omega arith) }

pub one : (k : ℕ) → T (low k) → Ascii (λ c. eqb c k)
one k t = let l = low_is k t in just k l.0 l.1

abbrev all_low : List ℕ → Bool
all_low [] = true
all_low (k ∷ ks) = low k && all_low ks

pub members : (ks : List ℕ) → T (all_low ks) → Ascii (λ c. among c ks)
unfolding among
members [] t = record { end = refl; high = λ c h. refl }
members (k ∷ ks) t = let b = and_yes (low k) (all_low ks) t in one k b.0 or members ks b.1

pub break_ascii : Ascii is_break
unfolding is_break
break_ascii = one 10 tt or one 13 tt

pub blank_ascii : Ascii is_blank
unfolding is_blank
blank_ascii = one 32 tt or one 9 tt

pub flow_ascii : Ascii is_flow
unfolding is_flow
flow_ascii = members _ tt

pub digit_ascii : Ascii is_digit
unfolding is_digit
digit_ascii = range 48 57 tt tt

pub hex_ascii : Ascii is_hex
unfolding is_hex
hex_ascii = digit_ascii or range 65 70 tt tt or range 97 102 tt tt

pub alpha_ascii : Ascii is_alpha
unfolding is_alpha
alpha_ascii = digit_ascii or range 65 90 tt tt or range 97 122 tt tt or members _ tt

pub word_ascii : Ascii is_word
unfolding is_word
word_ascii = but _ alpha_ascii

pub uri_ascii : Ascii is_uri
unfolding is_uri
uri_ascii = word_ascii or members _ tt

pub tag_ascii : Ascii is_tag
unfolding is_tag
tag_ascii = but _ (but _ uri_ascii)

agreed : (a b : Bool) → T (beq a b) → a ≡ b
agreed true true t = refl
agreed true false t = absurd t
agreed false true t = absurd t
agreed false false t = refl

-- two such classes are the same where they are on the ASCII characters
pub ascii_same : {p q : ℕ → Bool} → Ascii p → Ascii q → T (all_below 128 (λ c. beq (p c) (q c))) → (c : ℕ) → p c ≡ q c
ascii_same {p} {q} a b t c =
    by_test (ltb c 128)
    (λ e. agreed (p c) (q c) (below 128 (λ k. beq (p k) (q k)) t c (ltb-true c 128 e)))
    (λ e. let h = ltb-false c 128 e in a.high c h ∙ sym (b.high c h))

not_so : (b : Bool) → T (not b) → b ≡ false
not_so true t = absurd t
not_so false t = refl

-- such a class shares no character with one that has none of its ASCII characters
pub apart : {p : ℕ → Bool} (q : ℕ → Bool) → Ascii p → T (all_below 128 (λ c. not (p c && q c))) → (c : ℕ) → p c ≡ true → q c ≡ false
apart {p} q a t c e = not_so (q c) (rw e at (below 128 (λ k. not (p k && q k)) t c (ascii_low a c e).1))

pub blank_unbroken : (c : ℕ) → is_blank c ≡ true → is_break c ≡ false
unfolding is_blank is_break
blank_unbroken = apart is_break blank_ascii tt
