-- What the bytes at a place of a text say of the characters from there on.
use Rattle.std.specs.Prelude.{◌+◌, ◌<◌, ◌≤◌, ℕ, Bool, false, true, List, [], ◌∷◌, ◌⊎◌, ◌≡◌, refl, T, eqb, ltb, drop, get_or, length}
use Rattle.std.proofs.Common.{inl, inr, ◌∙◌, ap, sym, arith, length-drop, drop-drop, get_or-drop, eq-eqb, ltb-false, ltb-true, ne_eqb}
use Rattle.std.proofs.Math.ListN.{get_or-eq_default}
use denote.Enum.Declared.{tag_of}
use Rattle.yaml_text.specs.contracts.Decoded.{the_type}
use Rattle.yaml_text.specs.declared.Decoded.{Decoded}
use Rattle.yaml_text.specs.declared.Decoded.TheVariants.{Char, End, Ill}
use Rattle.yaml_text.specs.Char.{byte_order_mark}
use Rattle.yaml_text.specs.Class.{peek}
use Rattle.yaml_text.specs.Test.{by_test}
use Rattle.yaml_text.specs.Utf8.{char_bytes, chars, first}
use Rattle.yaml_text.specs.Utf8Laws.{chars_end, chars_none}
use Rattle.yaml_text.proofs.Utf8Laws.{chars_next, first_bytes, first_fits}
use Rattle.yaml_text.proofs.ByteLaws.{ascii_class}
use Rattle.utf8.proofs.Laws.{plain_at}
use Rattle.chars.specs.Ascii.{Ascii, ascii_low, low, one}

-- the character c of n bytes stands at a place
pub record CharAt (s : List ℕ) (at c n : ℕ) : Type 0 where
  pub is : first (drop at s) ≡ Char c n
  pub next : chars (drop at s) ≡ c ∷ chars (drop (at + n) s)
  pub within : at + n ≤ length s
  pub some : 1 ≤ n
  pub few : n ≤ 4

pub char_at : (s : List ℕ) (at c n : ℕ) → first (drop at s) ≡ Char c n → CharAt s at c n
char_at s at c n e =
    let f = first_fits (drop at s) c n e in
    let l = length-drop at s in
    record {
      is = e;
      next = chars_next (drop at s) c n e ∙ ap (λ (m : List ℕ). c ∷ chars m) (drop-drop n at s);
      within = omega (arith, f);
      some = f.0;
      few = f.1;
    }

-- no character begins at a place
pub none_ill : (s : List ℕ) (at : ℕ) → first (drop at s) ≡ Ill → chars (drop at s) ≡ []
none_ill s at e = chars_none (drop at s) e

pub none_end : (s : List ℕ) (at : ℕ) → first (drop at s) ≡ End → chars (drop at s) ≡ []
none_end s at e = chars_end (drop at s) e

-- what a match tells of an answer that is no character
abbrev pub NoChar : Decoded → Type 0
NoChar d = (tag_of the_type d ≡ 1) ⊎ (tag_of the_type d ≡ 2)

pub not_char : (d : Decoded) → ((c n : ℕ) → d ≡ Char c n → ⊥) → NoChar d
not_char (Char c n) h = absurd (h c n refl)
not_char Ill h = inl refl
not_char End h = inr refl

pub none_told : (s : List ℕ) (at : ℕ) {d : Decoded} → d ≡ first (drop at s) → NoChar d → chars (drop at s) ≡ []
none_told s at {d = Char c n} e (inl k) = absurd (omega arith)
none_told s at {d = Char c n} e (inr k) = absurd (omega arith)
none_told s at {d = Ill} e k = none_ill s at (sym e)
none_told s at {d = End} e k = none_end s at (sym e)

-- a character that is seen at a place has the length of its encoding
told_char : (s : List ℕ) (at c : ℕ) (d : Decoded) → first (drop at s) ≡ d → c ≡ peek (chars (drop at s)) 0 → 0 < c → CharAt s at c (length (char_bytes c))
told_char s at c (Char x n) f e h =
    let a = char_at s at x n f in
    let k : c ≡ x = e ∙ rw a.next in
    rw (k, ← (first_bytes (drop at s) x n f).1) a
told_char s at c Ill f e h = let z : c ≡ 0 = e ∙ rw (none_ill s at f) in absurd (omega arith)
told_char s at c End f e h = let z : c ≡ 0 = e ∙ rw (none_end s at f) in absurd (omega arith)

pub peek_char : (s : List ℕ) (at c : ℕ) → c ≡ peek (chars (drop at s)) 0 → 0 < c → CharAt s at c (length (char_bytes c))
peek_char s at c = told_char s at c (first (drop at s)) refl

pub bom_char : (s : List ℕ) (at c : ℕ) → c ≡ peek (chars (drop at s)) 0 → c ≡ byte_order_mark → CharAt s at byte_order_mark 3
unfolding char_bytes
bom_char s at c e f = peek_char s at byte_order_mark (sym f ∙ e) (omega arith)

-- the byte at a place, or 0 past the end
module _ (s : List ℕ) (at b : ℕ) (e : b ≡ get_or s at 0) where
  -- one that is not 0 stands within the text
  pub byte_within : 0 < b → at < length s
  byte_within h =
      by_test (ltb at (length s)) (ltb-true at (length s))
      (λ f. let z = get_or-eq_default s 0 (ltb-false at (length s) f) in absurd (omega arith))

  -- one below 128 is a character
  pub byte_char : at < length s → b < 128 → CharAt s at b 1
  byte_char h k = char_at s at b 1 (sym (plain_at s at b h e k))

  -- an ASCII class tells the same of it and of the character
  pub ascii_at : {p : ℕ → Bool} → Ascii p → p (peek (chars (drop at s)) 0) ≡ p b
  ascii_at {p} a =
      let k : at + 0 ≡ at = omega arith in
      ascii_class p a.high a.end (drop at s) ∙ ap p (get_or-drop at s 0 0 ∙ ap (λ (i : ℕ). get_or s i 0) k ∙ sym e)

  -- and where it holds, the byte is a character
  pub ascii_char : {p : ℕ → Bool} → Ascii p → p b ≡ true → CharAt s at b 1
  ascii_char a h = let l = ascii_low a b h in byte_char (byte_within l.0) l.1

  -- the same of one ASCII character
  pub eq_at : (k : ℕ) → T (low k) → eqb (peek (chars (drop at s)) 0) k ≡ eqb b k
  eq_at k t = ascii_at (one k t)

  pub eq_char : (k : ℕ) → T (low k) → b ≡ k → CharAt s at k 1
  eq_char k t h = rw h at (ascii_char (one k t) (eq-eqb b k h))

  pub ne_char : (k : ℕ) → T (low k) → (b ≡ k → ⊥) → eqb (peek (chars (drop at s)) 0) k ≡ false
  ne_char k t h = eq_at k t ∙ ne_eqb b k h
