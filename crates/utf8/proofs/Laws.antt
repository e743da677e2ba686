-- What the bytes at a place say of the character there.
use Prim.Native.Nat.{◌+◌, ◌<◌, suc, ℕ}
use mathlib.Core.List.{List}
use mathlib.Core.Path.{◌≡◌, ap, sym}
use native.Mathlib.Omega.{arith}
use lib.Dec.{ltb}
use lib.ListN.{drop, get_or, length}
use lib.Seq.{drop-cons}
use borrow.Author.Tests.{ltb-true}
use Rattle.yaml_text.specs.declared.Decoded.{Decoded}
use Rattle.yaml_text.specs.declared.Decoded.TheVariants.{Char, End, Ill}
use Rattle.yaml_text.specs.Class.{peek}
use Rattle.yaml_text.specs.Utf8.{by_len, chars, first, four, len_of, three, two}
use Rattle.yaml_text.specs.Test.{by_pick, by_test}
use Rattle.yaml_text.specs.Utf8Laws.{by_len_four, chars_end, chars_none, first_at, first_past}
use Rattle.yaml_text.proofs.Utf8Laws.{chars_next}
use Rattle.yaml_text.specs.ByteLaws.{first_ascii}

-- the character by the length n that its lead byte tells
module _ (s : List ℕ) (at : ℕ) (h : at < length s) (n : ℕ) (len : n ≡ len_of (get_or s at 0)) where
  pub case0 : n ≡ 0 → Ill ≡ first (drop at s)
  unfolding by_len
  case0 e = rw (first_at s at h, ← len, e)

  pub case1 : n ≡ 1 → (a : ℕ) → a ≡ get_or s at 0 → Char a 1 ≡ first (drop at s)
  unfolding by_len
  case1 e a p = rw (first_at s at h, ← len, e, p)

  pub case2 : n ≡ 2 → (b : ℕ) (r : Decoded) → b ≡ get_or s (at + 1) 0 → r ≡ two (get_or s at 0) b → r ≡ first (drop at s)
  unfolding by_len
  case2 e b r p q = rw (first_at s at h, ← len, e, ← p) q

  pub case3 : n ≡ 3 → (b c : ℕ) (r : Decoded) → b ≡ get_or s (at + 1) 0 → c ≡ get_or s (at + 2) 0 → r ≡ three (get_or s at 0) b c → r ≡ first (drop at s)
  unfolding by_len
  case3 e b c r p p' q = rw (first_at s at h, ← len, e, ← p, ← p') q

  pub case4 : (n ≡ 0 → ⊥) → (n ≡ 1 → ⊥) → (n ≡ 2 → ⊥) → (n ≡ 3 → ⊥) → (b c d : ℕ) (r : Decoded) → b ≡ get_or s (at + 1) 0
      → c ≡ get_or s (at + 2) 0 → d ≡ get_or s (at + 3) 0 → r ≡ four (get_or s at 0) b c d → r ≡ first (drop at s)
  case4 h0 h1 h2 h3 b c d r p p' p'' q =
      rw (first_at s at h, ← len, by_len_four n (get_or s at 0) (get_or s (at + 1) 0) (get_or s (at + 2) 0) (get_or s (at + 3) 0) h0 h1 h2 h3, ← p, ← p', ← p'') q

-- a byte that leads a character of one byte is that character
abbrev NotOne : ℕ → Type 0
NotOne n = n ≡ 1 → ⊥

pub lone : (a : ℕ) → len_of a ≡ 1 → a < 128
unfolding len_of
lone a e =
    by_test (ltb a 128) (ltb-true a 128)
    (λ f. absurd (by_pick NotOne (ltb a 192) 0 _ (omega arith) (by_pick NotOne (ltb a 224) 2 _ (omega arith) (by_pick NotOne (ltb a 240) 3 _ (omega arith)
    (by_pick NotOne (ltb a 248) 4 0 (omega arith) (omega arith)))) (rw f at e)))

pub plain_at : (s : List ℕ) (at a : ℕ) → at < length s → a ≡ get_or s at 0 → a < 128 → Char a 1 ≡ first (drop at s)
plain_at s at a h e k = rw (drop-cons s at 0, ← e) (sym (first_ascii a (drop (suc at) s) k))

pub look_char : (l : List ℕ) (c n : ℕ) → first l ≡ Char c n → c ≡ peek (chars l) 0
look_char l c n e = ap (λ (m : List ℕ). peek m 0) (sym (chars_next l c n e))

pub look_none : (l : List ℕ) → first l ≡ Ill → 0 ≡ peek (chars l) 0
look_none l e = ap (λ (m : List ℕ). peek m 0) (sym (chars_none l e))

pub look_end : (l : List ℕ) → first l ≡ End → 0 ≡ peek (chars l) 0
look_end l e = ap (λ (m : List ℕ). peek m 0) (sym (chars_end l e))

-- the cases of a character, by its lead byte
pub ruleset by_lead = (case0, case1, case2, case3, case4)

-- and what a look at it sees
pub ruleset looks = (plain_at, look_char, look_none, look_end, first_past)
