-- Blocks of ASCII characters other than NUL, which are counted and passed over.
use Prim.Native.Nat.{◌+◌, ◌<◌, ℕ}
use mathlib.Core.Bool.{and-false, false, true}
use mathlib.Core.List.{List}
use mathlib.Core.Path.{◌∙◌, ◌≡◌, refl}
use native.Mathlib.Omega.{arith}
use lib.Dec.{ltb}
use lib.ListN.{drop, get_or, length}
use lib.Seq.{drop-drop}
use borrow.Author.Tests.{le-ltb, ltb-true}
use Rattle.yaml_text.specs.Test.{both_true}
use Rattle.chars.specs.Ascii.{low}
use Rattle.chars.specs.Bytes.{byte_char}
use Rattle.chars.specs.Each.{Each, each_carry}
use Rattle.validity.specs.Sound.{sound}
use Rattle.validity.proofs.Soundness.{sound_char}

sound_low : (s : List ℕ) (i : ℕ) → i < length s → low (get_or s i 0) ≡ true → sound (drop i s) ≡ sound (drop (i + 1) s)
sound_low s i h e =
    let b = get_or s i 0 in
    let l = both_true (ltb 0 b) (ltb b 128) e in
    let p = ltb-true 0 b l.0 in
    rw (drop-drop 1 i s) at (sound_char (drop i s) b 1 (byte_char s i b refl h (ltb-true b 128 l.1)).is (omega arith))

-- no byte from 128 up is among them
pub high : {b : ℕ} → 127 < b → low b ≡ false
high {b} h = rw (le-ltb b 128 (omega arith)) (and-false (ltb 0 b))

pub sound_block : {s : List ℕ} {at e : ℕ} → Each low s at e → sound (drop at s) ≡ sound (drop e s)
sound_block {s} {at} w = each_carry low s (λ i. sound (drop at s) ≡ sound (drop i s)) (λ i h e x. x ∙ sound_low s i h e) w refl
