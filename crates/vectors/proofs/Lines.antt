-- A vector's line, part by part: what is left of bytes and records gives the whole.
use Prim.Native.Nat.{◌%◌, ◌*◌, ◌+◌, ◌-◌, ◌/◌, ◌<◌, ◌≤◌, suc, ℕ}
use mathlib.Core.List.{List, [], ◌++◌, ◌∷◌}
use mathlib.Core.Path.{◌∙◌, ◌≡◌, refl}
use native.Mathlib.Numerals.{add-one}
use native.Mathlib.Omega.{arith}
use lib.ListN.{drop, drop_of_length-le, get_or, length, length-take, set, take}
use lib.Seq.{drop-cons, drop-drop}
use Rattle.io.specs.Digits.{hex_digit_ascii}
use Rattle.yaml_lexeme.specs.Record.{record_words}
use Rattle.printing.specs.Lines.{numbers_line}
use Rattle.printing.specs.Written.{Written, written_then}
use Rattle.vectors.specs.Vector.{accepted_text, head_text, hex_text, refused_text, row_end, rows_text}

-- one byte more
abbrev pub byte_text : ℕ → List ℕ
byte_text b = hex_digit_ascii (b / 16) ∷ hex_digit_ascii (b % 16) ∷ []

pub hex_more : (l : List ℕ) (i : ℕ) → i < length l → hex_text (drop i l) ≡ byte_text (get_or l i 0) ++ hex_text (drop (i + 1) l)
unfolding hex_text
hex_more l i h = rw (add-one, drop-cons l i 0 h)

pub hex_end : (l : List ℕ) (i : ℕ) → length l ≤ i → hex_text (drop i l) ≡ []
unfolding hex_text
hex_end l i h = rw (drop_of_length-le l h)

pub byte_written : (l m o : List ℕ) (at b x y : ℕ) → x ≡ hex_digit_ascii (b / 16) → m ≡ set l at x → y ≡ hex_digit_ascii (b % 16) → o ≡ set m (at + 1) y
    → Written l at (byte_text b) o (at + 2)
byte_written l m o at b x y e p f q = record { stored = q ∙ rw (p, e, f, add-one); behind = refl }

-- one record more
pub rows_more : (t n end : ℕ) (l : List ℕ) → n < t → end ≡ row_end (t - n - 1) → rows_text (t - n) (drop (n * record_words) l)
    ≡ numbers_line 32 end (take record_words (drop (n * record_words) l)) ++ rows_text (t - (n + 1)) (drop ((n + 1) * record_words) l)
unfolding rows_text
rows_more t n end l h g =
    let e : t - n ≡ suc (t - (n + 1)) = omega arith in
    let i : t - n - 1 ≡ t - (n + 1) = omega arith in
    let f : n * record_words + record_words ≡ (n + 1) * record_words = omega arith in
    rw (g, i, e, drop-drop record_words (n * record_words) l, f)

pub row_few : (l : List ℕ) → length (take record_words l) ≤ record_words
row_few l = omega (arith, length-take record_words l)

-- no record is left
pub rows_end : (t n : ℕ) (l : List ℕ) → t ≤ n → rows_text (t - n) (drop (n * record_words) l) ≡ []
unfolding rows_text
rows_end t n l h = let e : t - n ≡ 0 = omega arith in rw e

-- before the first
pub rows_start : (t : ℕ) (l : List ℕ) → rows_text (t - 0) (drop (0 * record_words) l) ≡ rows_text t l
rows_start t l = let e : t - 0 ≡ t = omega arith in rw e

pub head_written : (l m o text : List ℕ) (k r : ℕ) → Written l 0 (hex_text text) m k → Written m k (32 ∷ 61 ∷ 62 ∷ 32 ∷ []) o r → Written l 0 (head_text text) o r
unfolding head_text
head_written l m o text k r v w = written_then v w

pub refused_written : (l m o numbers : List ℕ) (at k r : ℕ) → Written l at (82 ∷ 32 ∷ []) m k → Written m k (numbers_line 32 10 numbers) o r
    → Written l at (refused_text numbers) o r
unfolding refused_text
refused_written l m o numbers at k r v w = written_then v w

pub accepted_written : (words bytes : List ℕ) (t d : ℕ) {l m n o p q part : List ℕ} {at a b e f r : ℕ} → part ≡ take d bytes → Written l at (65 ∷ 32 ∷ []) m a
    → Written m a (numbers_line 32 124 (t ∷ d ∷ [])) n b → Written n b (rows_text t words) o e → Written o e (hex_text part) p f
    → Written p f (10 ∷ []) q r → Written l at (accepted_text t d words bytes) q r
unfolding accepted_text
accepted_written words bytes t d i u v w x y = rw (← i) (written_then u (written_then v (written_then w (written_then x y))))
