-- The line of a text, by what the entry answered, and the line that is written of one that was read.
use Prim.Native.Nat.{◌*◌, ◌+◌, ◌≤◌, min, ℕ}
use mathlib.Core.List.{List, ◌∷◌}
use mathlib.Core.Path.{◌∙◌, ◌≡◌, ap, sym}
use native.Mathlib.Omega.{arith}
use lib.ListN.{length, length-replicate, length-take, replicate, take}
use Rattle.std.specs.Prelude.{Err, Ok, Result}
use Rattle.yaml_lexeme.specs.Record.{record_words}
use Rattle.yaml_scan.specs.Scan.{answer, standard}
use Rattle.printing.specs.Listing.{mark_numbers}
use Rattle.printing.specs.Rooms.{in_rooms}
use Rattle.printing.specs.Written.{Written, written_then}
use Rattle.vectors.specs.Hex.{ReadHex, hex_bytes, read_text}
use Rattle.vectors.specs.Vector.{accepted_text, answer_text, head_text, refused_text, vector_line, verdict_text}
use Rattle.scanner.specs.Promise.{answer_of}
use Rattle.scanner.specs.declared.Refused.{Refused}
use Rattle.scanner.specs.declared.Sizes.{Sizes}
use Rattle.replay.specs.Replay.{longest, text_line}

-- what is accepted fits in the rooms lent
pub accepted_fits : (a : Result Sizes Refused) (text words bytes : List ℕ) (n : Sizes) (w b : ℕ) → answer_of a words bytes ≡ answer standard text w b → a ≡ Ok n
    → (n.tokens * record_words ≤ w) × (n.bytes ≤ b)
accepted_fits a text words bytes n w b e f = let h = in_rooms standard text w b (rw f at e) in (h.words, h.bytes)

pub accepted_line : (a : Result Sizes Refused) (text words bytes : List ℕ) (w b : ℕ) {n : Sizes} {k r : ℕ} {l m o : List ℕ} → answer_of a words bytes ≡ answer standard text w b
    → a ≡ Ok n → Written l 0 (head_text text) m k → Written m k (accepted_text n.tokens n.bytes words bytes) o r → Written l 0 (vector_line text w b) o r
unfolding vector_line verdict_text
accepted_line a text words bytes w b {n} e f u v =
    let g : answer_text (answer standard text w b) ≡ accepted_text n.tokens n.bytes words bytes = ap answer_text (sym e) ∙ rw f in
    rw g (written_then u v)

pub refused_line : (a : Result Sizes Refused) (text words bytes : List ℕ) (w b : ℕ) {i : Refused} {k r : ℕ} {l m o : List ℕ} → answer_of a words bytes ≡ answer standard text w b
    → a ≡ Err i → Written l 0 (head_text text) m k → Written m k (refused_text (i.refusal.number ∷ mark_numbers i.refusal.mark)) o r → Written l 0 (vector_line text w b) o r
unfolding vector_line verdict_text
refused_line a text words bytes w b {i} e f u v =
    let g : answer_text (answer standard text w b) ≡ refused_text (i.refusal.number ∷ mark_numbers i.refusal.mark) = ap answer_text (sym e) ∙ rw f in
    rw g (written_then u v)

-- the text was read into a room of `most` bytes, and `room` words were lent
module _ (line before after words : List ℕ) (most n room b : ℕ) (h : most ≡ length before) (w : ReadHex line before after n)
    (e : room ≡ min ((2 * n + 3) * record_words) (length words)) where
  text_is : take n after ≡ take most (hex_bytes line)
  text_is = read_text line before after n w ∙ ap (λ (k : ℕ). take k (hex_bytes line)) (sym h)

  text_length : length (take most (hex_bytes line)) ≡ n
  text_length = omega (arith, length-take most (hex_bytes line), w.count)

  words_are : length (take room words) ≡ min ((2 * length (take most (hex_bytes line)) + 3) * record_words) (length words)
  words_are = rw text_length (omega (arith, length-take room words))

  pub line_written : {l o : List ℕ} {r : ℕ} → Written l 0 (vector_line (take n after) (length (take room words)) b) o r
      → Written l 0 (text_line (take most (hex_bytes line)) (length words) b) o r
  line_written v = rw (text_is, words_are) at v

  pub line_fits : (r : ℕ) → r ≤ longest (length (take n after)) (length (take room words)) b → r ≤ longest most (length words) b
  line_fits r g = omega (arith, w.count, length-take n after, length-take room words)

-- rooms of these lengths, and one that holds the longest line. (Said of any lengths, as `array_length` is.)
pub arrays_hold : (most w b o : ℕ) → longest most w b ≤ o
    → longest most (length {0} {A = ℕ} (replicate {0} {A = ℕ} w 7)) (length {0} {A = ℕ} (replicate {0} {A = ℕ} b 7)) ≤ length {0} {A = ℕ} (replicate {0} {A = ℕ} o 0)
arrays_hold most w b o h = omega (arith, length-replicate {A = ℕ} w 7, length-replicate {A = ℕ} b 7, length-replicate {A = ℕ} o 0)
