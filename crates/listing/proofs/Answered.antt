-- The listing of an answer.
use Prim.Native.Nat.{◌*◌, ◌≤◌, ℕ}
use mathlib.Core.List.{List, [], ◌∷◌, append-nil}
use mathlib.Core.Path.{◌≡◌, ap}
use Rattle.std.specs.Prelude.{Err, Ok, Result}
use Rattle.yaml_lexeme.specs.Record.{record_words}
use Rattle.yaml_scan.specs.Scan.{Answer as Said, answer}
use Rattle.printing.specs.Lines.{lines_text, numbers_line}
use Rattle.printing.specs.Listing.{listing, listing_of, mark_numbers, sheet, token_lines, verdict_lines}
use Rattle.printing.specs.Rooms.{tokens_left}
use Rattle.printing.specs.Written.{Written, written_then}
use Rattle.scanner.specs.Promise.{answer_of, verdict_of}
use Rattle.scanner.specs.declared.Refused.{Refused}
use Rattle.scanner.specs.declared.Sizes.{Sizes}

pub accepted_fit : (a : Result Sizes Refused) (n : Sizes) (w : ℕ) → a ≡ Ok n → tokens_left (verdict_of a) * record_words ≤ w → n.tokens * record_words ≤ w
accepted_fit a n w e h = rw e at h

pub accepted_lines : (a : Result Sizes Refused) (words : List ℕ) {n : Sizes} {k r : ℕ} {l m o : List ℕ} → a ≡ Ok n
    → Written l 0 (numbers_line 32 10 (n.tokens ∷ n.bytes ∷ [])) m k → Written m k (lines_text (token_lines n.tokens words)) o r
    → Written l 0 (lines_text (verdict_lines (verdict_of a) words)) o r
unfolding verdict_lines lines_text
accepted_lines a words e v w = rw e (written_then v w)

pub refused_lines : (a : Result Sizes Refused) (words : List ℕ) {f : Refused} {r : ℕ} {l o : List ℕ} → a ≡ Err f
    → Written l 0 (numbers_line 32 10 (f.refusal.number ∷ mark_numbers f.refusal.mark)) o r → Written l 0 (lines_text (verdict_lines (verdict_of a) words)) o r
unfolding verdict_lines lines_text
refused_lines a words e w = rw (e, append-nil) w

pub answered_lines : (a : Result Sizes Refused) (text words bytes : List ℕ) {r : ℕ} {l o : List ℕ} → answer_of a words bytes ≡ answer sheet text (1_027 * record_words) 768
    → Written l 0 (lines_text (verdict_lines (verdict_of a) words)) o r → Written l 0 (listing_of text) o r
answered_lines a text words bytes e w = rw (ap (λ (s : Said). lines_text (listing s)) e) at w
