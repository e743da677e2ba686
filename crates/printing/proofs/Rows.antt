-- Lines of records.
use Prim.Native.Nat.{◌*◌, ◌+◌, ◌-◌, ◌<◌, ◌≤◌, suc, ℕ}
use mathlib.Core.List.{List, [], ◌++◌, ◌∷◌}
use mathlib.Core.Path.{◌∙◌, ◌≡◌, ap}
use native.Mathlib.Nat.{add-zero}
use native.Mathlib.Omega.{arith}
use lib.ListN.{drop, get_or, length, take}
use lib.Seq.{drop-drop, get_or-drop, get_or-take}
use Rattle.yaml_lexeme.specs.Record.{record_words}
use Rattle.printing.specs.Lines.{lines_text, numbers_line}
use Rattle.printing.specs.Listing.{listed, token_lines}

-- the words that are listed of the record at a place
pub listed_at : (l : List ℕ) (at : ℕ) → listed (take record_words (drop at l))
    ≡ get_or l at 0 ∷ get_or l (at + 1) 0 ∷ get_or l (at + 2) 0 ∷ get_or l (at + 3) 0 ∷ get_or l (at + 4) 0 ∷ get_or l (at + 5) 0 ∷ get_or l (at + 6) 0
    ∷ get_or l (at + 11) 0 ∷ get_or l (at + 8) 0 ∷ get_or l (at + 10) 0 ∷ []
unfolding listed
listed_at l at =
    let w : (k : ℕ) → k < record_words → get_or (take record_words (drop at l)) k 0 ≡ get_or l (at + k) 0 = λ k h. get_or-take record_words (drop at l) k 0 h ∙ get_or-drop at l k 0 in
    rw (
      w 0 (omega arith),
      w 1 (omega arith),
      w 2 (omega arith),
      w 3 (omega arith),
      w 4 (omega arith),
      w 5 (omega arith),
      w 6 (omega arith),
      w 11 (omega arith),
      w 8 (omega arith),
      w 10 (omega arith),
      add-zero,
    )

-- one record more
pub rows_more : (t n : ℕ) (l : List ℕ) → n < t → lines_text (token_lines (t - n) (drop (n * record_words) l))
    ≡ numbers_line 32 10 (listed (take record_words (drop (n * record_words) l))) ++ lines_text (token_lines (t - (n + 1)) (drop ((n + 1) * record_words) l))
unfolding token_lines lines_text
rows_more t n l h =
    let e : t - n ≡ suc (t - (n + 1)) = omega arith in
    let f : n * record_words + record_words ≡ (n + 1) * record_words = omega arith in
    rw (e, drop-drop record_words (n * record_words) l, f)

pub ten : (l r : List ℕ) → l ≡ listed r → length l ≡ 10
unfolding listed
ten l r e = ap length e

-- no record is left
pub rows_end : (t n : ℕ) (l : List ℕ) → t ≤ n → lines_text (token_lines (t - n) (drop (n * record_words) l)) ≡ []
unfolding token_lines lines_text
rows_end t n l h = let e : t - n ≡ 0 = omega arith in rw e

-- before the first
pub rows_start : (t : ℕ) (l : List ℕ) → lines_text (token_lines (t - 0) (drop (0 * record_words) l)) ≡ lines_text (token_lines t l)
rows_start t l = let e : t - 0 ≡ t = omega arith in rw e
