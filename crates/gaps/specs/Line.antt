-- A line's characters of one byte in a row: to the definition each is a turn, and code takes them at once.
use Rattle.std.specs.Prelude.{◌+◌, suc, ℕ, Bool, ◌&&◌, false, not, true, List, [], ◌∷◌, ◌≡◌, refl, ltb, drop, take}
use Rattle.std.specs.List.{prefix_len}
use Rattle.std.proofs.Common.{◌∙◌, ap, arith, ltb-true}
use Rattle.std.proofs.lemmas.Bool.{not-true}
use Rattle.yaml_text.specs.declared.Mark.{Mark}
use Rattle.yaml_text.specs.Class.{is_break}
use Rattle.yaml_text.specs.Mark.{Run, along, along_by, before_run, here, nothing_at, run_of}
use Rattle.yaml_text.specs.MarkLaws.{run_of_more, run_of_stop}
use Rattle.yaml_text.specs.Test.{both_true, by_test}
use Rattle.yaml_text.specs.Utf8.{chars}
use Rattle.yaml_lexeme.specs.Gap.{to_break}
use Rattle.yaml_lexeme.specs.Turns.{to_break_more, to_break_stop}
use Rattle.gaps.specs.Row.{Row, done, next, row}

-- a line: the characters up to the break
unfoldable pub in_line : ℕ → Bool
in_line c = not (is_break c)

abbrev pub line : Mark → List ℕ → Run
line m cs = run_of in_line m cs

pub line_more : (m : Mark) (c : ℕ) (cs : List ℕ) → is_break c ≡ false → line m (c ∷ cs) ≡ before_run (c ∷ []) (line (along m) cs)
unfolding in_line
line_more m c cs e = run_of_more in_line m c cs (rw e)

pub line_stop : (m : Mark) (c : ℕ) (cs : List ℕ) → is_break c ≡ true → line m (c ∷ cs) ≡ nothing_at (here m (c ∷ cs))
unfolding in_line
line_stop m c cs e = run_of_stop in_line m c cs (rw e)

-- behind it stands the break, or nothing
pub line_place : (m : Mark) (cs : List ℕ) → (line m cs).place ≡ to_break m cs
unfolding run_of to_break
line_place m [] = refl
line_place m (c ∷ cs) =
    by_test (is_break c)
    (λ e. rw (line_stop m c cs e, to_break_stop m c cs e))
    (λ e. rw (line_more m c cs e, to_break_more m c cs e) (line_place (along m) cs))

-- a byte that is a character, and no break
unfoldable pub is_low : ℕ → Bool
is_low b = ltb b 128 && not (is_break b)

-- how many such bytes a text begins with
abbrev pub low_run : List ℕ → ℕ
low_run l = prefix_len is_low l

low_parts : (b : ℕ) → is_low b ≡ true → (ltb b 128 ≡ true) × (not (is_break b) ≡ true)
unfolding is_low
low_parts b e = both_true (ltb b 128) (not (is_break b)) e

pub low_row : (s : List ℕ) (at : ℕ) → Row is_low s at (low_run (drop at s))
low_row s at = row is_low (λ b e. ltb-true b 128 (low_parts b e).0) s at

-- k of them from a place on, to the definition
pub line_row : {s : List ℕ} {at k : ℕ} → Row is_low s at k → (m : Mark)
    → line m (chars (drop at s)) ≡ before_run (take k (chars (drop at s))) (line (along_by k m) (chars (drop (at + k) s)))
line_row {at = at} done m =
    let e : at + 0 ≡ at = omega arith in
    let i : m.index + 0 ≡ m.index = omega arith in
    let c : m.col + 0 ≡ m.col = omega arith in
    rw (e, i, c)
line_row {s} {at} (next {b = b} {k = k} x f r) m =
    let e : at + 1 + k ≡ at + suc k = omega arith in
    let i : m.index + 1 + k ≡ m.index + suc k = omega arith in
    let c : m.col + 1 + k ≡ m.col + suc k = omega arith in
    rw x.next
    (line_more m b (chars (drop (at + 1) s)) (not-true (is_break b) (low_parts b f).1) ∙ ap (before_run (b ∷ [])) (rw (e, i, c) at (line_row r (along m))))
