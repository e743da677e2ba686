-- A line of numbers, one number after another.
use Prim.Native.Nat.{◌+◌, ◌-◌, ◌<◌, ◌≤◌, suc, ℕ}
use mathlib.Core.List.{List, [], ◌++◌, ◌∷◌}
use mathlib.Core.Path.{◌≡◌, refl}
use native.Mathlib.Numerals.{add-one}
use native.Mathlib.Omega.{arith}
use lib.Dec.{eqb}
use lib.ListN.{drop, drop_of_length-le, get_or, length, length-drop}
use lib.Seq.{drop-cons}
use borrow.Author.Tests.{ne_eqb}
use Rattle.yaml_text.specs.Pick.{pick}
use Rattle.printing.specs.Lines.{end_before, number_text, numbers_line}

-- the last number is the one that none follow
end_is : (between end : ℕ) (l : List ℕ) → end_before between end l ≡ pick (eqb (length l) 0) end between
unfolding end_before
end_is between end [] = refl
end_is between end (n ∷ l) = rw (ne_eqb (suc (length l)) 0 (omega arith))

pub line_more : (between end : ℕ) (ns : List ℕ) (i b : ℕ) → i < length ns → b ≡ pick (eqb (length ns - i - 1) 0) end between
    → numbers_line between end (drop i ns) ≡ number_text (get_or ns i 0) b ++ numbers_line between end (drop (i + 1) ns)
unfolding numbers_line
line_more between end ns i b h f =
    let e : length ns - i - 1 ≡ length (drop (suc i) ns) = (let d = length-drop (suc i) ns in omega arith) in
    rw (add-one, f, e, drop-cons ns i 0, end_is between end (drop (suc i) ns))

pub line_ends : (between end : ℕ) (ns : List ℕ) (i : ℕ) → length ns ≤ i → numbers_line between end (drop i ns) ≡ []
unfolding numbers_line
line_ends between end ns i h = rw (drop_of_length-le ns h)
