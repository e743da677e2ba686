-- Lines of numbers.
use Rattle.std.specs.Prelude.{ℕ, List, [], ◌++◌, ◌∷◌}
use Rattle.printing.specs.Decimal.{decimal}

-- a number and a byte behind it
abbrev pub number_text : ℕ → ℕ → List ℕ
number_text n end = decimal n ++ (end ∷ [])

-- the byte behind a number, by the numbers that follow it
unfoldable pub end_before : ℕ → ℕ → List ℕ → ℕ
end_before between end [] = end
end_before between end (n ∷ ns) = between

-- numbers with a byte between and another at the end
unfoldable pub numbers_line : ℕ → ℕ → List ℕ → List ℕ
numbers_line between end [] = []
numbers_line between end (n ∷ ns) = number_text n (end_before between end ns) ++ numbers_line between end ns

-- lines of numbers, with blanks between
unfoldable pub lines_text : List (List ℕ) → List ℕ
lines_text [] = []
lines_text (ns ∷ l) = numbers_line 32 10 ns ++ lines_text l
