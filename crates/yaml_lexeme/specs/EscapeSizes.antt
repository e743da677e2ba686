-- An escape is paid by the characters that it takes: `\L` and `\P` are two bytes and decode to three, which is the most.
use Rattle.std.specs.Prelude.{◌*◌, ◌+◌, ◌-◌, ◌≤◌, ℕ, List, ◌∷◌, drop}
use Rattle.std.proofs.Common.{arith, ltb-true}
use Rattle.yaml_text.specs.declared.Decoded.{Decoded}
use Rattle.yaml_text.specs.declared.Decoded.TheVariants.{Char, End, Ill}
use Rattle.yaml_text.specs.declared.Mark.{Mark}
use Rattle.yaml_text.specs.Utf8.{first, len_of}
use Rattle.yaml_text.specs.All.{All, all_any, all_bind, all_test, holds, not_read}
use Rattle.yaml_lexeme.specs.Escape.{Escaped}
use Rattle.yaml_lexeme.specs.Tag.{code_point, octet, percent, trailing}
use Rattle.yaml_lexeme.specs.Sizes.{width, width_some}

-- with the backslash or the percent sign
abbrev pub PaysEscape : Escaped → Type 0
PaysEscape e = 2 * width e.char ≤ 3 * (1 + e.took)

code_point_pays : (start : Mark) (took : ℕ) (d : Decoded) → 2 ≤ took → All Escaped PaysEscape (code_point start took d)
unfolding code_point
code_point_pays start took (Char c n) h = let k : 2 * width c ≤ 3 * (1 + took) = omega (arith, (width_some c).1) in holds k
code_point_pays start took Ill h = not_read
code_point_pays start took End h = not_read

pub percent_pays : (start : Mark) (cs : List ℕ) → All Escaped PaysEscape (percent start cs)
unfolding percent
percent_pays start cs =
    all_bind _ (all_any (octet start cs))
    (λ a _. all_test _ 22 start _ (λ e. let h = ltb-true 0 (len_of a) e in
    all_bind _ (all_any (trailing start (len_of a - 1) (drop 3 cs)))
    (λ bs _. code_point_pays start (len_of a * 3 - 1) (first (a ∷ bs)) (omega arith))))
