-- Theorems about specs/EscapeSizes, and what rests on them.
use Rattle.std.specs.Prelude.{◌*◌, ◌+◌, ◌≤◌, ℕ, Bool, true, List, T, leb, drop}
use Rattle.std.proofs.Common.{arith, leb→le}
use Rattle.yaml_text.specs.declared.Mark.{Mark}
use Rattle.yaml_text.specs.Utf8.{char_bytes}
use Rattle.yaml_text.specs.Class.{peek}
use Rattle.yaml_text.specs.All.{All, all_any, all_bind, all_need, holds, not_read}
use Rattle.yaml_lexeme.specs.declared.Named.{Named}
use Rattle.yaml_lexeme.specs.declared.Named.TheVariants.{Digits, Stands, Unknown}
use Rattle.yaml_lexeme.specs.Escape.{Escaped, escape, escape_of, hex_number, named}
use Rattle.yaml_lexeme.specs.EscapeTable.{by_letter}
use Rattle.yaml_lexeme.specs.Sizes.{width, width_some}
use Rattle.yaml_lexeme.specs.EscapeSizes.{PaysEscape}

-- a letter stands for a character of three bytes at most
abbrev Small : Named → Type 0
Small (Stands c) = width c ≤ 3
Small (Digits n) = 1 ≤ n
Small Unknown = Unit {0}

small_test : ℕ → Named → Bool
small_test c (Stands k) = leb (width k) 3
small_test c (Digits n) = leb 1 n
small_test c Unknown = true

small_by : (c : ℕ) (k : Named) → T (small_test c k) → Small k
unfolding small_test
small_by c (Stands k) t = leb→le (width k) 3 t
small_by c (Digits n) t = leb→le 1 n t
small_by c Unknown t = tt

named_small : (c : ℕ) → Small (named c)
unfolding small_test char_bytes
named_small c = small_by c (named c) (by_letter small_test tt c tt)

escape_of_pays : (start : Mark) (k : Named) (cs : List ℕ) → Small k → All Escaped PaysEscape (escape_of start k cs)
unfolding escape_of
escape_of_pays start (Stands c) cs h = let k : 2 * width c ≤ 3 * (1 + 1) = omega arith in holds k
escape_of_pays start (Digits n) cs h =
    all_bind _ (all_any (hex_number start n 0 cs)) (λ v _. all_need _ 39 start _ (let k : 2 * width v ≤ 3 * (1 + (n + 1)) = omega (arith, (width_some v).1) in holds k))
escape_of_pays start Unknown cs h = not_read

pub escape_pays : (start : Mark) (cs : List ℕ) → All Escaped PaysEscape (escape start cs)
unfolding escape
escape_pays start cs = escape_of_pays start (named (peek cs 0)) (drop 1 cs) (named_small (peek cs 0))
