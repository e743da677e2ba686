-- Theorems about specs/EscapeFits, and what rests on them.
use Rattle.std.specs.Prelude.{◌*◌, ◌+◌, ◌≤◌, suc, zero, ℕ, List, [], ◌∷◌, refl, drop, length}
use Rattle.std.proofs.Common.{arith, length-drop}
use Rattle.yaml_text.specs.declared.Mark.{Mark}
use Rattle.yaml_text.specs.Class.{as_hex, is_digit, is_hex, peek}
use Rattle.yaml_text.specs.Test.{by_test}
use Rattle.yaml_text.specs.All.{All, all_bind, all_need, all_weak, holds, not_read}
use Rattle.yaml_text.specs.PlaceLaws.{there}
use Rattle.yaml_lexeme.specs.declared.Named.{Named}
use Rattle.yaml_lexeme.specs.declared.Named.TheVariants.{Digits, Stands, Unknown}
use Rattle.yaml_lexeme.specs.Table.{looked_up}
use Rattle.yaml_lexeme.specs.Escape.{Escaped, escape, escape_of, hex_number, named}
use Rattle.yaml_lexeme.specs.EscapeFits.{Took}

hex_there : (start : Mark) (n v : ℕ) (cs : List ℕ) → All ℕ (λ _. n ≤ length cs) (hex_number start n v cs)
unfolding hex_number is_hex is_digit
hex_there start zero v cs = holds (omega arith)
hex_there start (suc n) v cs =
    by_test (is_hex (peek cs 0))
    (λ e. let h = there is_hex cs 0 refl e in
    rw (e, hex_number) (all_weak (λ _ k. omega (arith, length-drop 1 cs)) (hex_there start n (v * 16 + as_hex (peek cs 0)) (drop 1 cs))))
    (λ e. rw (e, hex_number) not_read)

escape_of_fit : (start : Mark) (k : Named) (cs : List ℕ) → All Escaped (Took (suc (length cs))) (escape_of start k cs)
unfolding escape_of
escape_of_fit start (Stands v) cs = let h : (1 ≤ 1) × (1 ≤ suc (length cs)) = omega arith in holds h
escape_of_fit start (Digits n) cs =
    all_bind _ (hex_there start n 0 cs)
    (λ v h. all_need _ 39 start _ (let k : (1 ≤ n + 1) × (n + 1 ≤ suc (length cs)) = omega arith in holds k))
escape_of_fit start Unknown cs = not_read

pub escape_fit : (start : Mark) (cs : List ℕ) → All Escaped (Took (length cs)) (escape start cs)
unfolding escape escape_of named looked_up
escape_fit start [] = not_read
escape_fit start (c ∷ cs) = escape_of_fit start (named c) cs
