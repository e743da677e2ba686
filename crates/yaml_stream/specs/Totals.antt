-- How many tokens the events of a step say, and how many blocks may be open.
use Rattle.std.specs.Prelude.{◌+◌, ◌≤◌, suc, zero, ℕ, Bool, false, true, List, [], ◌++◌, ◌∷◌, ◌≡◌, refl, length}
use Rattle.std.proofs.Common.{ap, le_refl, arith}
use Rattle.yaml_text.specs.declared.Mark.{Mark}
use Rattle.yaml_text.specs.Mark.{Place}
use Rattle.yaml_lexeme.specs.Token.{Kind, Token}
use Rattle.yaml_lexeme.specs.Block.{one_if}
use Rattle.yaml_scan.specs.declared.Level.{Level}
use Rattle.yaml_scan.specs.Indent.{Entry, Rolled}
use Rattle.yaml_scan.specs.IndentLaws.{open_blocks}
use Rattle.yaml_scan.specs.State.{Event, State, block_ends, empty_if, in_flow, put}
use Rattle.yaml_scan.specs.SlotLaws.{total}
use Rattle.yaml_scan.specs.Moves.{Begins, goes_in}
use Rattle.yaml_scan.specs.Steps.{one_most}
use Rattle.yaml_stream.specs.Sizes.{total_append}

pub total_ends : (n : ℕ) (m : Mark) → total (block_ends n m) ≡ n
unfolding total
total_ends zero m = refl
total_ends (suc n) m = ap suc (total_ends n m)

pub total_if : (b : Bool) (k : Kind) (m : Mark) → total (empty_if b k m) ≡ one_if b
unfolding total
total_if true k m = refl
total_if false k m = refl

pub total_then : (es : List Event) (t : Token) → total (es ++ (put t ∷ [])) ≡ suc (total es)
unfolding total
total_then es t = omega (arith, total_append es (put t ∷ []))

-- where a pair begins no block does
pub not_both : {s : State} {q : Place} {pair : Bool} {r : Rolled} {ls : List Level} → Begins s q pair r ls → one_if pair + one_if r.starts ≤ 1
unfolding in_flow
not_both {s} {pair = pair} {r = r} {ls = ls} b = by_levels s.levels refl
  where
    by_levels : (ks : List Level) → s.levels ≡ ks → one_if pair + one_if r.starts ≤ 1
    by_levels [] e = let h = rw e at b.enters in rw h.1 (omega (arith, one_most r.starts))
    by_levels (l ∷ ks) e =
        let f : in_flow s ≡ true = rw e in
        let g : r.starts ≡ false = ap (λ (x : Rolled). x.starts) (b.rolls.flows f) in
        rw g (omega (arith, one_most pair))

pub goes_in_length : (pair block : Bool) (m : Mark) → length (goes_in pair block m) ≡ suc (one_if pair + one_if block)
goes_in_length true true m = refl
goes_in_length true false m = refl
goes_in_length false true m = refl
goes_in_length false false m = refl

-- each open block has an entry
pub blocks_depth : (es : List Entry) → open_blocks es ≤ length es
unfolding open_blocks
blocks_depth [] = le_refl _
blocks_depth (e ∷ es) = omega (arith, blocks_depth es, one_most e.ends)
