-- Moving a place of the code: within its bounds, and as the definition moves.
use Rattle.std.specs.Prelude.{◌+◌, ◌<◌, ◌^◌, ◌≤◌, ℕ, List, ◌≡◌, refl, drop, length}
use Rattle.std.proofs.Common.{◌∙◌, ap, arith}
use Rattle.yaml_text.specs.declared.Mark.{Mark}
use Rattle.yaml_text.specs.Utf8.{chars}
use Rattle.yaml_text.specs.Mark.{along_by, here, new_line, origin, over_bom, skip_by}
use Rattle.yaml_text.specs.Mark as definition
use Rattle.chars.specs.declared.mark.Place.{Place}
use Rattle.chars.specs.Reach.{Reach, reach_rest, reach_within}
use Rattle.chars.specs.View.{Moves, Small, Stands, past, view}

-- a place in a text that fits the machine may be moved
pub small : {text : List ℕ} {p : Place} → Stands text p → length text < 2 ^ 63 → Small p
small h l = record { at = omega (arith, h); index = omega (arith, h); line = omega (arith, h); col = omega (arith, h) }

-- the first place of a text
pub stands_start : (text : List ℕ) → length text ≤ 1_048_576 → Stands text (record { at = 0; mark = origin })
stands_start text h = record { within = omega arith; index = omega arith; line = omega arith; col = omega arith }

module _ {text : List ℕ} {p : Place} (h : Stands text p) where
  -- over k characters of n bytes that are no breaks
  pub stands_along : (n k : ℕ) → k ≤ n → p.at + n ≤ length text → Stands text (past p n (along_by k p.mark))
  stands_along n k l w =
      record { within = w; index = omega (arith, h); line = omega (arith, h); col = omega (arith, h) }

  -- over a break of k characters
  pub stands_line : (k : ℕ) → 1 ≤ k → p.at + k ≤ length text → Stands text (past p k (new_line k p.mark))
  stands_line k l w = record { within = w; index = omega (arith, h); line = omega (arith, h); col = omega (arith, h) }

  -- over a byte order mark that is a token
  pub stands_bom : p.at + 3 ≤ length text → Stands text (past p 3 (over_bom p.mark))
  stands_bom w = record { within = w; index = omega (arith, h); line = omega (arith, h); col = omega (arith, h) }

  -- a place that is not moved
  pub moves_none : Moves text p p (view text p)
  moves_none = record { same = refl; stands = h; onward = omega arith }

  -- over k characters of n bytes, to the mark m
  pub moves_past : (n k : ℕ) (m : Mark) → Reach text p.at k (p.at + n) → Stands text (past p n m)
      → Moves text p (past p n m) (here m (drop k (chars (drop p.at text))))
  moves_past n k m r w = record { same = ap (here m) (reach_rest r); stands = w; onward = omega arith }

  pub moves_along : (n k : ℕ) → Reach text p.at k (p.at + n) → Moves text p (past p n (along_by k p.mark)) (skip_by k (view text p))
  moves_along n k r = let w = reach_within r h.within in moves_past n k _ r (stands_along n k (omega (arith, w)) w.0)

-- one move after another
pub moves_then : {text : List ℕ} {p q r : Place} {a : definition.Place} (f : definition.Place → definition.Place) → Moves text p q a
    → Moves text q r (f (view text q)) → Moves text p r (f a)
moves_then f h k = record { same = k.same ∙ ap f h.same; stands = k.stands; onward = omega (arith, h.onward, k.onward) }

-- where the definition's place is known by another name
pub moves_as : {text : List ℕ} {p r : Place} {a b : definition.Place} → Moves text p r a → a ≡ b → Moves text p r b
moves_as h e = rw (← e) h
