-- A loop that moves a place through a text: what the definition makes of the rest is what it makes of the whole.
use Rattle.std.specs.Prelude.{◌+◌, ◌<◌, ◌≤◌, ℕ, List, ◌≡◌, refl, ltb, drop, length}
use Rattle.std.proofs.Common.{◌∙◌, ap, sym, arith, ltb-false, ltb-true}
use Rattle.yaml_text.specs.Test.{by_test}
use Rattle.yaml_text.specs.Utf8.{chars}
use Rattle.yaml_text.specs.Mark.{along_by}
use Rattle.yaml_text.specs.Mark as definition
use Rattle.chars.specs.declared.mark.Place.{Place}
use Rattle.chars.specs.Places.{moves_along}
use Rattle.chars.specs.Reach.{Reach}
use Rattle.chars.specs.View.{Moves, Stands, past, view}

-- the loop began at `start` and stands at p
pub record Walks {A : Type 0} (text : List ℕ) (start p : Place) (whole rest : A) : Type 0 where
  pub stands : Stands text p
  pub onward : start.at ≤ p.at
  pub same : whole ≡ rest

pub walks_start : {A : Type 0} {text : List ℕ} {p : Place} {x : A} → Stands text p → Walks text p p x x
walks_start h = record { stands = h; onward = omega arith; same = refl }

module _ {A : Type 0} {text : List ℕ} {start p : Place} {x y z : A} (w : Walks text start p x y) where
  -- one move of it
  pub walks_move : {r : Place} {q : definition.Place} → Moves text p r q → y ≡ z → Walks text start r x z
  walks_move m e = record { stands = m.stands; onward = omega (arith, w.onward, m.onward); same = w.same ∙ e }

  -- over k characters of n bytes that are no breaks
  pub walks_along : (n k : ℕ) → Reach text p.at k (p.at + n) → y ≡ z → Walks text start (past p n (along_by k p.mark)) x z
  walks_along n k r e = walks_move (moves_along w.stands n k r) e

-- where nothing is left of it
pub walks_done : {text : List ℕ} {start p : Place} {x y : definition.Place} → Walks text start p x y → y ≡ view text p → Moves text start p x
walks_done w e = record { same = sym (w.same ∙ e); stands = w.stands; onward = w.onward }

-- a move that leaves fewer characters has passed a byte at least
pub moves_some : {text : List ℕ} {p r : Place} {q : definition.Place} → Moves text p r q → length q.rest < length (chars (drop p.at text))
    → p.at < r.at
moves_some {text} {p} {r} {q} m h =
    by_test (ltb p.at r.at) (ltb-true p.at r.at)
    (λ e. let k : r.at ≡ p.at = omega (arith, ltb-false p.at r.at e, m.onward) in
    let l : length (chars (drop p.at text)) ≡ length q.rest = rw (← k) (ap (λ (x : definition.Place). length x.rest) m.same) in
    absurd (omega arith))
