-- What code answers for a margin, held against the definition.
use Rattle.std.specs.Prelude.{◌+◌, ◌≤◌, ℕ, Bool, ◌&&◌, ◌||◌, false, List, [], ◌∷◌, ◌≡◌, refl, eqb, ltb}
use Rattle.yaml_text.specs.declared.Mark.{Mark}
use Rattle.yaml_text.specs.Char.{space}
use Rattle.yaml_text.specs.Class.{is_break, peek}
use Rattle.yaml_text.specs.Mark.{ends_line, over}
use Rattle.yaml_text.specs.Test.{by_test}
use Rattle.yaml_lexeme.specs.Block.{margin}
use Rattle.yaml_lexeme.specs.Turns.{margin_more, margin_stop}
use Rattle.yaml_lexeme.specs.Block as definition
use Rattle.chars.specs.declared.mark.Place.{Place}
use Rattle.chars.specs.View.{Moves}
use Rattle.block_header.specs.declared.margin.Margin.{Margin}

-- each line end took a byte at least
pub record Margins (text : List ℕ) (p : Place) (r : Margin) (d : definition.Margin) : Type 0 where
  pub breaks : r.breaks ≡ d.breaks
  pub moves : Moves text p r.place d.place
  pub few : p.at + r.breaks ≤ r.place.at

-- a margin goes on with the character c
abbrev pub margin_goes : ℕ → Mark → ℕ → Bool
margin_goes column m c = (eqb c space && ltb m.col column) || is_break c

-- behind a margin stands a character that it does not go on with
pub margin_ends : (column n : ℕ) (m : Mark) (cs : List ℕ)
    → margin_goes column (margin column n m cs).place.mark (peek (margin column n m cs).place.rest 0) ≡ false
unfolding margin is_break
margin_ends column n m [] = refl
margin_ends column n m (c ∷ cs) =
    by_test (margin_goes column m c)
    (λ e. rw (margin_more column n m c cs e) (margin_ends column (n + ends_line c (peek cs 0)) (over m c (peek cs 0)) cs))
    (λ e. rw (margin_stop column n m c cs e) e)
