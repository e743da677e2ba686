-- K1: gaps between tokens; and the blanks and comment that are read after a token (44, 45).
use Rattle.std.specs.Prelude.{ℕ, Bool, ◌&&◌, ◌||◌, false, not, true, List, [], ◌∷◌, eqb}
use Rattle.yaml_text.specs.declared.Mark.{Mark}
use Rattle.yaml_lexeme.specs.declared.Before.{Before}
use Rattle.yaml_lexeme.specs.declared.Before.TheVariants.{AfterText, InComment, Leading, Spaced, Tabbed}
use Rattle.yaml_text.specs.Pick.{pick}
use Rattle.yaml_text.specs.Char.{'#', tab}
use Rattle.yaml_text.specs.Class.{is_blank, is_break, peek}
use Rattle.yaml_text.specs.Mark.{Place, along, here, look, over}
use Rattle.yaml_text.specs.Refusal.{Read, got, refused}

-- a gap's turn over one character
pub data GapTurn : Type 0 where
  -- pass over it; whether a simple key is allowed from here on
  pass : Before → Bool → GapTurn
  -- it begins a token
  stop : GapTurn
  wrong : ℕ → Mark → GapTurn

-- a tab among the leading blanks counts at level 0 only; the first one is kept [D4 to D7]
unfoldable pub on_blank : Bool → Mark → ℕ → Before → Before
on_blank flow m c Leading = pick (not flow && eqb c tab) (Tabbed m) Leading
on_blank flow m c (Tabbed t) = Tabbed t
on_blank flow m c Spaced = Spaced
on_blank flow m c AfterText = Spaced
on_blank flow m c InComment = InComment

-- 44: '#' not at column 0 nor after a blank
unfoldable pub on_hash : Mark → Before → GapTurn
on_hash m Leading = pass InComment false
on_hash m (Tabbed t) = pass InComment false
on_hash m Spaced = pass InComment false
on_hash m AfterText = wrong 44 m
on_hash m InComment = pass InComment false

-- 45: tab in leading blanks, at the first such tab
unfoldable pub on_other : Before → GapTurn
on_other Leading = stop
on_other (Tabbed t) = wrong 45 t
on_other Spaced = stop
on_other AfterText = stop
on_other InComment = pass InComment false

-- a break at flow level 0 allows a simple key; comments run to the break
unfoldable pub gap_turn : Bool → Before → Mark → ℕ → GapTurn
gap_turn flow b m c =
    pick (is_break c) (pass Leading (not flow))
    (pick (is_blank c) (pass (on_blank flow m c b) false)
    (pick (eqb c '#') (on_hash m b) (on_other b)))

-- only blanks stand between the line's start and here
unfoldable pub is_leading : Before → Bool
is_leading Leading = true
is_leading (Tabbed t) = true
is_leading Spaced = false
is_leading AfterText = false
is_leading InComment = false

pub record Gap : Type 0 where
  pub place : Place
  pub simple_key_allowed : Bool
  pub leading_whitespace : Bool

abbrev pub after_gap_turn : GapTurn → (Before → Bool → Read Gap) → Gap → Read Gap
after_gap_turn (pass b allows) go end = go b allows
after_gap_turn stop go end = got end
after_gap_turn (wrong n m) go end = refused n m

-- the gap that begins here: behind b, with a simple key allowed or not
unfoldable pub skip_gap : Bool → Bool → Before → Mark → List ℕ → Read Gap
skip_gap flow allowed b m [] = got (record { place = here m []; simple_key_allowed = allowed; leading_whitespace = is_leading b })
skip_gap flow allowed b m (c ∷ cs) =
    after_gap_turn (gap_turn flow b m c)
    (λ b' allows. skip_gap flow (allowed || allows) b' (over m c (peek cs 0)) cs)
    (record { place = here m (c ∷ cs); simple_key_allowed = allowed; leading_whitespace = is_leading b })

-- past the blanks here
unfoldable pub blanks : Mark → List ℕ → Place
blanks m [] = here m []
blanks m (c ∷ cs) =
    elim (is_blank c) [
      | true ↦ blanks (along m) cs
      | false ↦ here m (c ∷ cs)
    ]

-- to the line's end
unfoldable pub to_break : Mark → List ℕ → Place
to_break m [] = here m []
to_break m (c ∷ cs) =
    elim (is_break c) [
      | true ↦ here m (c ∷ cs)
      | false ↦ to_break (along m) cs
    ]

-- the comment after blanks; 44 where no blank came before it
unfoldable pub comment_after : Bool → Place → Read Place
comment_after blank p =
    elim (eqb (look p) '#') [
      | true ↦ elim blank [
        | true ↦ got (to_break p.mark p.rest)
        | false ↦ refused 44 p.mark
      ]
      | false ↦ got p
    ]

-- the blanks and comment read after a directive, a block header, a quoted scalar, a bracket, ',' and `...` [I1, I2]
unfoldable pub blanks_and_comment : Place → Read Place
blanks_and_comment p = comment_after (is_blank (look p)) (blanks p.mark p.rest)
