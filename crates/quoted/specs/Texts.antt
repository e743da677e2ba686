-- The characters of a quoted scalar's text that stand for themselves; what a turn takes, and where it goes on.
use Rattle.std.specs.Prelude.{suc, zero, ℕ, Bool, ◌&&◌, ◌||◌, false, not, true, List, [], ◌++◌, ◌∷◌, eqb, leb, drop}
use Rattle.yaml_text.specs.declared.Mark.{Mark}
use Rattle.yaml_text.specs.Char.{backslash, double_quote, single_quote, space}
use Rattle.yaml_text.specs.Class.{is_blank, is_break, peek}
use Rattle.yaml_text.specs.Mark.{Place, Run, along, before_run, break_length, edge_of, here, new_line, nothing_at, over}
use Rattle.yaml_text.specs.Pick.{pick}
use Rattle.yaml_lexeme.specs.Quoted.{Mode, Quote, QuotedTurn, broken, chars_of, closes, folds_to, goes, quoted_blank, quoted_char, wrong_quote}

-- the quote of a scalar
abbrev pub quote_by : Bool → ℕ
quote_by single = pick single single_quote double_quote

-- a run of text ends here
unfoldable pub special : Bool → ℕ → Bool
special single c = is_blank c || is_break c || eqb c (quote_by single) || (not single && eqb c backslash)

unfoldable pub text_char : Bool → ℕ → Bool
text_char single c = not (special single c)

-- from ( to [, and from ] up
unfoldable pub ordinary : ℕ → Bool
ordinary b = (leb 40 b && leb b 91) || (leb 93 b && leb b 127)

-- where spaces count: one before d, which stands for itself
unfoldable pub inner : Bool → ℕ → ℕ → Bool
inner spaces c d = spaces && eqb c space && ordinary d

-- text that stands for itself, and single spaces in it where they count
unfoldable pub words : Bool → Bool → Mark → List ℕ → Run
words spaces single m [] = nothing_at (here m [])
words spaces single m (c ∷ cs) =
    elim (text_char single c || inner spaces c (peek cs 0)) [
      | true ↦ before_run (c ∷ []) (words spaces single (along m) cs)
      | false ↦ nothing_at (here m (c ∷ cs))
    ]

-- what a turn takes: its text, what comes right before the place where it goes on, and that place
pub record Stretch : Type 0 where
  pub text : List ℕ
  pub mode : Mode
  pub place : Place

-- n characters on
unfoldable pub passing : ℕ → Mark → List ℕ → Place
passing zero m cs = here m cs
passing (suc n) m [] = here m []
passing (suc n) m (c ∷ cs) = passing n (over m c (peek cs 0)) cs

-- by a turn of the definition, from behind its character
abbrev pub stretch_by : QuotedTurn → Mark → List ℕ → Stretch
stretch_by (goes t b n) m cs = record { text = t; mode = b; place = passing n m cs }
stretch_by (closes t) m cs = record { text = t; mode = chars_of; place = here m cs }
stretch_by (wrong_quote n k) m cs = record { text = []; mode = chars_of; place = here m cs }

abbrev pub stretch_of : Run → Stretch
stretch_of r = record { text = r.text; mode = chars_of; place = r.place }

-- a text before it
abbrev pub before_stretch : List ℕ → Stretch → Stretch
before_stretch t d = record { text = t ++ d.text; mode = d.mode; place = d.place }

-- that of a turn of the code which begins with a character of the text: a run that stands for itself, or the definition's turn.
-- Blanks are held against the indent: not below it, a space in a line of text is text
unfoldable pub char_stretch : Quote → Mark → ℕ → List ℕ → Stretch
char_stretch q m c cs =
    elim (text_char q.single c) [
      | true ↦ stretch_of (words (leb q.indent (edge_of m)) q.single m (c ∷ cs))
      | false ↦ stretch_by (quoted_char q [] c cs) (along m) cs
    ]

-- behind what was kept back; a blank is kept back, and so is a break, which is one turn
unfoldable pub turn_stretch : Quote → Mode → Mark → List ℕ → Stretch
turn_stretch q b m cs =
    elim (is_blank (peek cs 0)) [
      | true ↦ stretch_by (quoted_blank q m (peek cs 0) b) (along m) (drop 1 cs)
      | false ↦ elim (is_break (peek cs 0)) [
        | true ↦ record { text = []; mode = broken b; place = here (new_line (break_length cs) m) (drop (break_length cs) cs) }
        | false ↦ before_stretch (folds_to b) (char_stretch q m (peek cs 0) (drop 1 cs))
      ]
    ]
