-- Moving a mark over text ("Marks and records"), and places: what is left of the text, with its mark.
use Rattle.std.specs.Prelude.{◌+◌, ℕ, Bool, ◌&&◌, ◌||◌, false, true, List, [], ◌++◌, ◌∷◌, eqb, drop}
use Rattle.yaml_text.specs.declared.Mark.{Mark}
use Rattle.yaml_text.specs.Pick.{pick}
use Rattle.yaml_text.specs.Char.{'-', carriage_return, dot, line_feed}
use Rattle.yaml_text.specs.Class.{is_blank_or_breakz, is_break, peek}

abbrev pub origin : Mark
origin = record { index = 0; line = 1; col = 0 }

-- the column + 1, to hold against the indent
abbrev pub edge_of : Mark → ℕ
edge_of m = m.col + 1

-- over n characters that are no breaks
abbrev pub along_by : ℕ → Mark → Mark
along_by n m = record { index = m.index + n; line = m.line; col = m.col + n }

-- over a character that is no break
abbrev pub along : Mark → Mark
along m = along_by 1 m

-- over a break of n characters
abbrev pub new_line : ℕ → Mark → Mark
new_line n m = record { index = m.index + n; line = m.line + 1; col = 0 }

-- a byte order mark token adds 1 to index and nothing to col
abbrev pub over_bom : Mark → Mark
over_bom m = record { index = m.index + 1; line = m.line; col = m.col }

-- the character c before the character d is the CR of a CR LF, which is one break: its LF ends the line
unfoldable pub half_break : ℕ → ℕ → Bool
half_break c d = eqb c carriage_return && eqb d line_feed

-- over the character c, before the character d: LF, CR and CR LF are each one break
unfoldable pub over : Mark → ℕ → ℕ → Mark
over m c d =
    pick (half_break c d) (record { index = m.index + 1; line = m.line; col = m.col })
    (pick (is_break c) (new_line 1 m) (along m))

-- how many lines end with the character c, before the character d
unfoldable pub ends_line : ℕ → ℕ → ℕ
ends_line c d = pick (half_break c d) 0 (pick (is_break c) 1 0)

-- what is left of the text, with the mark of its first character
pub record Place : Type 0 where
  pub rest : List ℕ
  pub mark : Mark

abbrev pub here : Mark → List ℕ → Place
here m cs = record { rest = cs; mark = m }

-- the character here; 0 at the end
abbrev pub look : Place → ℕ
look p = peek p.rest 0

-- n characters on, none of them a break
abbrev pub skip_by : ℕ → Place → Place
skip_by n p = here (along_by n p.mark) (drop n p.rest)

-- how many characters the break here takes; 0: no break stands here
unfoldable pub break_length : List ℕ → ℕ
break_length cs = pick (half_break (peek cs 0) (peek cs 1)) 2 (pick (is_break (peek cs 0)) 1 0)

-- past the break, if one stands here
unfoldable pub skip_break : Place → Place
skip_break p =
    let n = break_length p.rest in
    pick (eqb n 0) p (here (new_line n p.mark) (drop n p.rest))

-- `---` or `...` at column 0, before blank, break or end
unfoldable pub is_marker : Mark → List ℕ → Bool
is_marker m cs =
    eqb m.col 0
    && (eqb (peek cs 0) '-' || eqb (peek cs 0) dot)
    && eqb (peek cs 1) (peek cs 0)
    && eqb (peek cs 2) (peek cs 0)
    && is_blank_or_breakz (peek cs 3)

-- the text of a run of characters, with the place behind it
pub record Run : Type 0 where
  pub text : List ℕ
  pub place : Place

abbrev pub nothing_at : Place → Run
nothing_at p = record { text = []; place = p }

-- further text before a run
abbrev pub before_run : List ℕ → Run → Run
before_run t r = record { text = t ++ r.text; place = r.place }

-- the longest run of characters of a class without breaks
unfoldable pub run_of : (ℕ → Bool) → Mark → List ℕ → Run
run_of p m [] = nothing_at (here m [])
run_of p m (c ∷ cs) =
    elim (p c) [
      | true ↦ before_run (c ∷ []) (run_of p (along m) cs)
      | false ↦ nothing_at (here m (c ∷ cs))
    ]
