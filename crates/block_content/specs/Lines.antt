-- The definition's content without its end, which goes character by character, told line by line.
use Rattle.std.specs.Prelude.{◌+◌, ℕ, Bool, ◌&&◌, ◌||◌, false, true, ◌≡◌, eqb, drop}
use Rattle.std.proofs.Math.Bool.{and-false}
use mathlib.Core.List.{List, [], ◌++◌, ◌∷◌, append_assoc}
use Rattle.std.proofs.Common.{◌∙◌, ap, sym}
use Rattle.std.proofs.Math.Path.{refl}
use Rattle.std.proofs.Math.Dec.{ltb}
use Rattle.yaml_text.specs.declared.Mark.{Mark}
use Rattle.yaml_text.specs.Char.{carriage_return, line_feed, space}
use Rattle.yaml_text.specs.Class.{is_blank, is_break, is_breakz, is_z, none_left, peek}
use Rattle.yaml_text.specs.Mark.{Place, Run, along, before_run, ends_line, half_break, here, new_line, over, run_of, skip_break}
use Rattle.yaml_text.specs.MarkLaws.{over_along, over_break, over_crlf}
use Rattle.yaml_text.specs.Test.{by_test, true_false}
use Rattle.block_header.specs.Margin.{margin_goes}
use Rattle.yaml_lexeme.specs.declared.Chomping.{Chomping}
use Rattle.yaml_lexeme.specs.declared.Chomping.TheVariants.{Clip, Keep, Strip}
use Rattle.yaml_lexeme.specs.Block.{BetweenLines, ContentTurn, Layout, Line, after_content, ahead, behind, between, chomped, content, content_end, content_stops, content_turn, inside, lines_after, lines_on, margin, opening_turn, opens_content, own_break, separator, writes}
use Rattle.yaml_lexeme.specs.Turns.{content_turned, margin_more, margin_stop}
use Rattle.gaps.specs.Breaks.{Breaks, none, one, two}
use Rattle.gaps.specs.Line.{line, line_more, line_stop}

-- the content from a place on
abbrev pub content_from : Layout → Line → Place → Run
content_from b l p = content b l p.mark p.rest

-- the content without its end: its text, what is pending behind it, and the place there
pub record ContentLines : Type 0 where
  pub text : List ℕ
  pub line : BetweenLines
  pub place : Place

abbrev pub before_lines : List ℕ → ContentLines → ContentLines
before_lines t y = record { text = t ++ y.text; line = y.line; place = y.place }

-- at the text's end, in a line without a break, nothing is pending, as before the first line
abbrev pub pending_at : Line → BetweenLines
pending_at (between l) = l
pending_at (inside w) = ahead 0

abbrev pub lines_end : Line → Place → ContentLines
lines_end l p = record { text = []; line = pending_at l; place = p }

abbrev after_lines : ContentTurn → (Line → ContentLines) → ContentLines → ContentLines
after_lines (writes t l) go end = before_lines t (go l)
after_lines content_stops go end = end

unfoldable pub content_lines : Layout → Line → Mark → List ℕ → ContentLines
content_lines b l m [] = lines_end l (here m [])
content_lines b l m (c ∷ cs) =
    after_lines (content_turn b l m c cs) (λ l'. content_lines b l' (over m c (peek cs 0)) cs) (lines_end l (here m (c ∷ cs)))

abbrev pub lines_from : Layout → Line → Place → ContentLines
lines_from b l p = content_lines b l p.mark p.rest

lines_turned : (b : Layout) (l : Line) (m : Mark) (c : ℕ) (cs : List ℕ)
    → content_lines b l m (c ∷ cs)
    ≡ after_lines (content_turn b l m c cs) (λ l'. content_lines b l' (over m c (peek cs 0)) cs) (lines_end l (here m (c ∷ cs)))
unfolding content_lines
lines_turned b l m c cs = refl

-- with its end they are the content

end_chomped : (k : Chomping) (last w : Bool) → chomped k last (inside w) ≡ chomped k last (between (ahead 0))
unfolding chomped own_break lines_after
end_chomped Strip last w = refl
end_chomped Clip last w = refl
end_chomped Keep last w = refl

end_pending : (b : Layout) (l : Line) (p : Place) → content_end b l p ≡ content_end b (between (pending_at l)) p
end_pending b (between l) p = refl
end_pending b (inside w) p = rw (end_chomped b.chomping)

abbrev pub with_end : Layout → ContentLines → Run
with_end b y = before_run y.text (content_end b (between y.line) y.place)

turn_with_end : (b : Layout) (l : Line) (p : Place) (go : Line → Run) (lines : Line → ContentLines) → ((l' : Line) → go l' ≡ with_end b (lines l')) → (t : ContentTurn)
    → after_content t go (content_end b l p) ≡ with_end b (after_lines t lines (lines_end l p))
turn_with_end b l p go lines h (writes t l') = rw (h l') (simp append_assoc)
turn_with_end b l p go lines h content_stops = end_pending b l p

pub content_with_end : (b : Layout) (l : Line) (m : Mark) (cs : List ℕ) → content b l m cs ≡ with_end b (content_lines b l m cs)
unfolding content content_lines
content_with_end b l m [] = end_pending b l (here m [])
content_with_end b l m (c ∷ cs) =
    content_turned b l m c cs
    ∙ turn_with_end b l (here m (c ∷ cs)) (λ l'. content b l' (over m c (peek cs 0)) cs) (λ l'. content_lines b l' (over m c (peek cs 0)) cs)
    (λ l'. content_with_end b l' (over m c (peek cs 0)) cs) (content_turn b l m c cs)

-- in a content line

inside_turn : (b : Layout) (w : Bool) (m : Mark) (c : ℕ) (cs : List ℕ) → is_break c ≡ false
    → content_lines b (inside w) m (c ∷ cs) ≡ before_lines (c ∷ []) (content_lines b (inside w) (along m) cs)
unfolding content_turn
inside_turn b w m c cs e = lines_turned b (inside w) m c cs ∙ rw (e, over_along m c (peek cs 0) e)

pub inside_runs : (b : Layout) (w : Bool) (m : Mark) (cs : List ℕ)
    → content_lines b (inside w) m cs ≡ before_lines (line m cs).text (lines_from b (inside w) (line m cs).place)
unfolding run_of
inside_runs b w m [] = refl
inside_runs b w m (c ∷ cs) =
    by_test (is_break c)
    (λ e. rw (line_stop m c cs e))
    (λ e. rw (line_more m c cs e) (inside_turn b w m c cs e ∙ ap (before_lines (c ∷ [])) (inside_runs b w (along m) cs)))

pub inside_break : (b : Layout) (w : Bool) (m : Mark) {cs : List ℕ} {n : ℕ} → Breaks cs n → is_break (peek cs 0) ≡ true
    → content_lines b (inside w) m cs ≡ content_lines b (between (behind w 0)) (new_line n m) (drop n cs)
unfolding content_turn is_break half_break
inside_break b w m (two {cs = cs}) h =
    lines_turned b (inside w) m carriage_return (line_feed ∷ cs)
    ∙ lines_turned b (inside w) (over m carriage_return line_feed) line_feed cs
    ∙ rw (over_crlf m (peek cs 0))
inside_break b w m (one {c = c} {cs = cs} e f) h = lines_turned b (inside w) m c cs ∙ rw (e, f, over_break m c (peek cs 0) f e)
inside_break b w m (none e) h = true_false (sym h ∙ e)

-- at the text's end
pub inside_end : (b : Layout) (w : Bool) (m : Mark) (cs : List ℕ) → none_left cs ≡ true → content_lines b (inside w) m cs ≡ content_lines b (between (ahead 0)) m cs
unfolding content_lines none_left
inside_end b w m [] h = refl
inside_end b w m (c ∷ cs) h = true_false (sym h)

-- behind a line stands its break, or nothing
pub line_ends : (m : Mark) (cs : List ℕ) → none_left (line m cs).place.rest ≡ false → is_break (peek (line m cs).place.rest 0) ≡ true
unfolding run_of none_left
line_ends m [] h = true_false h
line_ends m (c ∷ cs) h =
    by_test (is_break c)
    (λ e. rw (line_stop m c cs e) e)
    (λ e. rw (line_more m c cs e) (line_ends (along m) cs (rw (line_more m c cs e) at h)))

-- a turn between content lines
between_turn : (b : Layout) (l : BetweenLines) (m : Mark) (c : ℕ) (cs : List ℕ)
    → content_lines b (between l) m (c ∷ cs)
    ≡ after_lines (opening_turn b l m c cs) (λ l'. content_lines b l' (over m c (peek cs 0)) cs) (lines_end (between l) (here m (c ∷ cs)))
unfolding content_turn
between_turn b l m c cs = lines_turned b (between l) m c cs

opening_goes : (b : Layout) (l : BetweenLines) (m : Mark) (c : ℕ) (cs : List ℕ) → margin_goes b.column m c ≡ true
    → opening_turn b l m c cs ≡ writes [] (between (lines_on (ends_line c (peek cs 0)) l))
unfolding opening_turn
opening_goes b l m c cs e = rw (e, opening_turn)

opening_stops : (b : Layout) (l : BetweenLines) (m : Mark) (c : ℕ) (cs : List ℕ) → margin_goes b.column m c ≡ false
    → (eqb m.col b.column && opens_content m (c ∷ cs)) ≡ false → opening_turn b l m c cs ≡ content_stops
unfolding opening_turn
opening_stops b l m c cs e f = rw (e, f, opening_turn)

opening_opens : (b : Layout) (l : BetweenLines) (m : Mark) (c : ℕ) (cs : List ℕ) → margin_goes b.column m c ≡ false
    → (eqb m.col b.column && opens_content m (c ∷ cs)) ≡ true
    → opening_turn b l m c cs ≡ writes (separator b.literal (is_blank c) l ++ (c ∷ [])) (inside (is_blank c))
unfolding opening_turn
opening_opens b l m c cs e f = rw (e, f, opening_turn)

no_break : (a b : Bool) → (a || b) ≡ false → b ≡ false
no_break true b e = true_false e
no_break false b e = e

-- over the margin, from n lines on
pub margin_runs : (b : Layout) (l : ℕ → BetweenLines) → ((k n : ℕ) → lines_on k (l n) ≡ l (n + k)) → (n : ℕ) (m : Mark) (cs : List ℕ)
    → content_lines b (between (l n)) m cs ≡ lines_from b (between (l (margin b.column n m cs).breaks)) (margin b.column n m cs).place
unfolding margin
margin_runs b l on n m [] = refl
margin_runs b l on n m (c ∷ cs) =
    let k = ends_line c (peek cs 0) in
    by_test (margin_goes b.column m c)
    (λ e. rw (margin_more b.column n m c cs e)
    (between_turn b (l n) m c cs ∙ rw (opening_goes b (l n) m c cs e, on k n) (margin_runs b l on (n + k) (over m c (peek cs 0)) cs)))
    (λ e. rw (margin_stop b.column n m c cs e))

module _ (b : Layout) (l : BetweenLines) where
  -- where no content line opens
  pub content_stop : (m : Mark) (cs : List ℕ) → margin_goes b.column m (peek cs 0) ≡ false
      → (eqb m.col b.column && opens_content m cs) ≡ false → content_lines b (between l) m cs ≡ lines_end (between l) (here m cs)
  unfolding content_lines
  content_stop m [] e f = refl
  content_stop m (c ∷ cs) e f = between_turn b l m c cs ∙ rw (opening_stops b l m c cs e f)

  -- over a content line
  pub content_line : (m : Mark) (cs : List ℕ) → margin_goes b.column m (peek cs 0) ≡ false
      → (eqb m.col b.column && opens_content m cs) ≡ true
      → content_lines b (between l) m cs
      ≡ before_lines (separator b.literal (is_blank (peek cs 0)) l ++ (line m cs).text) (lines_from b (inside (is_blank (peek cs 0))) (line m cs).place)
  unfolding opens_content is_breakz is_z is_break
  content_line m [] e f = true_false (sym f ∙ and-false (eqb m.col b.column))
  content_line m (c ∷ cs) e f =
      let k = no_break (eqb c space && ltb m.col b.column) (is_break c) e in
      rw (line_more m c cs k)
      (between_turn b l m c cs
      ∙ rw (opening_opens b l m c cs e f, over_along m c (peek cs 0) k, inside_runs b (is_blank c) (along m) cs)
      (simp append_assoc))

-- one line

-- behind a content line that opened with a blank or not, and ended at p: past its break and the margin; at the text's end nothing is pending
unfoldable pub behind_line : Layout → Bool → Place → ContentLines
behind_line b blank p =
    elim (none_left p.rest) [
      | true ↦ lines_end (inside blank) p
      | false ↦
          let g = margin b.column 0 (skip_break p).mark (skip_break p).rest in
          lines_end (between (behind blank g.breaks)) g.place
    ]

-- the content line at p, with what stands before it
abbrev pub line_here : Layout → BetweenLines → Place → ContentLines
line_here b l p =
    let blank = is_blank (peek p.rest 0) in
    let e = line p.mark p.rest in
    let y = behind_line b blank e.place in
    record { text = separator b.literal blank l ++ e.text; line = y.line; place = y.place }
