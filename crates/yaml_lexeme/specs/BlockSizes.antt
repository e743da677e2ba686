-- Block scalars are paid (as Sizes has it): each line feed by a break, and one more by the indicator, for a last line that has no break.
use Rattle.std.specs.Prelude.{◌*◌, ◌+◌, ◌≤◌, max, suc, ℕ, Bool, ◌&&◌, ◌||◌, false, true, List, [], ◌++◌, ◌∷◌, refl, eqb, leb, ltb}
use Rattle.std.proofs.Common.{arith}
use Rattle.yaml_text.specs.declared.Mark.{Mark}
use Rattle.yaml_text.specs.Pick.{pick}
use Rattle.yaml_text.specs.Char.{line_feed, space}
use Rattle.yaml_text.specs.Utf8.{char_bytes}
use Rattle.yaml_text.specs.Class.{is_blank, is_break, none_left, peek}
use Rattle.yaml_text.specs.Mark.{Place, Run, ends_line, half_break, here, look, over, skip_break, skip_by}
use Rattle.yaml_text.specs.Test.{by_pick, by_test}
use Rattle.yaml_text.specs.All.{All, all_bind, all_need, all_weak, holds, not_read}
use Rattle.yaml_text.specs.PlaceLaws.{left, skip_break_fit}
use Rattle.yaml_lexeme.specs.declared.Chomping.{Chomping}
use Rattle.yaml_lexeme.specs.declared.Chomping.TheVariants.{Clip, Keep, Strip}
use Rattle.yaml_lexeme.specs.declared.Style.{Style}
use Rattle.yaml_lexeme.specs.Token.{Lexeme, kind_bytes, size}
use Rattle.yaml_lexeme.specs.Role.{role}
use Rattle.yaml_lexeme.specs.Block.{BetweenLines, ContentTurn, Layout, Line, Margin, after_content, ahead, behind, between, block_content, chomped, content, content_column, content_end, content_stops, content_turn, inside, lines_after, lines_on, margin, no_content, opening_turn, opens_content, own_break, scan_block_scalar, separator, writes}
use Rattle.yaml_lexeme.specs.Fits.{blanks_and_comment_fit}
use Rattle.yaml_lexeme.specs.BlockFits.{indicators_fit}
use Rattle.yaml_lexeme.specs.Sizes.{Lexed, Pays, PaysRun, fold_size, size_append, size_cons, size_feeds, size_fits, size_first, size_nil, size_one, width, width_some}

-- the line feeds that were paid for the lines behind which a character stands
abbrev due : BetweenLines → ℕ
due (ahead n) = n
due (behind w n) = suc n

abbrev owed : Line → ℕ
owed (between l) = due l
owed (inside w) = 0

separator_paid : (literal blank : Bool) (l : BetweenLines) → size (separator literal blank l) ≤ due l
unfolding separator
separator_paid literal blank (ahead n) = omega (arith, size_feeds n)
separator_paid literal blank (behind w n) =
    by_pick (λ (t : List ℕ). size t ≤ suc n) (literal || w || blank) _ _ (omega (arith, size_feeds (suc n))) (fold_size (suc n))

own_paid : (l : Line) → size (own_break l) + size (lines_after l) ≤ owed l
unfolding own_break lines_after char_bytes
own_paid (between (ahead n)) = omega (arith, size_nil, size_feeds n)
own_paid (between (behind w n)) = omega (arith, size_one line_feed, size_feeds n)
own_paid (inside w) = omega (arith, size_nil)

last_one : (last : Bool) → size (pick last (line_feed ∷ []) []) ≤ 1
unfolding char_bytes
last_one true = omega (arith, size_one line_feed)
last_one false = omega (arith, size_nil)

-- one more than those, for a last line that has no break
chomped_paid : (k : Chomping) (last : Bool) (l : Line) → size (chomped k last l) ≤ 1 + owed l
unfolding chomped
chomped_paid Strip last l = omega (arith, size_nil)
chomped_paid Clip last l = let t = pick last (line_feed ∷ []) [] in omega (arith, own_paid l, last_one last, size_append (own_break l) t)
chomped_paid Keep last l =
    let t = pick last (line_feed ∷ []) [] in
    omega (arith, own_paid l, last_one last, size_append (own_break l) t, size_append (own_break l ++ t) (lines_after l))

lines_on_paid : (n : ℕ) (l : BetweenLines) → due (lines_on n l) ≤ n + due l
unfolding lines_on
lines_on_paid n (ahead k) = omega arith
lines_on_paid n (behind w k) = omega arith

ends_one : (c d : ℕ) → ends_line c d ≤ 1
unfolding ends_line
ends_one c d =
    by_pick (λ (n : ℕ). n ≤ 1) (half_break c d) _ _ (omega arith) (by_pick (λ (n : ℕ). n ≤ 1) (is_break c) _ _ (omega arith) (omega arith))

-- a turn over the character c
abbrev PaysContent : ℕ → ℕ → ContentTurn → Type 0
PaysContent k c (writes t l) = 2 * size t + 2 * owed l ≤ 2 * k + 3 * width c
PaysContent k c content_stops = Unit {0}

opening_pays : (b : Layout) (l : BetweenLines) (m : Mark) (c : ℕ) (cs : List ℕ) → PaysContent (due l) c (opening_turn b l m c cs)
unfolding opening_turn
opening_pays b l m c cs =
    by_test ((eqb c space && ltb m.col b.column) || is_break c)
    (λ e. rw (e, opening_turn) (omega (arith, size_nil, (width_some c).0, ends_one c (peek cs 0), lines_on_paid (ends_line c (peek cs 0)) l)))
    (λ e. rw (e, opening_turn) (by_pick (PaysContent (due l) c) (eqb m.col b.column && opens_content m (c ∷ cs)) _ _
    (omega (arith, size_append (separator b.literal (is_blank c) l) (c ∷ []), size_one c, separator_paid b.literal (is_blank c) l)) tt))

turn_pays : (b : Layout) (l : Line) (m : Mark) (c : ℕ) (cs : List ℕ) → PaysContent (owed l) c (content_turn b l m c cs)
unfolding content_turn
turn_pays b (between l) m c cs = opening_pays b l m c cs
turn_pays b (inside w) m c cs =
    by_pick (PaysContent 0 c) (is_break c) _ _
    (by_pick (λ (l : Line). 2 * size [] + 2 * owed l ≤ 2 * 0 + 3 * width c) (half_break c (peek cs 0)) _ _
    (omega (arith, size_nil)) (omega (arith, size_nil, (width_some c).0)))
    (omega (arith, size_one c))

turned_pays : (k c : ℕ) (cs : List ℕ) (t : ContentTurn) (go : Line → Run) (end : Run) → PaysContent k c t → ((l : Line) → PaysRun (1 + owed l) cs (go l))
    → PaysRun (1 + k) (c ∷ cs) end → PaysRun (1 + k) (c ∷ cs) (after_content t go end)
turned_pays k c cs (writes t l) go end h f g = omega (arith, size_append t (go l).text, size_cons c cs, f l)
turned_pays k c cs content_stops go end h f g = g

end_pays : (b : Layout) (l : Line) (p : Place) → PaysRun (1 + owed l) p.rest (content_end b l p)
end_pays b l p = omega (arith, chomped_paid b.chomping (none_left p.rest && leb (max b.column 1) p.mark.col) l)

content_pays : (b : Layout) (l : Line) (m : Mark) (cs : List ℕ) → PaysRun (1 + owed l) cs (content b l m cs)
unfolding content
content_pays b l m [] = end_pays b l (here m [])
content_pays b l m (c ∷ cs) =
    turned_pays (owed l) c cs (content_turn b l m c cs) _ _ (turn_pays b l m c cs) (λ l'. content_pays b l' (over m c (peek cs 0)) cs)
    (end_pays b l (here m (c ∷ cs)))

margin_pays : (column n : ℕ) (m : Mark) (cs : List ℕ) → Pays n cs (margin column n m cs).breaks (margin column n m cs).place.rest
unfolding margin
margin_pays column n m [] = omega arith
margin_pays column n m (c ∷ cs) =
    by_test ((eqb c space && ltb m.col column) || is_break c)
    (λ e. rw (e, margin) (omega (arith, size_cons c cs, (width_some c).0, ends_one c (peek cs 0), margin_pays column (n + ends_line c (peek cs 0)) (over m c (peek cs 0)) cs)))
    (λ e. rw (e, margin) (omega arith))

no_content_paid : (k : Chomping) (n : ℕ) (part : Bool) → size (no_content k n part) ≤ 1 + n
unfolding no_content char_bytes
no_content_paid Strip n part = omega (arith, size_nil)
no_content_paid Clip n part = omega (arith, size_nil)
no_content_paid Keep n part =
    by_pick (λ (t : List ℕ). size t ≤ 1 + n) (eqb n 0 && part) _ _ (omega (arith, size_one line_feed)) (omega (arith, size_feeds n))

block_content_lexed : (b : Layout) (style : Style) (parent : ℕ) (start : Mark) (g : Margin)
    → All Lexeme (Lexed (1 + g.breaks) g.place.rest) (block_content b style parent start g)
unfolding block_content kind_bytes role
block_content_lexed b style parent start g =
    let p = g.place in
    let part = ltb start.line p.mark.line && ltb 0 p.mark.col in
    by_test (none_left p.rest)
    (λ e. let h : Pays (1 + g.breaks) p.rest (size (no_content b.chomping g.breaks part)) p.rest = omega (arith, no_content_paid b.chomping g.breaks part) in
    rw (e, block_content) (holds (record { neutral = refl; paid = h })))
    (λ e. by_test (opens_content p.mark p.rest && ltb p.mark.col b.column && leb parent p.mark.col)
    (λ f. rw (e, f, block_content) not_read)
    (λ f. rw (e, f, block_content) (holds (record { neutral = refl; paid = content_pays b (between (ahead g.breaks)) p.mark p.rest }))))

pub block_scalar_lexed : (literal : Bool) (parent : ℕ) (p : Place) → 1 ≤ left p → All Lexeme (Lexed 0 p.rest) (scan_block_scalar literal parent p)
unfolding scan_block_scalar
block_scalar_lexed literal parent p some =
    all_bind _ (indicators_fit p.mark (skip_by 1 p))
    (λ h f. all_bind _ (blanks_and_comment_fit h.place)
    (λ e g. all_need _ 30 p.mark _ (all_need _ 31 p.mark _
    (let q = skip_break e in
    let column = content_column parent h.increment q in
    all_weak (λ l b. record {
      neutral = b.neutral;
      paid = omega (arith, b.paid, size_first p.rest some, (width_some (look p)).0, size_fits f, size_fits g, size_fits (skip_break_fit e), margin_pays column 0 q.mark q.rest);
    })
    (block_content_lexed _ _ parent p.mark (margin column 0 q.mark q.rest))))))
