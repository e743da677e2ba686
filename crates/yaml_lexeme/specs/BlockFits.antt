-- Block scalars go on in the text (as Fits has it). The token may start further on than its indicator, but then the indicator's line is over.
use Rattle.std.specs.Prelude.{◌+◌, ◌<◌, ◌≤◌, ℕ, Bool, ◌&&◌, ◌||◌, false, true, List, [], ◌∷◌, ◌⊎◌, ◌≡◌, refl, eqb, ltb, length}
use Rattle.yaml_text.specs.declared.Mark.{Mark}
use Rattle.yaml_text.specs.Char.{space}
use Rattle.yaml_text.specs.Class.{is_break, is_digit, peek}
use Rattle.yaml_text.specs.Mark.{Place, Run, ends_line, here, look, over, skip_by}
use Rattle.yaml_text.specs.Test.{by_test, on_pick}
use Rattle.yaml_text.specs.All.{All, all_any, all_bind, holds}
use Rattle.yaml_text.specs.DecodeLaws.{NoNul}
use Rattle.yaml_text.specs.PlaceLaws.{FurtherOn, fits_over, fits_refl, skip_fit, there}
use Rattle.yaml_lexeme.specs.Token.{Lexeme}
use Rattle.yaml_lexeme.specs.Block.{ContentTurn, Header, Layout, Line, after_content, content, content_stops, content_turn, increment_of, indicators, is_chomp, margin, one_if, writes}
use Rattle.yaml_lexeme.specs.Fits.{FitsRun}

content_turned : {q : Place} (t : ContentTurn) (go : Line → Run) (end : Run) → ((l : Line) → FitsRun q (go l)) → FitsRun q end → FitsRun q (after_content t go end)
content_turned (writes t l) go end h k = h l
content_turned content_stops go end h k = k

pub content_fit : (b : Layout) (l : Line) (m : Mark) (cs : List ℕ) → FitsRun (here m cs) (content b l m cs)
unfolding content
content_fit b l m [] = fits_refl _
content_fit b l m (c ∷ cs) =
    content_turned (content_turn b l m c cs) _ _
    (λ l'. fits_over m c (peek cs 0) cs (content_fit b l' (over m c (peek cs 0)) cs))
    (fits_refl _)

pub margin_fit : (column n : ℕ) (m : Mark) (cs : List ℕ) → FurtherOn (here m cs) (margin column n m cs).place
unfolding margin
margin_fit column n m [] = fits_refl _
margin_fit column n m (c ∷ cs) =
    by_test ((eqb c space && ltb m.col column) || is_break c)
    (λ e. rw (e, margin) (fits_over m c (peek cs 0) cs (margin_fit column (n + ends_line c (peek cs 0)) (over m c (peek cs 0)) cs)))
    (λ e. rw (e, margin) (fits_refl _))

-- an indicator, and the one behind it if it stands there
both_there : (f g : ℕ → Bool) (cs : List ℕ) → f 0 ≡ false → g 0 ≡ false → f (peek cs 0) ≡ true → 1 + one_if (g (peek cs 1)) ≤ length cs
both_there f g cs e e' h =
    on_pick (λ n. 1 + n ≤ length cs) (g (peek cs 1)) (λ k. there g cs 1 e' k) (λ _. there f cs 0 e h)

pub indicators_fit : (start : Mark) (p : Place) → All Header (λ h. FurtherOn p h.place) (indicators start p)
unfolding indicators is_chomp is_digit
indicators_fit start p =
    by_test (is_chomp (look p))
    (λ e. rw (e, indicators) (all_bind _ (all_any (increment_of start (peek p.rest 1)))
    (λ _ _. holds (skip_fit _ p (both_there is_chomp is_digit p.rest refl refl e)))))
    (λ e. rw (e, indicators) (by_test (is_digit (look p))
    (λ f. rw (f, indicators) (all_bind _ (all_any (increment_of start (look p)))
    (λ _ _. holds (skip_fit _ p (both_there is_digit is_chomp p.rest refl refl f)))))
    (λ f. rw (f, indicators) (all_bind _ (all_any (increment_of start (look p))) (λ _ _. holds (fits_refl p))))))

-- it takes its indicator; its token starts there, or its line is over
pub record ReadsBlock (p : Place) (l : Lexeme) : Type 0 where
  pub onward : FurtherOn (skip_by 1 p) l.place
  pub starts : NoNul p.rest → (l.token.start ≡ p.mark) ⊎ (p.mark.line < l.place.mark.line)
