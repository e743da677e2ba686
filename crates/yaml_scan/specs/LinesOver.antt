-- Where a line is over: behind a gap that allows a simple key, and behind a block scalar, unless the text is.
use Rattle.std.specs.Prelude.{◌<◌, ◌≤◌, suc, zero, ℕ, Bool, ◌&&◌, ◌||◌, false, not, true, List, [], ◌∷◌, ◌⊎◌, ◌≡◌, refl, eqb, leb, ltb, drop}
use Rattle.std.proofs.Common.{inl, inr, ◌∙◌, sym, le_refl, arith}
use Rattle.yaml_text.specs.declared.Mark.{Mark}
use Rattle.yaml_text.specs.Char.{'#', carriage_return}
use Rattle.yaml_text.specs.Class.{is_blank, is_break, is_breakz, none_left, peek}
use Rattle.yaml_text.specs.Mark.{Place, half_break, look, over, skip_break, skip_by}
use Rattle.yaml_text.specs.Refusal.{Read}
use Rattle.yaml_text.specs.Test.{both_true, by_test, on_pick, true_false}
use Rattle.yaml_text.specs.All.{All, all_any, all_bind, all_need, all_test, all_weak, holds, not_read}
use Rattle.yaml_text.specs.DecodeLaws.{NoNul, no_nul_drop}
use Rattle.yaml_text.specs.MarkLaws.{over_along, over_break}
use Rattle.yaml_text.specs.PlaceLaws.{FurtherOn, fits_no_nul, fits_refl, fits_trans, skip_break_fit, skip_break_line}
use Rattle.yaml_lexeme.specs.declared.Before.{Before}
use Rattle.yaml_lexeme.specs.declared.Before.TheVariants.{AfterText, InComment, Leading, Spaced, Tabbed}
use Rattle.yaml_lexeme.specs.declared.Style.{Style}
use Rattle.yaml_lexeme.specs.Token.{Lexeme}
use Rattle.yaml_lexeme.specs.Gap.{Gap, GapTurn, after_gap_turn, gap_turn, on_hash, on_other, pass, skip_gap, stop, wrong}
use Rattle.yaml_lexeme.specs.Block.{Layout, Margin, block_content, content_column, margin, opens_content, scan_block_scalar}
use Rattle.yaml_lexeme.specs.Fits.{blanks_and_comment_fit, skip_gap_fit}
use Rattle.yaml_lexeme.specs.BlockFits.{content_fit, indicators_fit, margin_fit}

-- the gap: where no simple key is allowed before it and one is behind it, the line is over

one_line : (m : Mark) (c d : ℕ) → half_break c d ≡ false → is_break c ≡ true → m.line < (over m c d).line
one_line m c d h e = rw (over_break m c d h e) (omega arith)

-- before the end no CR is half a break
half_end : (c : ℕ) → half_break c 0 ≡ false
unfolding half_break
half_end c = and_false (eqb c carriage_return)
  where
    and_false : (b : Bool) → (b && false) ≡ false
    and_false true = refl
    and_false false = refl

half_line : (m : Mark) (c d : ℕ) → half_break c d ≡ true → m.line ≤ (over m c d).line
unfolding over
half_line m c d h = rw h (le_refl _)

-- behind the CR of a CR LF its LF is a break
half_next : (c d : ℕ) → half_break c d ≡ true → is_break d ≡ true
unfolding half_break is_break
half_next c d h = rw (both_true (eqb c carriage_return) _ h).1

-- a break of the gap ends the line
gap_line : (flow allowed : Bool) (b : Before) (m : Mark) (c : ℕ) (cs : List ℕ) → is_break c ≡ true
    → All Gap (λ g. m.line < g.place.mark.line) (skip_gap flow allowed b m (c ∷ cs))
unfolding skip_gap gap_turn
gap_line flow allowed b m c [] e = rw (e, gap_turn) (all_weak (λ g f. omega (arith, f.line_on, one_line m c 0 (half_end c) e)) (skip_gap_fit flow (allowed || not flow) Leading (over m c 0) []))
gap_line flow allowed b m c (d ∷ ds) e =
    rw (e, gap_turn) (by_test (half_break c d)
    (λ h. all_weak (λ g f. omega (arith, f, half_line m c d h)) (gap_line flow (allowed || not flow) Leading (over m c d) d ds (half_next c d h)))
    (λ h. all_weak (λ g f. omega (arith, f.line_on, one_line m c d h e)) (skip_gap_fit flow (allowed || not flow) Leading (over m c d) (d ∷ ds))))

-- any other character allows none
abbrev Forbids : GapTurn → Type 0
Forbids (pass b allows) = allows ≡ false
Forbids stop = Unit {0}
Forbids (wrong n m) = Unit {0}

hash_forbids : (m : Mark) (b : Before) → Forbids (on_hash m b)
unfolding on_hash
hash_forbids m Leading = refl
hash_forbids m (Tabbed t) = refl
hash_forbids m Spaced = refl
hash_forbids m AfterText = tt
hash_forbids m InComment = refl

other_forbids : (b : Before) → Forbids (on_other b)
unfolding on_other
other_forbids Leading = tt
other_forbids (Tabbed t) = tt
other_forbids Spaced = tt
other_forbids AfterText = tt
other_forbids InComment = refl

turn_forbids : (flow : Bool) (b : Before) (m : Mark) (c : ℕ) → is_break c ≡ false → Forbids (gap_turn flow b m c)
unfolding gap_turn
turn_forbids flow b m c e =
    rw e (on_pick Forbids (is_blank c) (λ _. refl) (λ _. on_pick Forbids (eqb c '#') (λ _. hash_forbids m b) (λ _. other_forbids b)))

turned : {P : Gap → Type 0} (t : GapTurn) (go : Before → Bool → Read Gap) (end : Gap) → Forbids t → ((b : Before) → All Gap P (go b false)) → P end
    → All Gap P (after_gap_turn t go end)
turned (pass b allows) go end f h k = rw f (h b)
turned stop go end f h k = holds k
turned (wrong n m) go end f h k = not_read

gap_calm : (flow : Bool) (b : Before) (m : Mark) (cs : List ℕ) → All Gap (λ g. (g.simple_key_allowed ≡ false) ⊎ (m.line < g.place.mark.line)) (skip_gap flow false b m cs)
unfolding skip_gap
gap_calm flow b m [] = holds (inl refl)
gap_calm flow b m (c ∷ cs) =
    by_test (is_break c)
    (λ e. all_weak (λ g f. inr f) (gap_line flow false b m c cs e))
    (λ e. turned (gap_turn flow b m c) _ _ (turn_forbids flow b m c e) (λ b'. rw (over_along m c (peek cs 0) e) (gap_calm flow b' _ cs)) (inl refl))

pub gap_forbids : (flow allowed : Bool) (b : Before) (m : Mark) (cs : List ℕ)
    → All Gap (λ g. allowed ≡ false → (g.simple_key_allowed ≡ false) ⊎ (m.line < g.place.mark.line)) (skip_gap flow allowed b m cs)
gap_forbids flow true b m cs = all_weak (λ g _ e. true_false e) (all_any (skip_gap flow true b m cs))
gap_forbids flow false b m cs = all_weak (λ g h _. h) (gap_calm flow b m cs)

-- behind the end there is nothing
pub none_further : {p q : Place} → FurtherOn p q → p.rest ≡ [] → q.rest ≡ []
none_further f e = f.rest_is ∙ rw e (drop_none f.taken)
  where
    drop_none : (n : ℕ) → drop {A = ℕ} n [] ≡ []
    drop_none zero = refl
    drop_none (suc n) = refl

-- block scalars: the line is over behind them, or the text is

block_content_fit : (b : Layout) (style : Style) (parent : ℕ) (start : Mark) (g : Margin) → All Lexeme (λ l. FurtherOn g.place l.place) (block_content b style parent start g)
unfolding block_content
block_content_fit b style parent start g =
    by_test (none_left g.place.rest)
    (λ e. rw (e, block_content) (holds (fits_refl _)))
    (λ e. by_test (opens_content g.place.mark g.place.rest && ltb g.place.mark.col b.column && leb parent g.place.mark.col)
    (λ f. rw (e, f, block_content) not_read)
    (λ f. rw (e, f, block_content) (holds (content_fit b _ g.place.mark g.place.rest))))

-- a break or the end, and no break
the_end : (cs : List ℕ) → NoNul cs → is_breakz (peek cs 0) ≡ true → is_break (peek cs 0) ≡ false → cs ≡ []
unfolding is_breakz
the_end [] n z e = refl
the_end (c ∷ cs) n z e = true_false (sym (rw (e, n.0) at z))

-- e: behind the header, q: behind the scalar
header_over : {p e q : Place} → FurtherOn p e → is_breakz (look e) ≡ true → FurtherOn (skip_break e) q → NoNul p.rest
    → (p.mark.line < q.mark.line) ⊎ (q.rest ≡ [])
header_over {e} f z g n =
    by_test (is_break (look e))
    (λ b. inl (omega (arith, f.line_on, g.line_on, skip_break_line e b)))
    (λ b. inr (none_further (fits_trans (skip_break_fit e) g) (the_end e.rest (fits_no_nul f n) z b)))

pub block_scalar_over : (literal : Bool) (parent : ℕ) (p : Place)
    → All Lexeme (λ l. NoNul p.rest → (p.mark.line < l.place.mark.line) ⊎ (l.place.rest ≡ [])) (scan_block_scalar literal parent p)
unfolding scan_block_scalar
block_scalar_over literal parent p =
    all_bind _ (indicators_fit p.mark (skip_by 1 p))
    (λ h f. all_bind _ (blanks_and_comment_fit h.place)
    (λ e g. all_test _ 30 p.mark _ (λ z. all_need _ 31 p.mark _
    (let q = skip_break e in
    let column = content_column parent h.increment q in
    all_weak (λ l b n. header_over {p = skip_by 1 p} (fits_trans f g) z (fits_trans (margin_fit column 0 q.mark q.rest) b) (no_nul_drop 1 p.rest n))
    (block_content_fit _ _ parent p.mark (margin column 0 q.mark q.rest))))))
