-- Theorems about specs/BlockFits, and what rests on them.
use Rattle.std.specs.Prelude.{◌<◌, suc, zero, ℕ, Bool, ◌&&◌, false, true, List, [], ◌∷◌, ◌⊎◌, ◌≡◌, refl, leb, ltb, drop}
use Rattle.std.proofs.Common.{inl, inr, sym, arith}
use Rattle.yaml_text.specs.declared.Mark.{Mark}
use Rattle.yaml_text.specs.Class.{is_break, is_breakz, none_left, peek}
use Rattle.yaml_text.specs.Mark.{Place, look, skip_break, skip_by}
use Rattle.yaml_text.specs.Test.{by_test, true_false}
use Rattle.yaml_text.specs.All.{All, all_bind, all_need, all_test, all_weak, holds, not_read}
use Rattle.yaml_text.specs.DecodeLaws.{NoNul, no_nul_drop}
use Rattle.yaml_text.specs.PlaceLaws.{FurtherOn, fits_no_nul, fits_refl, fits_trans, skip_break_fit, skip_break_line}
use Rattle.yaml_lexeme.specs.declared.Style.{Style}
use Rattle.yaml_lexeme.specs.Token.{Lexeme}
use Rattle.yaml_lexeme.specs.Block.{Layout, Margin, ahead, between, block_content, content_column, margin, opens_content, scan_block_scalar}
use Rattle.yaml_lexeme.specs.Fits.{blanks_and_comment_fit}
use Rattle.yaml_lexeme.specs.BlockFits.{content_fit, margin_fit, indicators_fit, ReadsBlock}

-- a block scalar goes on from p; its token starts at the mark, or text was left at p
record Blocks (start : Mark) (p : Place) (l : Lexeme) : Type 0 where
  onward : FurtherOn p l.place
  starts : (l.token.start ≡ start) ⊎ (none_left p.rest ≡ false)

block_content_fit : (b : Layout) (style : Style) (parent : ℕ) (start : Mark) (g : Margin) → All Lexeme (Blocks start g.place) (block_content b style parent start g)
unfolding block_content
block_content_fit b style parent start g =
    by_test (none_left g.place.rest)
    (λ e. rw (e, block_content) (holds (record { onward = fits_refl _; starts = inl refl })))
    (λ e. by_test (opens_content g.place.mark g.place.rest && ltb g.place.mark.col b.column && leb parent g.place.mark.col)
    (λ f. rw (e, f, block_content) not_read)
    (λ f. rw (e, f, block_content) (holds (record { onward = content_fit b (between (ahead g.breaks)) g.place.mark g.place.rest; starts = inr e }))))

drop_some : (n : ℕ) (cs : List ℕ) → none_left (drop n cs) ≡ false → none_left cs ≡ false
unfolding none_left
drop_some zero cs e = e
drop_some (suc n) [] e = e
drop_some (suc n) (c ∷ cs) e = refl

some_left : {p q : Place} → FurtherOn p q → none_left q.rest ≡ false → none_left p.rest ≡ false
some_left {p} f e = drop_some f.taken p.rest (rw f.rest_is at e)

-- where text is left, a break or the end is a break
breaks : (cs : List ℕ) → NoNul cs → none_left cs ≡ false → is_breakz (peek cs 0) ≡ true → is_break (peek cs 0) ≡ true
unfolding is_breakz none_left
breaks [] n e b = true_false e
breaks (c ∷ cs) n e b = by_test (is_break c) (λ f. f) (λ f. true_false (sym (rw (f, n.0) at b)))

-- p: behind the indicator, e: behind the header, q: where content was looked for
block_line : {p e q r : Place} → FurtherOn p e → is_breakz (look e) ≡ true → FurtherOn (skip_break e) q → FurtherOn q r → NoNul p.rest → none_left q.rest ≡ false
    → p.mark.line < r.mark.line
block_line {e} f z g h n s =
    let k = skip_break_line e (breaks e.rest (fits_no_nul f n) (some_left (fits_trans (skip_break_fit e) g) s) z) in
    omega (arith, f.line_on, g.line_on, h.line_on)

pub block_scalar_fit : (literal : Bool) (parent : ℕ) (p : Place) → All Lexeme (ReadsBlock p) (scan_block_scalar literal parent p)
unfolding scan_block_scalar
block_scalar_fit literal parent p =
    all_bind _ (indicators_fit p.mark (skip_by 1 p))
    (λ h f. all_bind _ (blanks_and_comment_fit h.place)
    (λ e g. all_test _ 30 p.mark _ (λ z. all_need _ 31 p.mark _
    (let q = skip_break e in
    let column = content_column parent h.increment q in
    let k = margin_fit column 0 q.mark q.rest in
    all_weak (λ l b. record {
      onward = fits_trans (fits_trans f g) (fits_trans (skip_break_fit e) (fits_trans k b.onward));
      starts = λ n. by_start b.starts (λ s. block_line (fits_trans f g) z k b.onward (no_nul_drop 1 p.rest n) s);
    }) (block_content_fit _ _ parent p.mark (margin column 0 q.mark q.rest))))))
  where
    by_start : {A B C : Type 0} → A ⊎ B → (B → C) → A ⊎ C
    by_start (inl a) f = inl a
    by_start (inr b) f = inr (f b)
