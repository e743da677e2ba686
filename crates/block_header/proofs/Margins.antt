-- Turns of the loops over a margin, on the characters at a place.
use Prim.Native.Nat.{◌+◌, ◌-◌, ◌≤◌, max, suc, zero, ℕ}
use mathlib.Core.Bool.{◌&&◌, false, or-true, true}
use mathlib.Core.List.{List, [], ◌∷◌}
use mathlib.Core.Path.{◌∙◌, ◌≡◌, ap, refl, sym}
use native.Mathlib.Nat.{le-max_right, max-eq_left}
use native.Mathlib.Omega.{arith}
use lib.Dec.{eqb, ltb}
use lib.ListN.{drop, get_or}
use borrow.Author.Tests.{eqb-true}
use Rattle.yaml_text.specs.declared.Mark.{Mark}
use Rattle.yaml_text.specs.Char.{carriage_return, line_feed, space}
use Rattle.yaml_text.specs.Class.{is_break, peek}
use Rattle.yaml_text.specs.Mark.{along, ends_line, half_break, here, new_line, over}
use Rattle.yaml_text.specs.Mark as definition
use Rattle.yaml_text.specs.MarkLaws.{over_break}
use Rattle.yaml_text.specs.Test.{by_test, true_false}
use Rattle.yaml_text.specs.Utf8.{chars}
use Rattle.yaml_lexeme.specs.Block.{Margin, content_column, largest, margin}
use Rattle.yaml_lexeme.specs.Turns.{margin_more, margin_stop}
use Rattle.chars.specs.declared.mark.Place.{Place}
use Rattle.chars.specs.Ascii.{break_ascii}
use Rattle.chars.specs.Bytes.{CharAt, ascii_at, eq_at}
use Rattle.gaps.specs.Breaks.{BreakAt, Breaks, none, one, two}
use Rattle.gaps.specs.Walk.{Walks}
use Rattle.chars.specs.View.{view}
use Rattle.block_header.specs.Margin.{Margins, margin_goes}

break_space : (c : ℕ) → is_break c ≡ true → eqb c space ≡ false
unfolding is_break
break_space c e =
    by_test (eqb c line_feed)
    (λ f. rw (eqb-true c line_feed f))
    (λ f. let g : eqb c carriage_return ≡ true = rw f at e in rw (eqb-true c carriage_return g))

-- the largest column of leading spaces

pub largest_space : {s : List ℕ} {at : ℕ} (most : ℕ) (m : Mark) → CharAt s at space 1 → largest most m (chars (drop at s)) ≡ largest most (along m) (chars (drop (at + 1) s))
unfolding largest
largest_space most m x = rw x.next

largest_break : (most : ℕ) (m : Mark) {cs : List ℕ} {n : ℕ} → Breaks cs n → is_break (peek cs 0) ≡ true
    → largest most m cs ≡ largest (max most m.col) (new_line n m) (drop n cs)
unfolding largest over half_break is_break
largest_break most m (two {cs = cs}) h =
    let e : m.index + 1 + 1 ≡ m.index + 2 = omega arith in
    rw (e, max-eq_left {n = max most m.col} {m = m.col} (le-max_right most m.col))
largest_break most m (one {c = c} {cs = cs} e f) h = rw (break_space c e, e, largest, over_break m c (peek cs 0) f e)
largest_break most m (none e) h = true_false (sym h ∙ e)

pub largest_line : {s : List ℕ} {p : Place} {n : ℕ} (most : ℕ) → BreakAt s p n
    → largest most p.mark (chars (drop p.at s)) ≡ largest (max most p.mark.col) (new_line n p.mark) (chars (drop (p.at + n) s))
largest_line {s} {p} most x =
    largest_break most p.mark x.breaks x.is_break
    ∙ ap (λ (q : definition.Place). largest (max most p.mark.col) q.mark q.rest) (sym x.moves.same)

largest_none : (most : ℕ) (m : Mark) (cs : List ℕ) → eqb (peek cs 0) space ≡ false → is_break (peek cs 0) ≡ false → largest most m cs ≡ max most m.col
unfolding largest
largest_none most m [] e f = refl
largest_none most m (c ∷ cs) e f = rw (e, f, largest)

pub largest_end : (s : List ℕ) (at b most : ℕ) (m : Mark) → b ≡ get_or s at 0 → eqb b space ≡ false → is_break b ≡ false → largest most m (chars (drop at s)) ≡ max most m.col
largest_end s at b most m e f g = largest_none most m (chars (drop at s)) (eq_at s at b e space tt ∙ f) (ascii_at s at b e break_ascii ∙ g)

-- the content's column

pub column_none : (parent i : ℕ) (p : definition.Place) → i ≡ 0 → content_column parent i p ≡ max (largest 0 p.mark p.rest) parent
unfolding content_column
column_none parent i p e = rw e

-- an indent of -1
pub column_top : (parent i : ℕ) (p : definition.Place) → (i ≡ 0 → ⊥) → parent ≡ 0 → content_column parent i p ≡ i
unfolding content_column
column_top zero zero p h e = absurd (h refl)
column_top zero (suc i) p h e = refl
column_top (suc k) i p h e = absurd (omega arith)

-- a non-negative one
pub column_some : (parent i : ℕ) (p : definition.Place) → (i ≡ 0 → ⊥) → (parent ≡ 0 → ⊥) → content_column parent i p ≡ (parent - 1) + i
unfolding content_column
column_some zero i p h e = absurd (e refl)
column_some (suc k) zero p h e = absurd (h refl)
column_some (suc k) (suc i) p h e = let z : k ≡ suc k - 1 = omega arith in rw (← z)

-- the margin

pub margin_space : {s : List ℕ} {at : ℕ} (column n : ℕ) (m : Mark) → CharAt s at space 1 → ltb m.col column ≡ true
    → margin column n m (chars (drop at s)) ≡ margin column n (along m) (chars (drop (at + 1) s))
unfolding ends_line over half_break is_break
margin_space {s} {at} column n m x h =
    let e : n + 0 ≡ n = omega arith in
    rw x.next (margin_more column n m space (chars (drop (at + 1) s)) (rw h) ∙ rw e)

margin_break : (column k : ℕ) (m : Mark) {cs : List ℕ} {n : ℕ} → Breaks cs n → is_break (peek cs 0) ≡ true
    → margin column k m cs ≡ margin column (k + 1) (new_line n m) (drop n cs)
unfolding ends_line over half_break is_break
margin_break column k m (two {cs = cs}) h =
    let e : m.index + 1 + 1 ≡ m.index + 2 = omega arith in
    let z : k + 0 ≡ k = omega arith in
    margin_more column k m carriage_return (line_feed ∷ cs) refl
    ∙ margin_more column (k + 0) (over m carriage_return line_feed) line_feed cs refl
    ∙ rw (e, z)
margin_break column k m (one {c = c} {cs = cs} e f) h =
    margin_more column k m c cs (rw e (or-true (eqb c space && ltb m.col column))) ∙ rw (f, e)
margin_break column k m (none e) h = true_false (sym h ∙ e)

pub margin_line : {s : List ℕ} {p : Place} {n : ℕ} (column k : ℕ) → BreakAt s p n
    → margin column k p.mark (chars (drop p.at s)) ≡ margin column (k + 1) (new_line n p.mark) (chars (drop (p.at + n) s))
margin_line {s} {p} column k x =
    margin_break column k p.mark x.breaks x.is_break
    ∙ ap (λ (q : definition.Place). margin column (k + 1) q.mark q.rest) (sym x.moves.same)

margin_none : (column n : ℕ) (m : Mark) (cs : List ℕ) → margin_goes column m (peek cs 0) ≡ false → margin column n m cs ≡ record { breaks = n; place = here m cs }
unfolding margin
margin_none column n m [] e = refl
margin_none column n m (c ∷ cs) e = margin_stop column n m c cs e

pub margin_end : (s : List ℕ) (at b column n : ℕ) (m : Mark) → b ≡ get_or s at 0 → (eqb b space && ltb m.col column) ≡ false → is_break b ≡ false
    → margin column n m (chars (drop at s)) ≡ record { breaks = n; place = here m (chars (drop at s)) }
margin_end s at b column n m e f g =
    margin_none column n m (chars (drop at s)) (rw (eq_at s at b e space tt, f, ascii_at s at b e break_ascii, g))

pub margins_done : {text : List ℕ} {from p : Place} {x y : Margin} (n : ℕ) → Walks text from p x y → y ≡ record { breaks = n; place = view text p } → from.at + n ≤ p.at
    → Margins text from (record { breaks = n; place = p }) x
margins_done n w e h =
    let k = sym (w.same ∙ e) in
    record {
      breaks = ap (λ (g : Margin). g.breaks) k;
      moves = record { same = ap (λ (g : Margin). g.place) k; stands = w.stands; onward = w.onward };
      few = h;
    }
