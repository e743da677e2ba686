-- Going on in a text: what every reader keeps of the place that it is given.
use Rattle.std.specs.Prelude.{◌+◌, ◌-◌, ◌<◌, ◌≤◌, suc, zero, ℕ, Bool, false, true, List, [], ◌∷◌, ◌≡◌, refl, eqb, drop, length}
use Rattle.std.proofs.Common.{◌∙◌, sym, le_refl, arith, length-drop, drop-drop}
use Rattle.yaml_text.specs.declared.Mark.{Mark}
use Rattle.yaml_text.specs.Char.{carriage_return, line_feed}
use Rattle.yaml_text.specs.Class.{is_break, peek}
use Rattle.yaml_text.specs.Mark.{Place, along, break_length, half_break, here, look, new_line, over, skip_break, skip_by, run_of}
use Rattle.yaml_text.specs.Test.{both_true, by_pick, by_test, true_false}
use Rattle.yaml_text.specs.DecodeLaws.{NoNul, no_nul_drop}

-- how many characters are left
abbrev pub left : Place → ℕ
left p = length p.rest

-- q is the place p, or a place further on in the same text
pub record FurtherOn (p q : Place) : Type 0 where
  -- how many characters further
  pub taken : ℕ
  pub within : taken ≤ left p
  pub rest_is : q.rest ≡ drop taken p.rest
  pub index_is : q.mark.index ≡ p.mark.index + taken
  pub line_on : p.mark.line ≤ q.mark.line
  pub col_on : q.mark.line ≡ p.mark.line → p.mark.col ≤ q.mark.col

pub fits_refl : (p : Place) → FurtherOn p p
fits_refl p = record { taken = 0; within = omega arith; rest_is = refl; index_is = omega arith; line_on = le_refl _; col_on = λ _. le_refl _ }

pub fits_trans : {p q r : Place} → FurtherOn p q → FurtherOn q r → FurtherOn p r
fits_trans {p} {q} {r} f g =
    let e : left q ≡ left p - f.taken = rw (f.rest_is, length-drop f.taken p.rest) in
    record {
      taken = f.taken + g.taken;
      within = omega arith;
      rest_is = rw (g.rest_is, f.rest_is, drop-drop g.taken f.taken p.rest);
      index_is = omega arith;
      line_on = omega arith;
      col_on = λ same. omega (arith, f.col_on (omega arith), g.col_on (omega arith));
    }

-- what is left and what was taken are all that was there
pub fits_left : {p q : Place} (f : FurtherOn p q) → left q + f.taken ≡ left p
fits_left {p} {q} f =
    let e : left q ≡ left p - f.taken = rw (f.rest_is, length-drop f.taken p.rest) in
    let h = f.within in
    omega arith

-- so the text ends at the same index
pub fits_end : {p q : Place} → FurtherOn p q → q.mark.index + left q ≡ p.mark.index + left p
fits_end f = let e = fits_left f in omega arith

pub fits_no_nul : {p q : Place} → FurtherOn p q → NoNul p.rest → NoNul q.rest
fits_no_nul {p} f h = rw f.rest_is (no_nul_drop f.taken p.rest h)

-- behind one character
fits_next : {m m' : Mark} {q : Place} (c : ℕ) (cs : List ℕ) → m'.index ≡ m.index + 1 → m.line ≤ m'.line → (m'.line ≡ m.line → m.col ≤ m'.col)
    → FurtherOn (here m' cs) q → FurtherOn (here m (c ∷ cs)) q
fits_next c cs e l k f =
    record {
      taken = suc f.taken;
      within = omega arith;
      rest_is = f.rest_is;
      index_is = omega arith;
      line_on = omega arith;
      col_on = λ same. omega (arith, k (omega arith), f.col_on (omega arith));
    }

pub fits_along : (m : Mark) (c : ℕ) (cs : List ℕ) {q : Place} → FurtherOn (here (along m) cs) q → FurtherOn (here m (c ∷ cs)) q
fits_along m c cs f = fits_next c cs refl (le_refl _) (λ _. omega arith) f

pub fits_over : (m : Mark) (c d : ℕ) (cs : List ℕ) {q : Place} → FurtherOn (here (over m c d) cs) q → FurtherOn (here m (c ∷ cs)) q
unfolding over
fits_over m c d cs f =
    by_test (half_break c d)
    (λ e. fits_next c cs refl (le_refl _) (λ _. le_refl _) (rw e at f))
    (λ e. by_test (is_break c)
    (λ g. fits_next c cs refl (omega arith) (λ same. absurd (omega arith)) (rw (e, g) at f))
    (λ g. fits_next c cs refl (le_refl _) (λ _. omega arith) (rw (e, g) at f)))

-- a class that the end is not of tells that a character is there
pub there : (f : ℕ → Bool) (cs : List ℕ) (i : ℕ) → f 0 ≡ false → f (peek cs i) ≡ true → i < length cs
there f [] i z e = true_false (sym e ∙ z)
there f (c ∷ cs) zero z e = omega arith
there f (c ∷ cs) (suc i) z e = let h = there f cs i z e in omega arith

-- n characters on
pub skip_fit : (n : ℕ) (p : Place) → n ≤ left p → FurtherOn p (skip_by n p)
skip_fit n p h = record { taken = n; within = h; rest_is = refl; index_is = refl; line_on = le_refl _; col_on = λ _. omega arith }

-- a places on, and b more
pub skip_on : (a b : ℕ) (p : Place) → a + b ≤ left p → FurtherOn (skip_by a p) (skip_by (a + b) p)
skip_on a b p h =
    let e = length-drop a p.rest in
    record { taken = b; within = omega arith; rest_is = sym (drop-drop b a p.rest); index_is = omega arith; line_on = le_refl _; col_on = λ _. omega arith }

break_fit : (n : ℕ) (p : Place) → n ≤ left p → FurtherOn p (here (new_line n p.mark) (drop n p.rest))
break_fit n p h = record { taken = n; within = h; rest_is = refl; index_is = refl; line_on = omega arith; col_on = λ same. absurd (omega arith) }

-- a break that stands here is there
pub break_there : (cs : List ℕ) → break_length cs ≤ length cs
unfolding break_length half_break is_break
break_there cs =
    by_test (half_break (peek cs 0) (peek cs 1))
    (λ e. rw e (there (λ d. eqb d line_feed) cs 1 refl (both_true (eqb (peek cs 0) carriage_return) _ e).1))
    (λ e. by_test (is_break (peek cs 0))
    (λ f. rw (e, f) (there is_break cs 0 refl f))
    (λ f. rw (e, f) (omega arith)))

pub skip_break_fit : (p : Place) → FurtherOn p (skip_break p)
unfolding skip_break
skip_break_fit p =
    let n = break_length p.rest in
    by_pick (FurtherOn p) (eqb n 0) p (here (new_line n p.mark) (drop n p.rest)) (fits_refl p) (break_fit n p (break_there p.rest))

-- past a break the line is over
pub skip_break_line : (p : Place) → is_break (look p) ≡ true → p.mark.line < (skip_break p).mark.line
unfolding skip_break break_length
skip_break_line p e =
    by_test (half_break (look p) (peek p.rest 1))
    (λ f. rw f (omega arith))
    (λ f. rw (f, e) (omega arith))

pub run_of_fit : (f : ℕ → Bool) (m : Mark) (cs : List ℕ) → FurtherOn (here m cs) (run_of f m cs).place
unfolding run_of
run_of_fit f m [] = fits_refl _
run_of_fit f m (c ∷ cs) =
    by_test (f c)
    (λ e. rw (e, run_of) (fits_along m c cs (run_of_fit f (along m) cs)))
    (λ e. rw (e, run_of) (fits_refl _))
