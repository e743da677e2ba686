-- Turns of the definition: over a blank, a break and a character of the text.
use Prim.Native.Nat.{◌+◌, ◌≤◌, suc, zero, ℕ}
use mathlib.Core.Bool.{◌&&◌, false, not, true}
use mathlib.Core.List.{List, [], ◌++◌, ◌∷◌, append_assoc, append-nil}
use mathlib.Core.Path.{◌∙◌, ◌≡◌, ap, refl, sym}
use native.Mathlib.Omega.{arith}
use lib.Dec.{eqb}
use lib.ListN.{drop}
use Rattle.yaml_text.specs.declared.Mark.{Mark}
use Rattle.yaml_text.specs.Char.{backslash, carriage_return, line_feed, single_quote}
use Rattle.yaml_text.specs.Class.{is_blank, is_break, peek}
use Rattle.yaml_text.specs.Mark.{Place, along, half_break, here, new_line, over}
use Rattle.yaml_text.specs.MarkLaws.{over_along, over_break}
use Rattle.yaml_text.specs.Refusal.{Read, before_read, got, refused}
use Rattle.yaml_text.specs.Mark.{Run}
use Rattle.yaml_text.specs.Test.{by_test}
use Rattle.yaml_lexeme.specs.Escape.{Escaped, escape}
use Rattle.yaml_lexeme.specs.Quoted.{Mode, Quote, QuotedTurn, after_turn, broken, chars_of, closes, escape_turn, goes, quote_char, quoted_blank, quoted_break, quoted_char, quoted_run, quoted_text, quoted_turn, wrong_quote}
use Rattle.yaml_lexeme.specs.Turns.{quoted_turned}
use Rattle.chars.specs.Ascii.{apart, blank_unbroken, break_ascii}
use Rattle.gaps.specs.Breaks.{Breaks, none, one, two}
use Rattle.quoted.specs.Texts.{passing}

pub break_unblank : (c : ℕ) → is_break c ≡ true → is_blank c ≡ false
unfolding is_blank is_break
break_unblank = apart is_blank break_ascii tt

pub before_none : (r : Read Run) → before_read [] r ≡ r
unfolding before_read
before_none (got r) = refl
before_none (refused n m) = refl

pub before_both : (t u : List ℕ) (r : Read Run) → before_read (t ++ u) r ≡ before_read t (before_read u r)
unfolding before_read
before_both t u (got r) = rw (append_assoc t u r.text)
before_both t u (refused n m) = refl

-- behind a character that is no break
abbrev pub behind : Quote → Mark → List ℕ → QuotedTurn → Read Run
behind q m cs t = after_turn t (λ b n. quoted_run q b n (along m) cs) (here (along m) cs)

module _ (q : Quote) (b : Mode) (m : Mark) where
  module _ (c : ℕ) (cs : List ℕ) where
    turn_along : is_break c ≡ false → quoted_run q b 0 m (c ∷ cs) ≡ behind q m cs (quoted_turn q b m c cs)
    turn_along e = quoted_turned q b m c cs ∙ rw (over_along m c (peek cs 0) e)

    pub run_blank : is_blank c ≡ true → quoted_run q b 0 m (c ∷ cs) ≡ behind q m cs (quoted_blank q m c b)
    unfolding quoted_turn
    run_blank e = turn_along (blank_unbroken c e) ∙ rw (e, quoted_turn)

    pub run_text : is_blank c ≡ false → is_break c ≡ false → quoted_run q b 0 m (c ∷ cs) ≡ behind q m cs (quoted_text q b m c cs)
    unfolding quoted_turn
    run_text e f = turn_along f ∙ rw (e, f, quoted_turn)

  break_one : (c : ℕ) (cs : List ℕ) → is_break c ≡ true → half_break c (peek cs 0) ≡ false
      → quoted_run q b 0 m (c ∷ cs) ≡ quoted_run q (broken b) 0 (new_line 1 m) cs
  unfolding quoted_turn quoted_break
  break_one c cs e f =
      quoted_turned q b m c cs
      ∙ rw (over_break m c (peek cs 0) f e, break_unblank c e, e, f, quoted_turn) (before_none (quoted_run q (broken b) 0 (new_line 1 m) cs))

  -- the CR of a CR LF
  break_half : (cs : List ℕ) → quoted_run q b 0 m (carriage_return ∷ line_feed ∷ cs) ≡ quoted_run q b 0 (over m carriage_return line_feed) (line_feed ∷ cs)
  unfolding quoted_turn quoted_break is_blank is_break half_break
  break_half cs = quoted_turned q b m carriage_return (line_feed ∷ cs) ∙ before_none (quoted_run q b 0 (over m carriage_return line_feed) (line_feed ∷ cs))

feed_one : (d : ℕ) → (is_break line_feed ≡ true) × (half_break line_feed d ≡ false)
unfolding is_break half_break
feed_one d = (refl, refl)

pub run_break : (q : Quote) (b : Mode) (m : Mark) {cs : List ℕ} {n : ℕ} → Breaks cs n → 1 ≤ n
    → quoted_run q b 0 m cs ≡ quoted_run q (broken b) 0 (new_line n m) (drop n cs)
unfolding over half_break
run_break q b m (two {cs}) h =
    let f = feed_one (peek cs 0) in
    let e : m.index + 1 + 1 ≡ m.index + 2 = omega arith in
    break_half q b m cs ∙ break_one q b (over m carriage_return line_feed) line_feed cs f.0 f.1 ∙ rw e
run_break q b m (one {c} {cs} e f) h = break_one q b m c cs e f
run_break q b m (none e) h = absurd (omega arith)

-- passing over characters
pub run_passing : (q : Quote) (b : Mode) (k : ℕ) (m : Mark) (cs : List ℕ) → let p = passing k m cs in quoted_run q b k m cs ≡ quoted_run q b 0 p.mark p.rest
unfolding quoted_run passing
run_passing q b zero m cs = refl
run_passing q b (suc k) m [] = refl
run_passing q b (suc k) m (c ∷ cs) = run_passing q b k (over m c (peek cs 0)) cs

-- over the break behind a backslash
pub pass_break : (m : Mark) {cs : List ℕ} {n : ℕ} → Breaks cs n → 1 ≤ n → passing n m cs ≡ here (new_line n m) (drop n cs)
unfolding passing over half_break is_break
pass_break m (two {cs}) h = let e : m.index + 1 + 1 ≡ m.index + 2 = omega arith in rw e
pass_break m (one {c} {cs} e f) h = ap (λ (k : Mark). here k cs) (over_break m c (peek cs 0) f e)
pass_break m (none e) h = absurd (omega arith)

-- a text before what a turn puts
prefix : List ℕ → QuotedTurn → QuotedTurn
prefix t (goes u b n) = goes (t ++ u) b n
prefix t (closes u) = closes (t ++ u)
prefix t (wrong_quote n m) = wrong_quote n m

after_prefix : (t : List ℕ) (x : QuotedTurn) (go : Mode → ℕ → Read Run) (p : Place) → after_turn (prefix t x) go p ≡ before_read t (after_turn x go p)
unfolding prefix before_read
after_prefix t (goes u b n) go p = before_both t u (go b n)
after_prefix t (closes u) go p = refl
after_prefix t (wrong_quote n m) go p = refl

escape_prefix : (t : List ℕ) (r : Read Escaped) → escape_turn t r ≡ prefix t (escape_turn [] r)
unfolding prefix
escape_prefix t (got e) = refl
escape_prefix t (refused n m) = refl

char_prefix : (q : Quote) (t : List ℕ) (c : ℕ) (cs : List ℕ) → quoted_char q t c cs ≡ prefix t (quoted_char q [] c cs)
unfolding quoted_char prefix
char_prefix q t c cs =
    by_test (eqb c (quote_char q))
    (λ e. by_test (q.single && eqb (peek cs 0) single_quote)
    (λ f. rw (e, f, quoted_char))
    (λ f. rw (e, f, quoted_char, append-nil t)))
    (λ e. by_test (not q.single && eqb c backslash)
    (λ f. by_test (is_break (peek cs 0))
    (λ g. rw (e, f, g, quoted_char, append-nil t))
    (λ g. rw (e, f, g, quoted_char) (escape_prefix t (escape q.start cs))))
    (λ f. rw (e, f, quoted_char)))

-- text behind what was kept back
pub run_folded : (q : Quote) (b : Mode) (m : Mark) (c : ℕ) (cs t : List ℕ) → is_blank c ≡ false → is_break c ≡ false → quoted_text q b m c cs ≡ quoted_char q t c cs
    → quoted_run q b 0 m (c ∷ cs) ≡ before_read t (quoted_run q chars_of 0 m (c ∷ cs))
unfolding quoted_text
run_folded q b m c cs t e f g =
    run_text q b m c cs e f
    ∙ ap (behind q m cs) (g ∙ char_prefix q t c cs)
    ∙ after_prefix t (quoted_char q [] c cs) (λ b' n. quoted_run q b' n (along m) cs) (here (along m) cs)
    ∙ ap (before_read t) (sym (run_text q chars_of m c cs e f))
