-- Turns of the definition over a character of the text: a quote, a backslash, a run.
use Prim.Native.Nat.{◌+◌, ◌<◌, ◌≤◌, suc, zero, ℕ}
use mathlib.Core.Bool.{Bool, ◌&&◌, ◌||◌, false, not, true}
use mathlib.Core.List.{List, [], ◌∷◌}
use mathlib.Core.Path.{◌∙◌, ◌≡◌, ap, refl, sym}
use native.Mathlib.Omega.{arith}
use lib.Dec.{eqb, ltb}
use lib.ListN.{drop}
use borrow.Author.Tests.{eqb-true, le-ltb, ne_eqb, not-true}
use Rattle.yaml_text.specs.declared.Mark.{Mark}
use Rattle.yaml_text.specs.Char.{backslash, single_quote, space}
use Rattle.yaml_text.specs.Class.{is_blank, is_break, peek}
use Rattle.yaml_text.specs.Mark.{along, along_by, before_run, break_length, edge_of, here, is_marker, nothing_at}
use Rattle.yaml_text.specs.MarkLaws.{over_along}
use Rattle.yaml_text.specs.Refusal.{before_read, got}
use Rattle.yaml_text.specs.Test.{both_true, by_test, true_false}
use Rattle.yaml_text.specs.Utf8.{chars}
use Rattle.yaml_text.specs.Utf8Laws.{bytes1}
use Rattle.yaml_lexeme.specs.Escape.{escape}
use Rattle.yaml_lexeme.specs.Quoted.{Mode, Quote, blanks_of, chars_of, escape_turn, folds_to, joined, quote_char, quoted_blank, quoted_char, quoted_line, quoted_run, quoted_text}
use Rattle.chars.specs.Bytes.{peek_char}
use Rattle.chars.specs.Reach.{Reach, more, none}
use Rattle.chars.specs.Ascii.{Ascii, ◌or◌, apart, range}
use Rattle.quoted.specs.Texts.{inner, ordinary, passing, quote_by, special, text_char, words}
use Rattle.quoted.proofs.Runs.{before_both, before_none, behind, run_blank, run_folded, run_text}

-- a character of one byte that is no break
abbrev pub Low : ℕ → Type 0
Low c = (0 < c) × (c < 128) × (is_break c ≡ false)

-- so many of them
abbrev pub ManyPassed : ℕ → List ℕ → Type 0
ManyPassed zero cs = Unit {0}
ManyPassed (suc k) cs = Low (peek cs 0) × ManyPassed k (drop 1 cs)

pub pass_along : (k : ℕ) (m : Mark) (cs : List ℕ) → ManyPassed k cs → passing k m cs ≡ here (along_by k m) (drop k cs)
unfolding passing
pass_along zero m cs h =
    let i : m.index + 0 ≡ m.index = omega arith in
    let j : m.col + 0 ≡ m.col = omega arith in
    rw (i, j)
pass_along (suc k) m [] h = absurd (omega (arith, h.0.0))
pass_along (suc k) m (c ∷ cs) h =
    let i : m.index + 1 + k ≡ m.index + suc k = omega arith in
    let j : m.col + 1 + k ≡ m.col + suc k = omega arith in
    ap (λ (n : Mark). passing k n cs) (over_along m c (peek cs 0) h.0.2) ∙ pass_along k (along m) cs h.1 ∙ rw (i, j)

pub pass_reach : (s : List ℕ) (at k : ℕ) → ManyPassed k (chars (drop at s)) → Reach s at k (at + k)
pass_reach s at zero h = let e : at + 0 ≡ at = omega arith in rw e none
pass_reach s at (suc k) h =
    let e : at + suc k ≡ at + 1 + k = omega arith in
    let a = rw (bytes1 _ h.0.1) at (peek_char s at _ refl h.0.0) in
    rw e (more a (pass_reach s (at + 1) k (rw a.next at h.1)))

-- a character that is neither blank nor break, behind text
module _ (q : Quote) (m : Mark) (c : ℕ) (cs : List ℕ) (h : is_blank c ≡ false) (k : is_break c ≡ false) where
  run_char : quoted_run q chars_of 0 m (c ∷ cs) ≡ behind q m cs (quoted_char q [] c cs)
  unfolding quoted_text
  run_char = run_text q chars_of m c cs h k

  module _ (e : eqb c (quote_char q) ≡ true) where
    pub run_closed : (q.single && eqb (peek cs 0) single_quote) ≡ false
        → quoted_run q chars_of 0 m (c ∷ cs) ≡ got (record { text = []; place = here (along m) cs })
    unfolding quoted_char
    run_closed f = run_char ∙ rw (e, f, quoted_char)

    pub run_pair : (q.single && eqb (peek cs 0) single_quote) ≡ true
        → quoted_run q chars_of 0 m (c ∷ cs) ≡ before_read (single_quote ∷ []) (quoted_run q chars_of 1 (along m) cs)
    unfolding quoted_char
    run_pair f = run_char ∙ rw (e, f, quoted_char)

  module _ (e : eqb c (quote_char q) ≡ false) where
    pub run_joined : (not q.single && eqb c backslash) ≡ true → is_break (peek cs 0) ≡ true
        → quoted_run q chars_of 0 m (c ∷ cs) ≡ quoted_run q (joined 0 true) (break_length cs) (along m) cs
    unfolding quoted_char
    run_joined f g = run_char ∙ rw (e, f, g, quoted_char) (before_none (quoted_run q (joined 0 true) (break_length cs) (along m) cs))

    pub run_escape : (not q.single && eqb c backslash) ≡ true → is_break (peek cs 0) ≡ false
        → quoted_run q chars_of 0 m (c ∷ cs) ≡ behind q m cs (escape_turn [] (escape q.start cs))
    unfolding quoted_char
    run_escape f g = run_char ∙ rw (e, f, g, quoted_char)

    pub run_other : (not q.single && eqb c backslash) ≡ false
        → quoted_run q chars_of 0 m (c ∷ cs) ≡ before_read (c ∷ []) (quoted_run q chars_of 0 (along m) cs)
    unfolding quoted_char
    run_other f = run_char ∙ rw (e, f, quoted_char)

none_of : (a b c d : Bool) → (a || b || c || d) ≡ false → (a ≡ false) × (b ≡ false) × (c ≡ false) × (d ≡ false)
none_of true b c d e = true_false e
none_of false true c d e = true_false e
none_of false false true d e = true_false e
none_of false false false true e = true_false e
none_of false false false false e = (refl, refl, refl, refl)

run_plain : (q : Quote) (m : Mark) (c : ℕ) (cs : List ℕ) → text_char q.single c ≡ true
    → quoted_run q chars_of 0 m (c ∷ cs) ≡ before_read (c ∷ []) (quoted_run q chars_of 0 (along m) cs)
unfolding text_char special
run_plain q m c cs e =
    let f = none_of (is_blank c) (is_break c) (eqb c (quote_by q.single)) (not q.single && eqb c backslash) (not-true _ e) in
    run_other q m c cs f.0 f.1 f.2 f.3

pub ordinary_ascii : Ascii ordinary
unfolding ordinary
ordinary_ascii = range 40 91 tt tt or range 93 127 tt tt

pub ordinary_plain : (single : Bool) (c : ℕ) → ordinary c ≡ true → special single c ≡ false
unfolding ordinary special is_blank is_break
ordinary_plain true = apart (special true) ordinary_ascii tt
ordinary_plain false = apart (special false) ordinary_ascii tt

ordinary_text : (o : ℕ) → ordinary o ≡ true → (is_blank o ≡ false) × (is_break o ≡ false)
unfolding special
ordinary_text o e = let f = none_of (is_blank o) (is_break o) (eqb o (quote_by true)) (not true && eqb o backslash) (ordinary_plain true o e) in (f.0, f.1)

none_ordinary : ordinary 0 ≡ false
unfolding ordinary
none_ordinary = refl

space_blank : is_blank space ≡ true
unfolding is_blank
space_blank = refl

behind_none : (m : Mark) (cs : List ℕ) → is_marker (along m) cs ≡ false
unfolding is_marker
behind_none m cs = rw (ne_eqb (m.col + 1) 0 (omega arith))

line_goes : (q : Quote) (b : Mode) (m : Mark) (c : ℕ) (cs : List ℕ) → is_marker m (c ∷ cs) ≡ false → ltb (edge_of m) q.indent ≡ false
    → quoted_line q b m c cs ≡ quoted_char q (folds_to b) c cs
unfolding quoted_line
line_goes q b m c cs e f = rw (e, f, quoted_line)

-- a space, before what stands for itself and is not below the indent
run_space : (q : Quote) (m : Mark) (cs : List ℕ) → ordinary (peek cs 0) ≡ true → q.indent ≤ edge_of m
    → quoted_run q chars_of 0 m (space ∷ cs) ≡ before_read (space ∷ []) (quoted_run q chars_of 0 (along m) cs)
unfolding quoted_blank quoted_text folds_to
run_space q m [] e h = true_false (sym e ∙ none_ordinary)
run_space q m (o ∷ cs) e h =
    let f = ordinary_text o e in
    let i : q.indent ≤ m.col + 1 + 1 = omega arith in
    run_blank q chars_of m space (o ∷ cs) space_blank
    ∙ before_none (quoted_run q (blanks_of (space ∷ [])) 0 (along m) (o ∷ cs))
    ∙ run_folded q (blanks_of (space ∷ [])) (along m) o cs (space ∷ []) f.0 f.1
    (line_goes q (blanks_of (space ∷ [])) (along m) o cs (behind_none m (o ∷ cs)) (le-ltb (m.col + 1 + 1) q.indent i))

-- a run of text
pub words_more : (spaces single : Bool) (m : Mark) (c : ℕ) (cs : List ℕ) → (text_char single c || inner spaces c (peek cs 0)) ≡ true
    → words spaces single m (c ∷ cs) ≡ before_run (c ∷ []) (words spaces single (along m) cs)
unfolding words
words_more spaces single m c cs e = rw (e, words)

pub words_stop : (spaces single : Bool) (m : Mark) (c : ℕ) (cs : List ℕ) → (text_char single c || inner spaces c (peek cs 0)) ≡ false
    → words spaces single m (c ∷ cs) ≡ nothing_at (here m (c ∷ cs))
unfolding words
words_stop spaces single m c cs e = rw (e, words)

run_one : (q : Quote) (spaces : Bool) (m : Mark) (c : ℕ) (cs : List ℕ) → (spaces ≡ true → q.indent ≤ edge_of m)
    → (text_char q.single c || inner spaces c (peek cs 0)) ≡ true
    → quoted_run q chars_of 0 m (c ∷ cs) ≡ before_read (c ∷ []) (quoted_run q chars_of 0 (along m) cs)
unfolding inner
run_one q spaces m c cs h e =
    by_test (text_char q.single c)
    (λ t. run_plain q m c cs t)
    (λ t. let i = both_true (spaces && eqb c space) (ordinary (peek cs 0)) (rw t at e) in
    let j = both_true spaces (eqb c space) i.0 in
    rw (eqb-true c space j.1) (run_space q m cs i.1 (h j.0)))

pub run_words : (q : Quote) (spaces : Bool) (m : Mark) (cs : List ℕ) → (spaces ≡ true → q.indent ≤ edge_of m) → let w = words spaces q.single m cs in
    quoted_run q chars_of 0 m cs ≡ before_read w.text (quoted_run q chars_of 0 w.place.mark w.place.rest)
unfolding words
run_words q spaces m [] h = sym (before_none (quoted_run q chars_of 0 m []))
run_words q spaces m (c ∷ cs) h =
    by_test (text_char q.single c || inner spaces c (peek cs 0))
    (λ e. let w = words spaces q.single (along m) cs in
    rw (words_more spaces q.single m c cs e)
    (run_one q spaces m c cs h e ∙ ap (before_read (c ∷ [])) (run_words q spaces (along m) cs (λ t. let l = h t in omega arith))
    ∙ sym (before_both (c ∷ []) w.text (quoted_run q chars_of 0 w.place.mark w.place.rest))))
    (λ e. rw (words_stop spaces q.single m c cs e) (sym (before_none (quoted_run q chars_of 0 m (c ∷ cs)))))
