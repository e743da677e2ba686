-- Theorems about specs/QuotedSizes, and what rests on them.
use Rattle.std.specs.Prelude.{◌*◌, ◌+◌, ◌≤◌, suc, zero, ℕ, Bool, ◌&&◌, false, not, true, List, [], ◌∷◌, refl, ltb, drop, length}
use Rattle.std.proofs.Common.{arith}
use Rattle.std.proofs.Math.Dec.{eqb}
use Rattle.yaml_text.specs.declared.Mark.{Mark}
use Rattle.yaml_text.specs.Char.{backslash, single_quote, tab}
use Rattle.yaml_text.specs.Utf8.{char_bytes}
use Rattle.yaml_text.specs.Class.{is_blank, is_break, peek}
use Rattle.yaml_text.specs.Mark.{Place, Run, along, break_length, edge_of, half_break, here, is_marker, over}
use Rattle.yaml_text.specs.Refusal.{Read, got, refused}
use Rattle.yaml_text.specs.Test.{by_pick, by_test}
use Rattle.yaml_text.specs.All.{All, all_bind, all_need, holds, not_read}
use Rattle.yaml_lexeme.specs.Token.{Lexeme, kind_bytes, size}
use Rattle.yaml_lexeme.specs.Role.{role}
use Rattle.yaml_lexeme.specs.Escape.{Escaped, escape}
use Rattle.yaml_lexeme.specs.Quoted.{Mode, Quote, QuotedTurn, after_turn, blanks_of, broken, chars_of, closes, escape_turn, folded, folds_to, goes, joined, quote_char, quoted_blank, quoted_break, quoted_char, quoted_line, quoted_run, quoted_text, quoted_turn, scan_flow_scalar, wrong_quote}
use Rattle.yaml_lexeme.specs.Fits.{blanks_and_comment_fit}
use Rattle.yaml_lexeme.specs.EscapeFits.{Took}
use Rattle.yaml_lexeme.proofs.EscapeFits.{escape_fit}
use Rattle.yaml_lexeme.specs.EscapeSizes.{PaysEscape}
use Rattle.yaml_lexeme.proofs.EscapeSizes.{escape_pays}
use Rattle.yaml_lexeme.specs.Sizes.{Lexed, PaysRun, all_before, drop_less, fold_size, size_append, size_cons, size_drop, size_feeds, size_fits, size_nil, size_one, width_some}

-- the bytes that were paid for what is kept back
abbrev owed : Mode → ℕ
owed chars_of = 0
owed (blanks_of bs) = size bs
owed (folded n) = suc n
owed (joined n fresh) = n

folds_paid : (b : Mode) → size (folds_to b) ≤ owed b
unfolding folds_to
folds_paid chars_of = omega (arith, size_nil)
folds_paid (blanks_of bs) = omega arith
folds_paid (folded n) = fold_size (suc n)
folds_paid (joined n fresh) = omega (arith, size_feeds n)

-- a turn over the character c, k bytes being paid before
abbrev PaysTurn : ℕ → ℕ → List ℕ → QuotedTurn → Type 0
PaysTurn k c cs (goes t b n) = 2 * size t + 2 * owed b + 3 * size (drop n cs) ≤ 2 * k + 3 * size (c ∷ cs)
PaysTurn k c cs (closes t) = 2 * size t + 3 * size cs ≤ 2 * k + 3 * size (c ∷ cs)
PaysTurn k c cs (wrong_quote n m) = Unit {0}

blank_pays : (q : Quote) (m : Mark) (c : ℕ) (cs : List ℕ) (b : Mode) → PaysTurn (owed b) c cs (quoted_blank q m c b)
unfolding quoted_blank
blank_pays q m c cs chars_of = omega (arith, size_nil, size_one c, size_cons c cs)
blank_pays q m c cs (blanks_of bs) = omega (arith, size_nil, size_one c, size_append bs (c ∷ []), size_cons c cs)
blank_pays q m c cs (folded n) =
    by_pick (PaysTurn (suc n) c cs) (eqb c tab && ltb (edge_of m) q.indent) _ _ tt (omega (arith, size_nil, size_cons c cs))
blank_pays q m c cs (joined n fresh) =
    by_pick (PaysTurn n c cs) (eqb c tab && ltb (edge_of m) q.indent) _ _ tt (omega (arith, size_nil, size_cons c cs))

broken_paid : (b : Mode) → owed (broken b) ≤ 1 + owed b
unfolding broken
broken_paid chars_of = omega arith
broken_paid (blanks_of bs) = omega arith
broken_paid (folded n) = omega arith
broken_paid (joined n fresh) = omega arith

break_pays : (c d : ℕ) (cs : List ℕ) (b : Mode) → PaysTurn (owed b) c cs (quoted_break b c d)
unfolding quoted_break
break_pays c d cs b =
    by_pick (PaysTurn (owed b) c cs) (half_break c d) _ _ (omega (arith, size_nil, size_cons c cs))
    (omega (arith, size_nil, size_cons c cs, (width_some c).0, broken_paid b))

module _ (k : ℕ) (t : List ℕ) (paid : size t ≤ k) (c : ℕ) (cs : List ℕ) where
  escape_turn_pays : (r : Read Escaped) → All Escaped (Took (length cs)) r → All Escaped PaysEscape r → PaysTurn k c cs (escape_turn t r)
  escape_turn_pays (got e) (holds f) (holds h) =
      omega (arith, size_append t (e.char ∷ []), size_one e.char, size_cons c cs, (width_some c).0, size_drop e.took cs f.1)
  escape_turn_pays (refused n m) f h = tt

  char_pays : (q : Quote) → PaysTurn k c cs (quoted_char q t c cs)
  unfolding quoted_char char_bytes
  char_pays q =
      by_test (eqb c (quote_char q))
      (λ e. rw (e, quoted_char) (by_pick (PaysTurn k c cs) (q.single && eqb (peek cs 0) single_quote) _ _
      (omega (arith, size_append t (single_quote ∷ []), size_one single_quote, size_cons c cs, (width_some c).0, drop_less 1 cs))
      (omega (arith, size_cons c cs))))
      (λ e. by_test (not q.single && eqb c backslash)
      (λ f. by_test (is_break (peek cs 0))
      (λ g. rw (e, f, g, quoted_char) (omega (arith, size_cons c cs, drop_less (break_length cs) cs)))
      (λ g. rw (e, f, g, quoted_char) (escape_turn_pays (escape q.start cs) (escape_fit q.start cs) (escape_pays q.start cs))))
      (λ f. rw (e, f, quoted_char) (omega (arith, size_append t (c ∷ []), size_one c, size_cons c cs))))

line_pays : (q : Quote) (b : Mode) (m : Mark) (c : ℕ) (cs : List ℕ) → PaysTurn (owed b) c cs (quoted_line q b m c cs)
unfolding quoted_line
line_pays q b m c cs =
    by_test (is_marker m (c ∷ cs))
    (λ e. rw (e, quoted_line) tt)
    (λ e. by_test (ltb (edge_of m) q.indent)
    (λ f. rw (e, f, quoted_line) tt)
    (λ f. rw (e, f, quoted_line) (char_pays (owed b) (folds_to b) (folds_paid b) c cs q)))

text_pays : (q : Quote) (b : Mode) (m : Mark) (c : ℕ) (cs : List ℕ) → PaysTurn (owed b) c cs (quoted_text q b m c cs)
unfolding quoted_text
text_pays q chars_of m c cs = char_pays 0 [] (omega (arith, size_nil)) c cs q
text_pays q (blanks_of bs) m c cs = line_pays q (blanks_of bs) m c cs
text_pays q (folded n) m c cs = line_pays q (folded n) m c cs
text_pays q (joined n false) m c cs = line_pays q (joined n false) m c cs
text_pays q (joined n true) m c cs =
    by_test (eqb c (quote_char q))
    (λ e. rw (e, quoted_text) (char_pays n [] (omega (arith, size_nil)) c cs q))
    (λ e. rw (e, quoted_text) (line_pays q (joined n true) m c cs))

turn_pays : (q : Quote) (b : Mode) (m : Mark) (c : ℕ) (cs : List ℕ) → PaysTurn (owed b) c cs (quoted_turn q b m c cs)
unfolding quoted_turn
turn_pays q b m c cs =
    by_test (is_blank c)
    (λ e. rw (e, quoted_turn) (blank_pays q m c cs b))
    (λ e. by_test (is_break c)
    (λ f. rw (e, f, quoted_turn) (break_pays c (peek cs 0) cs b))
    (λ f. rw (e, f, quoted_turn) (text_pays q b m c cs)))

turned_pays : (k c : ℕ) (cs : List ℕ) (m : Mark) (t : QuotedTurn) (go : Mode → ℕ → Read Run) → PaysTurn k c cs t
    → ((b : Mode) (n : ℕ) → All Run (PaysRun (owed b) (drop n cs)) (go b n)) → All Run (PaysRun k (c ∷ cs)) (after_turn t go (here m cs))
turned_pays k c cs m (goes t b n) go h f = all_before t (λ r g. omega (arith, size_append t r.text)) (f b n)
turned_pays k c cs m (closes t) go h f = holds h
turned_pays k c cs m (wrong_quote n i) go h f = not_read

run_pays : (q : Quote) (b : Mode) (k : ℕ) (m : Mark) (cs : List ℕ) → All Run (PaysRun (owed b) (drop k cs)) (quoted_run q b k m cs)
unfolding quoted_run
run_pays q b zero m [] = not_read
run_pays q b (suc k) m [] = not_read
run_pays q b zero m (c ∷ cs) =
    turned_pays (owed b) c cs (along m) (quoted_turn q b m c cs) _ (turn_pays q b m c cs) (λ b' n. run_pays q b' n (over m c (peek cs 0)) cs)
run_pays q b (suc k) m (c ∷ cs) = run_pays q b k (over m c (peek cs 0)) cs

pub flow_scalar_lexed : (flow single : Bool) (indent : ℕ) (p : Place) → All Lexeme (Lexed 0 p.rest) (scan_flow_scalar flow single indent p)
unfolding scan_flow_scalar kind_bytes role
flow_scalar_lexed flow single indent p =
    all_bind _ (run_pays _ chars_of 0 (along p.mark) (drop 1 p.rest))
    (λ r h. all_bind _ (blanks_and_comment_fit r.place)
    (λ e f. all_need _ 40 e.mark _ (holds (record { neutral = refl; paid = omega (arith, size_fits f, drop_less 1 p.rest) }))))
