-- What a turn takes and where it goes on, by what stands there.
use Prim.Native.Nat.{ℕ}
use mathlib.Core.Bool.{◌&&◌, false, not, true}
use mathlib.Core.List.{List, [], ◌∷◌}
use mathlib.Core.Path.{◌≡◌}
use lib.Dec.{eqb, leb}
use lib.ListN.{drop}
use Rattle.yaml_text.specs.declared.Mark.{Mark}
use Rattle.yaml_text.specs.Char.{backslash, single_quote}
use Rattle.yaml_text.specs.Class.{is_blank, is_break, peek}
use Rattle.yaml_text.specs.Mark.{along, break_length, edge_of, here, new_line, nothing_at}
use Rattle.yaml_text.specs.Refusal.{got}
use Rattle.yaml_lexeme.specs.Escape.{Escaped, escape}
use Rattle.yaml_lexeme.specs.Quoted.{Mode, Quote, QuotedTurn, broken, chars_of, closes, folds_to, goes, joined, quote_char, quoted_blank, quoted_char}
use Rattle.quoted.specs.Texts.{before_stretch, char_stretch, passing, special, stretch_by, stretch_of, text_char, turn_stretch, words}
use Rattle.quoted.proofs.Runs.{break_unblank}

module _ (q : Quote) (b : Mode) (m : Mark) where
  pub take_blank : (c : ℕ) (cs : List ℕ) → is_blank c ≡ true → stretch_by (quoted_blank q m c b) (along m) cs ≡ turn_stretch q b m (c ∷ cs)
  unfolding turn_stretch
  take_blank c cs e = rw (e, turn_stretch)

  pub take_break : (cs : List ℕ) {n : ℕ} → is_break (peek cs 0) ≡ true → n ≡ break_length cs
      → record { text = []; mode = broken b; place = here (new_line n m) (drop n cs) } ≡ turn_stretch q b m cs
  unfolding turn_stretch
  take_break cs e f = rw (f, break_unblank (peek cs 0) e, e, turn_stretch)

  pub take_behind : (c : ℕ) (cs : List ℕ) → is_blank c ≡ false → is_break c ≡ false → turn_stretch q b m (c ∷ cs) ≡ before_stretch (folds_to b) (turn_stretch q chars_of m (c ∷ cs))
  unfolding turn_stretch folds_to
  take_behind c cs e f = rw (e, f, turn_stretch)

-- behind text
module _ (q : Quote) (m : Mark) (c : ℕ) (cs : List ℕ) (h : is_blank c ≡ false) (k : is_break c ≡ false) where
  take_char : {t : QuotedTurn} → special q.single c ≡ true → quoted_char q [] c cs ≡ t → stretch_by t (along m) cs ≡ turn_stretch q chars_of m (c ∷ cs)
  unfolding turn_stretch char_stretch text_char folds_to
  take_char s e = rw (h, k, turn_stretch, s, char_stretch, e)

  module _ (e : eqb c (quote_char q) ≡ true) where
    at_quote : special q.single c ≡ true
    unfolding special
    at_quote = rw (h, k, e)

    pub take_pair : (q.single && eqb (peek cs 0) single_quote) ≡ true
        → record { text = single_quote ∷ []; mode = chars_of; place = passing 1 (along m) cs } ≡ turn_stretch q chars_of m (c ∷ cs)
    unfolding quoted_char
    take_pair f = take_char {t = goes (single_quote ∷ []) chars_of 1} at_quote (rw (e, f, quoted_char))

    pub take_closed : (q.single && eqb (peek cs 0) single_quote) ≡ false → stretch_of (nothing_at (here (along m) cs)) ≡ turn_stretch q chars_of m (c ∷ cs)
    unfolding quoted_char
    take_closed f = take_char {t = closes []} at_quote (rw (e, f, quoted_char))

  module _ (e : eqb c (quote_char q) ≡ false) (f : (not q.single && eqb c backslash) ≡ true) where
    at_backslash : special q.single c ≡ true
    unfolding special
    at_backslash = rw (h, k, e, f)

    pub take_joined : is_break (peek cs 0) ≡ true
        → record { text = []; mode = joined 0 true; place = passing (break_length cs) (along m) cs } ≡ turn_stretch q chars_of m (c ∷ cs)
    unfolding quoted_char
    take_joined g = take_char {t = goes [] (joined 0 true) (break_length cs)} at_backslash (rw (e, f, g, quoted_char))

    pub take_escape : {x : Escaped} → is_break (peek cs 0) ≡ false → escape q.start cs ≡ got x
        → record { text = x.char ∷ []; mode = chars_of; place = passing x.took (along m) cs } ≡ turn_stretch q chars_of m (c ∷ cs)
    unfolding quoted_char
    take_escape {x} g i = take_char {t = goes (x.char ∷ []) chars_of x.took} at_backslash (rw (e, f, g, quoted_char, i))

  pub take_words : text_char q.single c ≡ true → stretch_of (words (leb q.indent (edge_of m)) q.single m (c ∷ cs)) ≡ turn_stretch q chars_of m (c ∷ cs)
  unfolding turn_stretch char_stretch folds_to
  take_words e = rw (h, k, turn_stretch, e, char_stretch)
