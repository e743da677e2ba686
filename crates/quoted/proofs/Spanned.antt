-- The loop over a run of text.
use Prim.Native.Nat.{◌+◌, ℕ}
use mathlib.Core.Bool.{Bool, ◌&&◌, ◌||◌, and-false, false, or-true, true}
use mathlib.Core.List.{List, []}
use mathlib.Core.Path.{◌≡◌, refl, sym}
use lib.Dec.{eqb}
use lib.ListN.{drop, get_or}
use borrow.Author.Tests.{eqb-true}
use Rattle.yaml_text.specs.declared.Decoded.{Decoded}
use Rattle.yaml_text.specs.declared.Decoded.TheVariants.{Char, End, Ill}
use Rattle.yaml_text.specs.Char.{space}
use Rattle.yaml_text.specs.Class.{peek}
use Rattle.yaml_text.specs.Mark.{Run, along}
use Rattle.yaml_text.specs.Test.{both_true, by_test}
use Rattle.yaml_text.specs.Utf8.{chars, first}
use Rattle.chars.specs.declared.mark.Place.{Place}
use Rattle.chars.specs.Bytes.{CharAt, ascii_at, ascii_char, eq_at, eq_char, none_end, none_ill}
use Rattle.chars.specs.Reach.{reach_one}
use Rattle.chars.specs.View.{past}
use Rattle.chars.specs.Parts.{Spans}
use Rattle.gaps.specs.Span.{Spanning, spans_along, spans_done}
use Rattle.quoted.specs.Texts.{inner, ordinary, special, text_char, words}
use Rattle.quoted.proofs.Texts.{ordinary_ascii, ordinary_plain, words_more, words_stop}

-- no character begins at an offset
pub no_chars : (s : List ℕ) (at : ℕ) (d : Decoded) → d ≡ first (drop at s) → ((c n : ℕ) → d ≡ Char c n → ⊥) → chars (drop at s) ≡ []
no_chars s at (Char c n) e k = absurd (k c n refl)
no_chars s at Ill e k = none_ill s at (sym e)
no_chars s at End e k = none_end s at (sym e)

module _ (spaces single : Bool) {text : List ℕ} {start p : Place} {whole : Run}
    (w : Spanning text start p whole (words spaces single p.mark (chars (drop p.at text)))) where
  on : {c n : ℕ} → CharAt text p.at c n → (text_char single c || inner spaces c (peek (chars (drop (p.at + n) text)) 0)) ≡ true
      → Spanning text start (past p n (along p.mark)) whole (words spaces single (along p.mark) (chars (drop (p.at + n) text)))
  on {c} {n} a e = spans_along w n 1 (reach_one a) (rw a.next (words_more spaces single p.mark c _ e))

  pub span_more : {c n : ℕ} → CharAt text p.at c n → special single c ≡ false
      → Spanning text start (past p n (along p.mark)) whole (words spaces single (along p.mark) (chars (drop (p.at + n) text)))
  unfolding text_char
  span_more a e = on a (rw e)

  module _ (b : ℕ) (e : b ≡ get_or text p.at 0) where
    pub span_ordinary : ordinary b ≡ true
        → Spanning text start (past p 1 (along p.mark)) whole (words spaces single (along p.mark) (chars (drop (p.at + 1) text)))
    span_ordinary t = span_more (ascii_char text p.at b e ordinary_ascii t) (ordinary_plain single b t)

    module _ (d : ℕ) (f : d ≡ get_or text (p.at + 1) 0) where
      pub span_inner : inner spaces b d ≡ true
          → Spanning text start (past p 1 (along p.mark)) whole (words spaces single (along p.mark) (chars (drop (p.at + 1) text)))
      unfolding inner
      span_inner t =
          let i = both_true (spaces && eqb b space) (ordinary d) t in
          let j = both_true spaces (eqb b space) i.0 in
          on (eq_char text p.at b e space tt (eqb-true b space j.1))
          (rw (j.0, ascii_at text (p.at + 1) d f ordinary_ascii, i.1) (or-true (text_char single space)))

      pub span_stop : {c n : ℕ} → CharAt text p.at c n → special single c ≡ true → inner spaces b d ≡ false → Spans text start p whole
      unfolding text_char inner
      span_stop {c} {n} a g t =
          let k : eqb c space ≡ eqb b space = rw a.next at (eq_at text p.at b e space tt) in
          let x : (text_char single c || inner spaces c (peek (chars (drop (p.at + n) text)) 0)) ≡ false =
          by_test (eqb b space)
          (λ u. let y = (eq_char text p.at b e space tt (eqb-true b space u)).is in
          let z = a.is in
          let l : n ≡ 1 = cc in
          rw (g, k, l, ascii_at text (p.at + 1) d f ordinary_ascii) t)
          (λ u. rw (g, k, u, and-false spaces)) in
          spans_done w (rw a.next (words_stop spaces single p.mark c _ x))

  pub span_end : chars (drop p.at text) ≡ [] → Spans text start p whole
  unfolding words
  span_end e = spans_done w (rw e)
