-- Turns over a quote and over a run of text.
use Prim.Native.Nat.{◌+◌, ◌-◌, ℕ}
use mathlib.Core.Bool.{Bool, ◌&&◌, false, true}
use mathlib.Core.List.{List, [], ◌∷◌}
use mathlib.Core.Path.{◌∙◌, ◌≡◌, ap, refl}
use native.Mathlib.Omega.{arith}
use lib.Dec.{eqb, leb}
use Rattle.std.proofs.Common.{Ok, Result}
use Rattle.yaml_text.specs.declared.Refusal.{Refusal}
use lib.ListN.{drop, get_or, length, length-append, length-drop, set}
use lib.Seq.{length-take-le, sets}
use borrow.Author.Tests.{eq-eqb, eqb-true, leb-true}
use Rattle.yaml_text.specs.Char.{single_quote}
use Rattle.yaml_text.specs.Class.{is_blank, is_break, peek}
use Rattle.yaml_text.specs.Mark.{along, along_by, edge_of, here}
use Rattle.yaml_text.specs.Test.{both_true}
use Rattle.yaml_text.specs.Utf8.{char_bytes, chars, encode}
use Rattle.yaml_text.proofs.Utf8Laws.{first_bytes}
use Rattle.yaml_lexeme.specs.Quoted.{chars_of}
use Rattle.chars.specs.declared.mark.Place.{Place}
use Rattle.chars.specs.Bytes.{CharAt, eq_at, eq_char}
use Rattle.chars.specs.Parts.{Spans, part}
use Rattle.chars.specs.Places.{stands_along}
use Rattle.chars.specs.View.{past}
use Rattle.quoted.specs.declared.turns.Quote.{Quote}
use Rattle.quoted.specs.declared.turns.Turned.{Turned}
use Rattle.quoted.specs.declared.turns.Turned.TheVariants.{Closes, Goes}
use Rattle.quoted.specs.Modes.{mode_of}
use Rattle.quoted.specs.Texts.{Stretch, passing, quote_by, text_char, words}
use Rattle.quoted.specs.Advance.{Advances, Sound, TextAt, quote_of, text_turn}
use Rattle.quoted.proofs.Putting.{take_closed, take_pair, take_words}
use Rattle.quoted.proofs.Runs.{run_passing}
use Rattle.quoted.proofs.Texts.{ManyPassed, pass_along, run_closed, run_pair, run_words, words_more}
use Rattle.quoted.proofs.Turning.{closed_at, goes_on}

quote_unblank : (single : Bool) → (is_blank (quote_by single) ≡ false) × (is_break (quote_by single) ≡ false)
unfolding is_blank is_break
quote_unblank true = (refl, refl)
quote_unblank false = (refl, refl)

single_low : is_break single_quote ≡ false
unfolding is_break
single_low = refl

module _ {text : List ℕ} {q : Quote} {p : Place} {n : ℕ} {r : Result Turned Refusal} (s : Sound text (text_turn (record { count = n; place = p }))) where
  module _ (a : CharAt text p.at (quote_by q.single) 1) (b : ℕ) (e : b ≡ get_or text (p.at + 1) 0) where
    -- a single one that stands twice
    pub pair_turns : {before after : List ℕ} → (q.single && eqb b 39) ≡ true → after ≡ set before n 39
        → r ≡ Ok (Goes (text_turn (record { count = n + 1; place = past p 2 (along_by 2 p.mark) }))) → Advances text q before after (text_turn (record { count = n; place = p })) r
    unfolding mode_of encode char_bytes
    pair_turns {before} {after} h f k =
        let u = quote_unblank q.single in
        let m = p.mark in
        let at = p.at in
        let cs = chars (drop (at + 1) text) in
        let d = eq_char text (at + 1) b e 39 tt (eqb-true b 39 (both_true q.single (eqb b 39) h).1) in
        let g : (q.single && eqb (peek cs 0) single_quote) ≡ true = rw (eq_at text (at + 1) b e 39 tt) h in
        let l : ManyPassed 1 cs = rw d.next ((omega arith, omega arith, single_low), tt) in
        let i : m.index + 1 + 1 ≡ m.index + 2 = omega arith in
        let j : m.col + 1 + 1 ≡ m.col + 2 = omega arith in
        let x : at + 1 + 1 ≡ at + 2 = omega arith in
        let v : passing 1 (along m) cs ≡ here (along_by 2 m) (chars (drop (at + 2) text)) = pass_along 1 (along m) cs l ∙ rw (i, j, d.next, x) in
        let o = eq-eqb (quote_by q.single) (quote_by q.single) refl in
        goes_on (single_quote ∷ []) (text_turn (record { count = n + 1; place = past p 2 (along_by 2 m) }))
        (rw (a.next, ← v) (take_pair (quote_of q) m (quote_by q.single) cs u.0 u.1 o g))
        (rw a.next
        (run_pair (quote_of q) m (quote_by q.single) cs u.0 u.1 o g ∙ rw (run_passing (quote_of q) chars_of 1 (along m) cs, v)))
        f refl
        (record { stands = stands_along s.stands 2 2 (omega arith) (omega (arith, d.within)); short = s.short; kept = tt; few = omega (arith, s.few) })
        (omega arith) k

    pub close_turns : (before : List ℕ) → (q.single && eqb b 39) ≡ false → r ≡ Ok (Closes (record { count = n; place = past p 1 (along p.mark) }))
        → Advances text q before before (text_turn (record { count = n; place = p })) r
    unfolding mode_of
    close_turns before h k =
        let u = quote_unblank q.single in
        let cs = chars (drop (p.at + 1) text) in
        let g : (q.single && eqb (peek cs 0) single_quote) ≡ false = rw (eq_at text (p.at + 1) b e 39 tt) h in
        let o = eq-eqb (quote_by q.single) (quote_by q.single) refl in
        closed_at before
        (rw a.next (ap (λ (d : Stretch). d.text) (take_closed (quote_of q) p.mark (quote_by q.single) cs u.0 u.1 o g)))
        (rw a.next (run_closed (quote_of q) p.mark (quote_by q.single) cs u.0 u.1 o g))
        (stands_along s.stands 1 1 (omega arith) a.within) (omega arith) (omega (arith, s.few)) k

  -- a run of text
  pub run_turns : {before after : List ℕ} {e : Place} (i : TextAt text p.at) → text_char q.single i.char ≡ true
      → Spans text p e (words (leb q.indent (edge_of p.mark)) q.single p.mark (chars (drop p.at text)))
      → after ≡ sets before n (part text p.at e.at) → r ≡ Ok (Goes (text_turn (record { count = n + (e.at - p.at); place = e }))) → Advances text q before after (text_turn (record { count = n; place = p })) r
  unfolding mode_of encode
  run_turns {before} {after} {e} i t w f k =
      let m = p.mark in
      let a = i.is in
      let c = i.char in
      let len = i.len in
      let spaces = leb q.indent (edge_of m) in
      let y = words spaces q.single m (chars (drop p.at text)) in
      let z = words spaces q.single (along m) (chars (drop (p.at + len) text)) in
      let o = w.moves.onward in
      let l : length (encode y.text) ≡ e.at - p.at =
      ap length w.bytes ∙ length-take-le (e.at - p.at) _ (omega (arith, length-drop p.at text, w.moves.stands.within)) in
      let g : length (encode y.text) ≡ length (char_bytes c) + length (encode z.text) =
      rw (a.next, words_more spaces q.single m c (chars (drop (p.at + len) text)) (rw t)) (length-append (char_bytes c) (encode z.text)) in
      let j = (first_bytes (drop p.at text) c len a.is).1 in
      goes_on y.text (text_turn (record { count = n + (e.at - p.at); place = e }))
      (rw (w.moves.same, a.next) (take_words (quote_of q) m c (chars (drop (p.at + len) text)) i.no_blank i.no_break t))
      (run_words (quote_of q) spaces m (chars (drop p.at text)) (leb-true q.indent (edge_of m)) ∙ rw (← w.moves.same)) (f ∙ rw w.bytes) (rw l)
      (record { stands = w.moves.stands; short = s.short; kept = tt; few = omega (arith, s.few) })
      (omega (arith, a.some)) k
