-- Turns over a backslash: an escaped break, or an escape.
use Prim.Native.Nat.{◌+◌, ◌<◌, ◌≤◌, ℕ}
use mathlib.Core.Bool.{Bool, ◌&&◌, false, not, true}
use mathlib.Core.List.{List, [], ◌∷◌, append-nil}
use mathlib.Core.Path.{◌∙◌, ◌≡◌, ap, refl, sym}
use native.Mathlib.Omega.{arith}
use lib.Dec.{eqb}
use lib.ListN.{drop, length}
use Rattle.std.proofs.Common.{Err, Ok, Result}
use lib.Seq.{sets}
use Rattle.yaml_text.specs.declared.Refusal.{Refusal}
use Rattle.yaml_text.specs.Char.{backslash}
use Rattle.yaml_text.specs.Class.{is_blank, is_break, peek}
use Rattle.yaml_text.specs.Mark.{along, along_by, break_length, new_line}
use Rattle.yaml_text.specs.Refusal.{Read, before_read, got, refused}
use Rattle.yaml_text.specs.Utf8.{char_bytes, chars, encode}
use Rattle.yaml_lexeme.specs.Escape.{escape}
use Rattle.yaml_lexeme.specs.Escape as definition
use Rattle.yaml_lexeme.specs.Quoted.{chars_of, escape_turn, joined, quoted_run}
use Rattle.yaml_lexeme.specs.Sizes.{width_some}
use Rattle.chars.specs.declared.mark.Place.{Place}
use Rattle.chars.specs.Bytes.{CharAt}
use Rattle.chars.specs.Lines.{break_reach}
use Rattle.chars.specs.Places.{stands_along, stands_line}
use Rattle.chars.specs.Reach.{Reach, reach_rest, reach_within}
use Rattle.chars.specs.View.{past, view}
use Rattle.escapes.specs.declared.answer.Escaped.{Escaped}
use Rattle.escapes.specs.Escaped.{Escapes, escape_from}
use Rattle.gaps.specs.Breaks.{Breaks, breaks, none, one, two}
use Rattle.quoted.specs.declared.fold.Mode.TheVariants as mode
use Rattle.quoted.specs.declared.turns.Quote.{Quote}
use Rattle.quoted.specs.declared.turns.Turned.{Turned}
use Rattle.quoted.specs.declared.turns.Turned.TheVariants.{Goes}
use Rattle.quoted.specs.Modes.{mode_of}
use Rattle.quoted.specs.Texts.{passing, quote_by}
use Rattle.quoted.specs.Advance.{Advances, Sound, quote_of, rest_of, text_turn, turn_of}
use Rattle.quoted.proofs.Putting.{take_escape, take_joined}
use Rattle.quoted.proofs.Runs.{before_none, behind, pass_break, run_passing}
use Rattle.quoted.proofs.Texts.{pass_along, pass_reach, run_escape, run_joined}
use Rattle.quoted.proofs.Told.{escape_passes}
use Rattle.quoted.proofs.Turning.{goes_on, refused_at}

-- a break, told by its length
breaks_yes : {cs : List ℕ} {n : ℕ} → Breaks cs n → 0 < n → is_break (peek cs 0) ≡ true
unfolding is_break
breaks_yes two h = refl
breaks_yes (one e f) h = e
breaks_yes (none e) h = absurd (omega arith)

breaks_no : {cs : List ℕ} {n : ℕ} → Breaks cs n → n ≤ 0 → is_break (peek cs 0) ≡ false
breaks_no two h = absurd (omega arith)
breaks_no (one e f) h = absurd (omega arith)
breaks_no (none e) h = e

backslash_unblank : (is_blank backslash ≡ false) × (is_break backslash ≡ false)
unfolding is_blank is_break
backslash_unblank = (refl, refl)

not_quote : (single : Bool) → single ≡ false → eqb backslash (quote_by single) ≡ false
not_quote single u = rw u

is_backslash : (single : Bool) → single ≡ false → (not single && eqb backslash backslash) ≡ true
is_backslash single u = rw u

-- the character that was escaped, and a refusal
record Taken (p : Place) (d : Read definition.Escaped) (x : Escaped) : Type 0 where
  esc : definition.Escaped
  is : d ≡ got esc
  char : x.code ≡ esc.char
  at_is : x.next.at ≡ p.at + (esc.took + 1)
  mark_is : x.next.mark ≡ along_by (esc.took + 1) p.mark

taken : (p : Place) (d : Read definition.Escaped) (x : Escaped) → Ok x ≡ escape_from p d → Taken p d x
unfolding escape_from
taken p (got e) x f =
    let g : x ≡ record { code = e.char; next = record { at = p.at + (e.took + 1); mark = along_by (e.took + 1) p.mark } } = cc in
    record {
      esc = e;
      is = refl;
      char = ap (λ (x : Escaped). x.code) g;
      at_is = ap (λ (x : Escaped). x.next.at) g;
      mark_is = ap (λ (x : Escaped). x.next.mark) g;
    }
taken p (refused n m) x f = cc

not_taken : (p : Place) (d : Read definition.Escaped) {f : Refusal} → Err f ≡ escape_from p d → d ≡ refused f.number f.mark
unfolding escape_from
not_taken p (got e) g = cc
not_taken p (refused n m) {f} g = let h : f ≡ record { number = n; mark = m } = cc in rw h

-- the text behind the backslash
abbrev pub after : List ℕ → Place → List ℕ
after text p = chars (drop (p.at + 1) text)

module _ (q : Quote) {text : List ℕ} {p : Place} {n : ℕ} (s : Sound text (text_turn (record { count = n; place = p }))) (a : CharAt text p.at backslash 1) (u : q.single ≡ false) where
  -- an escaped break of k characters
  pub joined_turns : (before : List ℕ) {k : ℕ} {r : Result Turned Refusal} → k ≡ break_length (after text p) → 0 < k
      → r ≡ Ok (Goes (record { place = past (past p 1 (along p.mark)) k (new_line k (along p.mark)); mode = mode.Escaped; count = n }))
      → Advances text q before before (text_turn (record { count = n; place = p })) r
  unfolding mode_of encode
  joined_turns before {k} e h f =
      let m = p.mark in
      let rest = after text p in
      let b : Breaks rest k = rw e (breaks rest) in
      let w : Reach text (p.at + 1) k (p.at + 1 + k) = rw e (break_reach text (p.at + 1)) in
      let i = reach_within w a.within in
      let g = run_joined (quote_of q) m backslash rest backslash_unblank.0 backslash_unblank.1 (not_quote _ u) (is_backslash _ u) (breaks_yes b h) in
      let j = pass_break (along m) b h in
      goes_on [] (record { place = past (past p 1 (along m)) k (new_line k (along m)); mode = mode.Escaped; count = n })
      (rw (a.next, reach_rest w, ← j, e) (take_joined (quote_of q) m backslash rest backslash_unblank.0 backslash_unblank.1 (not_quote _ u) (is_backslash _ u) (breaks_yes b h)))
      (rw (a.next, reach_rest w) (rw (← e) at g ∙ run_passing (quote_of q) (joined 0 true) k (along m) rest ∙ rw j (sym (before_none (quoted_run (quote_of q) (joined 0 true) 0 (new_line k (along m)) (drop k rest))))))
      refl (omega arith)
      (record {
        stands = stands_line (stands_along s.stands 1 1 (omega arith) a.within) k h i.0;
        short = s.short;
        kept = tt;
        few = omega (arith, s.few);
      })
      (omega arith) f

  module _ (v : break_length (after text p) ≤ 0) where
    escape_is : {d : Read definition.Escaped} → escape q.start (after text p) ≡ d
        → rest_of text q (text_turn (record { count = n; place = p })) ≡ behind (quote_of q) p.mark (after text p) (escape_turn [] d)
    unfolding mode_of
    escape_is e =
        rw a.next
        (run_escape (quote_of q) p.mark backslash (after text p) backslash_unblank.0 backslash_unblank.1 (not_quote _ u) (is_backslash _ u)
        (breaks_no (breaks (after text p)) v)
        ∙ rw e)

    -- an escape of a character
    module _ {x : Escaped} (t : Taken p (escape q.start (after text p)) x) where
      one_place : passing t.esc.took (along p.mark) (after text p) ≡ view text x.next
      one_place =
          let m = p.mark in
          let j = t.esc.took in
          let y = escape_passes q.start (after text p) t.esc t.is in
          let z : p.at + 1 + j ≡ p.at + (j + 1) = omega arith in
          let k : m.index + 1 + j ≡ m.index + (j + 1) = omega arith in
          let l : m.col + 1 + j ≡ m.col + (j + 1) = omega arith in
          pass_along j (along m) (after text p) y.1 ∙ rw (t.mark_is, t.at_is, ← z, reach_rest (pass_reach text (p.at + 1) j y.1), k, l)

      one_is : rest_of text q (text_turn (record { count = n; place = p })) ≡ before_read (x.code ∷ []) (quoted_run (quote_of q) chars_of 0 x.next.mark (chars (drop x.next.at text)))
      one_is = escape_is t.is ∙ rw (← t.char, run_passing (quote_of q) chars_of t.esc.took (along p.mark) (after text p), one_place)

      one_takes : record { text = x.code ∷ []; mode = chars_of; place = view text x.next } ≡ turn_of text q (text_turn (record { count = n; place = p }))
      unfolding mode_of
      one_takes =
          rw (a.next, t.char, ← one_place)
          (take_escape (quote_of q) p.mark backslash (after text p) backslash_unblank.0 backslash_unblank.1 (not_quote _ u) (is_backslash _ u)
          (breaks_no (breaks (after text p)) v) t.is)

      one_on : p.at + 2 ≤ x.next.at
      one_on = let y = escape_passes q.start (after text p) t.esc t.is in omega (arith, t.at_is)

    pub one_turns : {before out : List ℕ} {x : Escaped} {k : ℕ} {r : Result Turned Refusal} → Escapes text p (Ok x) (escape q.start (after text p))
        → out ≡ sets before n (char_bytes x.code) → k ≡ n + length (char_bytes x.code) → r ≡ Ok (Goes (text_turn (record { count = k; place = x.next }))) → Advances text q before out (text_turn (record { count = n; place = p })) r
    unfolding mode_of encode
    one_turns {x = x} {k} w f g h =
        let t = taken p (escape q.start (after text p)) x w.same in
        let o = (width_some x.code).1 in
        let i = one_on t in
        goes_on (x.code ∷ []) (text_turn (record { count = k; place = x.next })) (one_takes t) (one_is t) (f ∙ rw (append-nil (char_bytes x.code))) (g ∙ rw (append-nil (char_bytes x.code)))
        (record { stands = w.ahead.1; short = s.short; kept = tt; few = omega (arith, s.few) })
        (omega arith) h

    pub refused_turns : (before : List ℕ) {f : Refusal} {r : Result Turned Refusal} → Escapes text p (Err f) (escape q.start (after text p)) → r ≡ Err f
        → Advances text q before before (text_turn (record { count = n; place = p })) r
    refused_turns before {f} w h = refused_at f.number f.mark (escape_is (not_taken p (escape q.start (after text p)) w.same)) h refl
