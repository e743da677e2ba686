-- Which turn it is, told by the character at the place.
use Prim.Native.Nat.{◌+◌, ℕ}
use mathlib.Core.Bool.{Bool, ◌&&◌, and_comm, false, not, true}
use mathlib.Core.List.{List, []}
use mathlib.Core.Path.{◌∙◌, ◌≡◌, refl, sym}
use lib.Dec.{eqb}
use lib.ListN.{drop, get_or}
use Rattle.std.specs.Prelude.{⊤}
use Rattle.std.proofs.Common.{Err, Ok, Result}
use borrow.Author.Tests.{eqb-true, ne_eqb, not-true}
use Rattle.yaml_text.specs.declared.Refusal.{Refusal}
use Rattle.yaml_text.specs.Class.{is_blank, is_break}
use Rattle.yaml_text.specs.Mark.{break_length}
use Rattle.yaml_text.specs.Test.{both_true}
use Rattle.yaml_text.specs.Utf8.{chars}
use Rattle.yaml_text.specs.Utf8Laws.{bytes1}
use Rattle.yaml_text.proofs.Utf8Laws.{first_bytes}
use Rattle.yaml_lexeme.specs.Quoted.{folds_to, quoted_run}
use Rattle.chars.specs.Ascii.{ascii_low, blank_ascii, break_ascii}
use Rattle.chars.specs.Bytes.{CharAt, ascii_at, eq_at, eq_char}
use Rattle.gaps.specs.Breaks.{break_at}
use Rattle.quoted.specs.declared.turns.Quote.{Quote}
use Rattle.quoted.specs.declared.turns.Progress.{Progress}
use Rattle.quoted.specs.declared.turns.Turned.{Turned}
use Rattle.quoted.specs.Modes.{PutsKept, line_held, mode_of}
use Rattle.quoted.specs.Texts.{quote_by, special, text_char}
use Rattle.quoted.specs.Advance.{Advances, Sound, TextAt, blank_turned, break_turned, quote_of, text_turn}
use Rattle.quoted.proofs.Kept.{text_right, text_wrong}
use Rattle.quoted.proofs.Lines.{quote_at}
use Rattle.quoted.proofs.Putting.{take_behind}
use Rattle.quoted.proofs.Runs.{run_folded, run_text}
use Rattle.quoted.proofs.Turning.{blank_turns, break_turns, refused_at, turns_from}

-- the closing quote, and a backslash
pub quote_there : {s : List ℕ} {at : ℕ} {b : ℕ} (single : Bool) → b ≡ get_or s at 0 → b ≡ quote_by single → CharAt s at (quote_by single) 1
quote_there {s} {at} {b} true e f = eq_char s at b e 39 tt f
quote_there {s} {at} {b} false e f = eq_char s at b e 34 tt f

pub backslash_there : {s : List ℕ} {at b : ℕ} (single : Bool) → b ≡ get_or s at 0 → (eqb b 92 && not single) ≡ true → CharAt s at 92 1 × (single ≡ false)
backslash_there {s} {at} {b} single e h =
    let d = both_true (eqb b 92) (not single) h in
    (eq_char s at b e 92 tt (eqb-true b 92 d.0), not-true single d.1)

-- text that stands for itself
pub text_plain : {s : List ℕ} {at b : ℕ} (single : Bool) (w : TextAt s at) → b ≡ get_or s at 0 → (b ≡ quote_by single → ⊥) → (eqb b 92 && not single) ≡ false
    → text_char single w.char ≡ true
unfolding text_char special
text_plain {s} {at} {b} single w e f g =
    let q : eqb w.char (quote_by single) ≡ false = rw w.is.next at (quote_at s at b e single) ∙ ne_eqb b (quote_by single) f in
    let k : eqb w.char 92 ≡ eqb b 92 = rw w.is.next at (eq_at s at b e 92 tt) in
    rw (w.no_blank, w.no_break, q, k, and_comm (not single) (eqb b 92), g)

-- 34: the end
pub end_turns : {text : List ℕ} {q : Quote} (before : List ℕ) {t : Progress} {r : Result Turned Refusal} → chars (drop t.place.at text) ≡ []
    → r ≡ Err (record { number = 34; mark = q.start }) → Advances text q before before t r
unfolding quoted_run
end_turns {q = q} before e f = refused_at 34 q.start (rw e) f refl

module _ {text : List ℕ} {q : Quote} {t : Progress} {r : Result Turned Refusal} where
  -- a blank
  pub blank_chosen : (before : List ℕ) {c n : ℕ} → Sound text t → CharAt text t.place.at c n → is_blank c ≡ true
      → r ≡ blank_turned q t c → Advances text q before before t r
  blank_chosen before {c} {n} s a b f =
      let l : n ≡ 1 = (first_bytes (drop t.place.at text) c n a.is).1 ∙ rw (bytes1 c (ascii_low blank_ascii c b).1) in
      blank_turns before s (rw l at a) b f

  -- a break
  pub break_chosen : (before : List ℕ) {c n : ℕ} → Sound text t → CharAt text t.place.at c n → is_break c ≡ true
      → r ≡ Ok (break_turned (break_length (chars (drop t.place.at text))) t) → Advances text q before before t r
  break_chosen before {c} {n} s a b f =
      let at = t.place.at in
      let e : is_break (get_or text at 0) ≡ true = sym (ascii_at text at (get_or text at 0) refl break_ascii) ∙ rw a.next b in
      break_turns before s (break_at s.stands refl e refl) refl f

  module _ (w : TextAt text t.place.at) {k : Result ⊤ Refusal} (e : k ≡ line_held (quote_of q) t.mode t.place.mark (chars (drop t.place.at text))) where
    -- 33, 35
    pub wrong_turns : (before : List ℕ) {f : Refusal} → k ≡ Err f → r ≡ Err f → Advances text q before before t r
    wrong_turns before {f} z g =
        let at = t.place.at in
        let m = t.place.mark in
        let cs = chars (drop (at + w.len) text) in
        refused_at f.number f.mark
        (rw w.is.next
        (run_text (quote_of q) (mode_of text at t.mode) m w.char cs w.no_blank w.no_break
        ∙ rw (text_wrong (quote_of q) m w.char cs text at t.mode (sym z ∙ rw w.is.next at e))))
        g refl

    -- text behind what was kept back
    pub fold_turns : {before mid after : List ℕ} {n : ℕ} → k ≡ Ok tt → PutsKept text t.place.at t.mode t.count before mid n
        → Advances text q mid after (text_turn (record { count = n; place = t.place })) r → Advances text q before after t r
    unfolding mode_of
    fold_turns z f g =
        let at = t.place.at in
        let m = t.place.mark in
        let cs = chars (drop (at + w.len) text) in
        let b = mode_of text at t.mode in
        let x = text_right (quote_of q) m w.char cs text at t.mode (sym (rw w.is.next at e) ∙ z) in
        turns_from (folds_to b) (rw w.is.next (take_behind (quote_of q) b m w.char cs w.no_blank w.no_break))
        (rw w.is.next (run_folded (quote_of q) b m w.char cs (folds_to b) w.no_blank w.no_break x)) f.puts refl g
