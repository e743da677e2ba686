-- What is kept back: behind a blank, behind a break, and where text follows.
use Prim.Native.Nat.{◌+◌, ◌<◌, ◌≤◌, ℕ}
use mathlib.Core.Bool.{◌&&◌}
use mathlib.Core.List.{List, [], ◌++◌, ◌∷◌}
use mathlib.Core.Path.{◌∙◌, ◌≡◌, refl}
use native.Mathlib.Numerals.{add-one}
use native.Mathlib.Omega.{arith}
use lib.Dec.{eqb, ltb}
use Rattle.std.specs.Prelude.{⊤}
use Rattle.std.proofs.Common.{Err, Ok, Result}
use Rattle.yaml_text.specs.declared.Refusal.{Refusal}
use Rattle.yaml_text.specs.declared.Mark.{Mark}
use Rattle.yaml_text.specs.Char.{tab}
use Rattle.yaml_text.specs.Mark.{edge_of, is_marker}
use Rattle.yaml_text.specs.Pick.{pick}
use Rattle.yaml_text.specs.Test.{by_test}
use Rattle.yaml_text.specs.Utf8.{encode}
use Rattle.yaml_text.specs.Utf8Laws.{bytes1, encode_append}
use Rattle.yaml_lexeme.specs.Quoted.{Quote, broken, folds_to, goes, quote_char, quoted_blank, quoted_char, quoted_line, quoted_text, wrong_quote}
use Rattle.yaml_lexeme.specs.Quoted as definition
use Rattle.chars.specs.Bytes.{CharAt}
use Rattle.chars.specs.Parts.{part, part_more, part_none}
use Rattle.quoted.specs.declared.fold.Mode.{Mode}
use Rattle.quoted.specs.declared.fold.Mode.TheVariants.{Blanks, Chars, Escaped, Folded, Joined}
use Rattle.quoted.specs.Modes.{BlanksKept, behind_break, blank_mode, break_mode, line_held, mode_of, owed}

-- behind the blank c of one byte
module _ {text : List ℕ} {at c : ℕ} (a : CharAt text at c 1) (l : c < 128) where
  part_blank : (from : ℕ) → from ≤ at → part text from (at + 1) ≡ part text from at ++ (c ∷ [])
  part_blank from h = part_more text from h a ∙ rw (bytes1 c l)

  part_here : part text at (at + 1) ≡ c ∷ []
  part_here = part_blank at (omega arith) ∙ rw (part_none text at)

  pub blank_is : (q : Quote) (m : Mark) (mode : Mode) → BlanksKept text at mode
      → quoted_blank q m c (mode_of text at mode)
      ≡ pick (behind_break mode && eqb c tab && ltb (edge_of m) q.indent) (wrong_quote 36 m) (goes [] (mode_of text (at + 1) (blank_mode at mode)) 0)
  unfolding quoted_blank mode_of blank_mode
  blank_is q m Chars k = rw part_here
  blank_is q m (Blanks from) k = rw (part_blank from k.0)
  blank_is q m (Folded n) k = refl
  blank_is q m Escaped k = refl
  blank_is q m (Joined n) k = refl

  pub blank_kept : (mode : Mode) → BlanksKept text at mode → BlanksKept text (at + 1) (blank_mode at mode)
  unfolding blank_mode encode
  blank_kept Chars k = (omega arith, rw (part_here, bytes1 c l))
  blank_kept (Blanks from) k = (omega (arith, k.0), rw (part_blank from k.0, encode_append (part text from at) (c ∷ []), k.1, bytes1 c l))
  blank_kept (Folded n) k = tt
  blank_kept Escaped k = tt
  blank_kept (Joined n) k = tt

pub blank_owed : (text : List ℕ) (at : ℕ) (mode : Mode) → BlanksKept text at mode → owed (at + 1) (blank_mode at mode) ≤ owed at mode + 1
unfolding blank_mode
blank_owed text at Chars k = omega arith
blank_owed text at (Blanks from) k = omega (arith, k.0)
blank_owed text at (Folded n) k = omega arith
blank_owed text at Escaped k = omega arith
blank_owed text at (Joined n) k = omega arith

-- behind a break
module _ (text : List ℕ) (at next : ℕ) where
  pub break_is : (mode : Mode) → broken (mode_of text at mode) ≡ mode_of text next (break_mode mode)
  unfolding broken mode_of break_mode
  break_is Chars = refl
  break_is (Blanks from) = refl
  break_is (Folded n) = rw add-one
  break_is Escaped = refl
  break_is (Joined n) = rw add-one

  pub break_kept : (mode : Mode) → BlanksKept text next (break_mode mode)
  unfolding break_mode
  break_kept Chars = tt
  break_kept (Blanks from) = tt
  break_kept (Folded n) = tt
  break_kept Escaped = tt
  break_kept (Joined n) = tt

  pub break_owed : (mode : Mode) → owed next (break_mode mode) ≤ owed at mode + 1
  unfolding break_mode
  break_owed Chars = omega arith
  break_owed (Blanks from) = omega arith
  break_owed (Folded n) = omega arith
  break_owed Escaped = omega arith
  break_owed (Joined n) = omega arith

-- where text follows
module _ (q : Quote) (b : definition.Mode) (m : Mark) (c : ℕ) (cs : List ℕ) where
  abbrev line_told : Result ⊤ Refusal
  line_told =
      pick (is_marker m (c ∷ cs)) (Err (record { number = 33; mark = q.start }))
      (pick (ltb (edge_of m) q.indent) (Err (record { number = 35; mark = q.start })) (Ok tt))

  line_wrong : {f : Refusal} → Err f ≡ line_told → quoted_line q b m c cs ≡ wrong_quote f.number f.mark
  unfolding quoted_line
  line_wrong {f} e =
      by_test (is_marker m (c ∷ cs))
      (λ t. let g : f ≡ record { number = 33; mark = q.start } = alike (e ∙ rw t) in rw (g, t, quoted_line))
      (λ t. by_test (ltb (edge_of m) q.indent)
      (λ u. let g : f ≡ record { number = 35; mark = q.start } = alike (e ∙ rw (t, u)) in rw (g, t, u, quoted_line))
      (λ u. let g : ◌≡◌ {A = Result ⊤ Refusal} (Err f) (Ok tt) = e ∙ rw (t, u) in cc))
    where
      alike : {g : Refusal} → ◌≡◌ {A = Result ⊤ Refusal} (Err f) (Err g) → f ≡ g
      alike h = cc

  line_right : line_told ≡ Ok tt → quoted_line q b m c cs ≡ quoted_char q (folds_to b) c cs
  unfolding quoted_line
  line_right e =
      by_test (is_marker m (c ∷ cs))
      (λ f. let z : ◌≡◌ {A = Result ⊤ Refusal} (Err (record { number = 33; mark = q.start })) (Ok tt) = rw f at e in cc)
      (λ f. by_test (ltb (edge_of m) q.indent)
      (λ g. let z : ◌≡◌ {A = Result ⊤ Refusal} (Err (record { number = 35; mark = q.start })) (Ok tt) = rw (f, g) at e in cc)
      (λ g. rw (f, g, quoted_line)))

module _ (q : Quote) (m : Mark) (c : ℕ) (cs : List ℕ) (text : List ℕ) (at : ℕ) where
  pub text_wrong : (mode : Mode) {f : Refusal} → Err f ≡ line_held q mode m (c ∷ cs) → quoted_text q (mode_of text at mode) m c cs ≡ wrong_quote f.number f.mark
  unfolding quoted_text mode_of line_held
  text_wrong Chars e = cc
  text_wrong (Blanks from) e = line_wrong q _ m c cs e
  text_wrong (Folded n) e = line_wrong q _ m c cs e
  text_wrong Escaped {f} e =
      by_test (eqb c (quote_char q))
      (λ t. let z : ◌≡◌ {A = Result ⊤ Refusal} (Err f) (Ok tt) = e ∙ rw t in cc)
      (λ t. rw (t, quoted_text) (line_wrong q _ m c cs (e ∙ rw t)))
  text_wrong (Joined n) e = line_wrong q _ m c cs e

  pub text_right : (mode : Mode) → line_held q mode m (c ∷ cs) ≡ Ok tt → quoted_text q (mode_of text at mode) m c cs ≡ quoted_char q (folds_to (mode_of text at mode)) c cs
  unfolding quoted_text mode_of line_held folds_to
  text_right Chars e = refl
  text_right (Blanks from) e = line_right q _ m c cs e
  text_right (Folded n) e = line_right q _ m c cs e
  text_right Escaped e =
      by_test (eqb c (quote_char q))
      (λ f. rw (f, quoted_text))
      (λ f. rw (f, quoted_text) (line_right q _ m c cs (rw f at e)))
  text_right (Joined n) e = line_right q _ m c cs e
