-- %YAML: the digits of a number one by one, and the two numbers.
use Rattle.std.specs.Prelude.{Result, Ok, Err}
use Prim.Native.Nat.{◌*◌, ◌+◌, ◌-◌, ◌<◌, ◌^◌, ◌≤◌, suc, ℕ}
use mathlib.Core.Bool.{false, true}
use mathlib.Core.List.{List, [], ◌∷◌}
use mathlib.Core.Path.{◌∙◌, ◌≡◌, ap, refl, sym}
use native.Mathlib.Nat.{pow-le-pow_right, pow-suc}
use native.Mathlib.Numerals.{add-one}
use native.Mathlib.Omega.{arith}
use lib.Dec.{leb}
use lib.ListN.{drop, get_or}
use borrow.Author.Tests.{leb-true, le-ltb, lt-ltb}
use Rattle.yaml_text.specs.declared.Mark.{Mark}
use Rattle.yaml_text.specs.declared.Refusal.{Refusal}
use Rattle.yaml_text.specs.Char.{dot}
use Rattle.yaml_text.specs.Class.{is_digit, peek}
use Rattle.yaml_text.specs.All.{all_any, all_bind, all_need, holds}
use Rattle.yaml_text.specs.Mark.{along, here, skip_by}
use Rattle.yaml_text.specs.Mark as definition
use Rattle.yaml_text.specs.Refusal.{Read, ◌>>=◌, got, need, refused}
use Rattle.yaml_text.specs.Test.{both_true}
use Rattle.yaml_text.specs.Utf8.{chars}
use Rattle.yaml_lexeme.specs.Directive.{blanks_at, version_digits, version_directive, version_number}
use Rattle.yaml_lexeme.specs.Directive as directive
use Rattle.yaml_lexeme.specs.declared.Kind.TheVariants as kind
use Rattle.yaml_lexeme.specs.Record.{laid}
use Rattle.yaml_lexeme.specs.Token.{VersionDirective, kind_bytes, lexeme}
use Rattle.yaml_lexeme.specs.Turns.{digits_long, digits_more, digits_stop}
use Rattle.chars.specs.declared.mark.Place.{Place}
use Rattle.chars.specs.Ascii.{digit_ascii}
use Rattle.chars.specs.Bytes.{CharAt, ascii_at, ascii_char, ne_char}
use Rattle.chars.specs.Places.{stands_along}
use Rattle.chars.specs.View.{Moves, Stands, past, view}
use Rattle.reading.specs.Answers.{ReaderAnswers, TextsIn, answers_got, answers_refused}
use Rattle.reading.specs.Reading.{text_size}
use Rattle.directives.specs.declared.version.Numbered.{Numbered}
use Rattle.directives.specs.Version.{Numbers, seen_number}

abbrev digits_at : List ℕ → Mark → Place → ℕ → ℕ → Read directive.Numbered
digits_at text start p n v = version_digits start n v p.mark (chars (drop p.at text))

-- behind n digits of the value v: what is left gives the whole
pub record Counting (text : List ℕ) (start : Mark) (from p : Place) (v n : ℕ) : Type 0 where
  pub stands : Stands text p
  pub onward : from.at ≤ p.at
  pub small : v < 10 ^ n
  pub whole : digits_at text start from 0 0 ≡ digits_at text start p n v

pub counting_start : {text : List ℕ} {start : Mark} {from : Place} → Stands text from → Counting text start from from 0 0
counting_start h = record { stands = h; onward = omega arith; small = omega arith; whole = refl }

pub digit_value : (c : ℕ) → is_digit c ≡ true → (48 ≤ c) × (c ≤ 57)
unfolding is_digit
digit_value c e = let h = both_true (leb 48 c) (leb c 57) e in (leb-true 48 c h.0, leb-true c 57 h.1)

digits_none : (start : Mark) (n v : ℕ) (m : Mark) (cs : List ℕ) → is_digit (peek cs 0) ≡ false
    → version_digits start n v m cs ≡ got (record { value = v; place = here m cs })
unfolding version_digits
digits_none start n v m [] e = refl
digits_none start n v m (c ∷ cs) e = digits_stop start n v m c cs e

module _ {text : List ℕ} {start : Mark} {from p : Place} {v n : ℕ} (w : Counting text start from p v n) {c : ℕ} (b : c ≡ get_or text p.at 0) where
  pub counting_stop : is_digit c ≡ false → Numbers text from (Ok (record { value = v; place = p })) (digits_at text start from 0 0)
  unfolding seen_number
  counting_stop e =
      record {
        same = sym (w.whole ∙ digits_none start n v p.mark (chars (drop p.at text)) (ascii_at text p.at c b digit_ascii ∙ e));
        ahead = (w.stands, w.onward);
      }

  module _ (e : is_digit c ≡ true) where
    pub digit_char : CharAt text p.at c 1
    digit_char = ascii_char text p.at c b digit_ascii e

    pub counting_long : 9 ≤ n → Numbers text from (Err (record { number = 14; mark = start })) (digits_at text start from 0 0)
    unfolding seen_number
    counting_long z =
        record {
          same = sym (w.whole ∙ rw digit_char.next (digits_long start n v p.mark c (chars (drop (p.at + 1) text)) e (le-ltb n 9 z)));
          ahead = tt;
        }

    module _ (z : n < 9) where
      -- no number of nine digits wraps
      pub counting_room : v * 10 + 9 < 2 ^ 32
      counting_room =
          let m : suc n ≤ 9 = omega arith in
          let p = pow-le-pow_right {n = 10} (omega arith) m in
          let q = pow-suc 10 n in
          omega (arith, w.small)

      pub counting_more : Counting text start from (past p 1 (along p.mark)) (v * 10 + (c - 48)) (n + 1)
      counting_more =
          let q = pow-suc 10 n in
          let d = digit_value c e in
          record {
            stands = stands_along w.stands 1 1 (omega arith) digit_char.within;
            onward = omega (arith, w.onward);
            small = rw add-one (omega (arith, w.small));
            whole = w.whole
                ∙ rw (digit_char.next, add-one n) (digits_more start n v p.mark c (chars (drop (p.at + 1) text)) e (lt-ltb n 9 z));
          }

module _ {text : List ℕ} {p : Place} {d : Read directive.Numbered} where
  number_got : {n : Numbered} → Numbers text p (Ok n) d → d ≡ got (record { value = n.value; place = view text n.place })
  unfolding seen_number
  number_got h = sym h.same

  number_refused : {f : Refusal} → Numbers text p (Err f) d → d ≡ refused f.number f.mark
  unfolding seen_number
  number_refused h = sym h.same

-- a number, by its first character
module _ (start : Mark) {text : List ℕ} {p : Place} {c : ℕ} (b : c ≡ get_or text p.at 0) where
  pub number_some : {r : Result Numbered Refusal} → is_digit c ≡ true → Numbers text p r (digits_at text start p 0 0)
      → Numbers text p r (version_number start (view text p))
  unfolding version_number ◌>>=◌ need
  number_some e h = rw (ascii_at text p.at c b digit_ascii ∙ e) h

  pub number_none : is_digit c ≡ false → Numbers text p (Err (record { number = 12; mark = start })) (version_number start (view text p))
  unfolding version_number ◌>>=◌ need seen_number
  number_none e = rw (ascii_at text p.at c b digit_ascii ∙ e) (record { same = refl; ahead = tt })

-- the first number, and what is behind it
module _ (start : Mark) {text : List ℕ} {p q : Place} (m : Moves text p q (blanks_at (view text p))) (used : ℕ) where
  first_read : version_number start (blanks_at (view text p)) ≡ version_number start (view text q)
  first_read = ap (version_number start) (sym m.same)

  pub major_refused : {f : Refusal} → Numbers text q (Err f) (version_number start (view text q))
      → ReaderAnswers text used (Err f) (version_directive start (view text p))
  unfolding version_directive ◌>>=◌
  major_refused h = answers_refused refl (rw (first_read ∙ number_refused h))

  module _ {a : Numbered} (h : Numbers text q (Ok a) (version_number start (view text q))) where
    pub version_open : {c : ℕ} → c ≡ get_or text a.place.at 0 → (c ≡ dot → ⊥)
        → ReaderAnswers text used (Err (record { number = 13; mark = start })) (version_directive start (view text p))
    unfolding version_directive ◌>>=◌ need
    version_open {c} b e = answers_refused refl (rw (first_read ∙ number_got h, ne_char text a.place.at c b dot tt e))

    module _ (d : CharAt text a.place.at dot 1) where
      abbrev second : Place
      second = past a.place 1 (along a.place.mark)

      turn : version_directive start (view text p)
          ≡ version_number start (view text second) >>= λ b. got (lexeme (VersionDirective a.value b.value) start b.place.mark b.place)
      unfolding version_directive ◌>>=◌ need
      turn = rw (first_read ∙ number_got h, d.next)

      pub minor_refused : {f : Refusal} → Numbers text second (Err f) (version_number start (view text second))
          → ReaderAnswers text used (Err f) (version_directive start (view text p))
      unfolding ◌>>=◌
      minor_refused k = answers_refused refl (turn ∙ rw (number_refused k))

      pub version_got : {b : Numbered} → Numbers text second (Ok b) (version_number start (view text second))
          → ReaderAnswers text used
          (Ok (record { token = record { kind = kind.VersionDirective a.value b.value; start = start; end = b.place.mark }; next = b.place }))
          (version_directive start (view text p))
      unfolding ◌>>=◌ laid text_size
      version_got {b} k =
          answers_got {l = lexeme (VersionDirective a.value b.value) start b.place.mark (view text b.place)} refl (turn ∙ rw (number_got k)) refl refl
          (record { stands = k.ahead.0; some = omega (arith, k.ahead.1); size = omega arith })

-- a version has no text
pub no_texts : (before : List ℕ) (start : Mark) (p : definition.Place) → TextsIn before before (version_directive start p)
unfolding version_directive kind_bytes
no_texts before start p =
    all_bind _ (all_any (version_number start (blanks_at p)))
    (λ a _. all_need _ 13 start _ (all_bind _ (all_any (version_number start (skip_by 1 a.place))) (λ b _. holds refl)))
