-- The header, by the first two bytes behind the indicator.
use Prim.Native.Nat.{◌+◌, ◌-◌, ◌≤◌, ℕ}
use mathlib.Core.Bool.{Bool, false, true}
use mathlib.Core.List.{List}
use mathlib.Core.Path.{◌∙◌, ◌≡◌, sym}
use native.Mathlib.Omega.{arith}
use lib.Dec.{eqb, leb}
use lib.ListN.{drop, get_or}
use borrow.Author.Tests.{leb-true}
use Rattle.yaml_text.specs.declared.Mark.{Mark}
use Rattle.yaml_text.specs.Char.{'+', '-', '0'}
use Rattle.yaml_text.specs.Class.{is_digit, peek}
use Rattle.yaml_text.specs.Mark.{along, along_by, skip_by}
use Rattle.yaml_text.specs.Mark as place
use Rattle.yaml_text.specs.Refusal.{Read, ◌>>=◌, got}
use Rattle.yaml_text.specs.Test.{both_true, by_pick, by_test}
use Rattle.yaml_text.specs.Utf8.{chars}
use Rattle.yaml_lexeme.specs.declared.Chomping.{Chomping}
use Rattle.yaml_lexeme.specs.declared.Chomping.TheVariants.{Clip}
use Rattle.yaml_lexeme.specs.Block.{chomping_of, increment_of, indicators, is_chomp}
use Rattle.yaml_lexeme.specs.Block as definition
use Rattle.chars.specs.declared.mark.Place.{Place}
use Rattle.chars.specs.Ascii.{Ascii, ◌or◌, digit_ascii, one}
use Rattle.chars.specs.Bytes.{CharAt, ascii_at, ascii_char}
use Rattle.chars.specs.View.{Moves, Stands, past, view}
use Rattle.chars.specs.Places.{moves_along, moves_none}
use Rattle.chars.specs.Reach.{more, reach_one}
use Rattle.block_header.proofs.Tests.{or_no}
use Rattle.std.specs.Prelude.{Option, Some, None}
use Rattle.block_header.specs.declared.header.Header.{Header}
use Rattle.block_header.specs.Header.{Heads, BehindHeader, headed_by, seen_header}

-- the header where an increment is known
abbrev with : Mark → Chomping → ℕ → place.Place → Read definition.Header
with start k d p = increment_of start d >>= λ n. got (record { chomping = k; increment = n; place = p })

digit_small : (d : ℕ) → is_digit d ≡ true → d - '0' ≤ 9
unfolding is_digit
digit_small d e = let h = both_true (leb 48 d) (leb d 57) e in omega (arith, leb-true d 57 h.1)

pub digit_least : (d : ℕ) → is_digit d ≡ true → '0' ≤ d
unfolding is_digit
digit_least d e = leb-true 48 d (both_true (leb 48 d) (leb d 57) e).0

headed_seen : (start : Mark) (text : List ℕ) (k : Chomping) (d : ℕ) (p : Place) → is_digit d ≡ true → seen_header start text (headed_by k d p) ≡ with start k d (view text p)
unfolding seen_header headed_by increment_of ◌>>=◌
headed_seen start text k d p e = by_test (eqb d '0') (λ f. rw (e, f)) (λ f. rw (e, f))

module _ {text : List ℕ} {p q : Place} {r : Option Header} {e : place.Place} (w : Moves text p q e) where
  heads_digit : (k : Chomping) (d : ℕ) → r ≡ headed_by k d q → is_digit d ≡ true → ((start : Mark) → indicators start (view text p) ≡ with start k d e)
      → Heads text p r
  unfolding headed_by
  heads_digit k d f g h =
      record {
        same = λ start. rw (f, headed_seen start text k d q g, w.same) (sym (h start));
        onward = rw f (by_pick (BehindHeader text p) (eqb d '0') None (Some (record { chomping = k; increment = d - '0'; place = q })) tt (w.stands, w.onward, digit_small d g));
      }

  heads_none : {k : Chomping} → r ≡ Some (record { chomping = k; increment = 0; place = q })
      → ((start : Mark) → indicators start (view text p) ≡ got (record { chomping = k; increment = 0; place = e })) → Heads text p r
  unfolding seen_header
  heads_none f h = record { same = λ start. rw (f, w.same) (sym (h start)); onward = rw f (w.stands, w.onward, omega arith) }

-- the indicators by the first two characters
module _ (start : Mark) (p : place.Place) where
  chomp_digit : is_chomp (peek p.rest 0) ≡ true → is_digit (peek p.rest 1) ≡ true
      → indicators start p ≡ with start (chomping_of (peek p.rest 0)) (peek p.rest 1) (skip_by 2 p)
  unfolding indicators
  chomp_digit e f = rw (e, f, indicators)

  chomp_only : is_chomp (peek p.rest 0) ≡ true → is_digit (peek p.rest 1) ≡ false
      → indicators start p ≡ got (record { chomping = chomping_of (peek p.rest 0); increment = 0; place = skip_by 1 p })
  unfolding indicators increment_of ◌>>=◌
  chomp_only e f = rw (e, f, indicators)

  digit_chomp : is_chomp (peek p.rest 0) ≡ false → is_digit (peek p.rest 0) ≡ true → is_chomp (peek p.rest 1) ≡ true
      → indicators start p ≡ with start (chomping_of (peek p.rest 1)) (peek p.rest 0) (skip_by 2 p)
  unfolding indicators
  digit_chomp e f g = rw (e, f, g, indicators)

  digit_only : is_chomp (peek p.rest 0) ≡ false → is_digit (peek p.rest 0) ≡ true → is_chomp (peek p.rest 1) ≡ false
      → indicators start p ≡ with start (chomping_of (peek p.rest 1)) (peek p.rest 0) (skip_by 1 p)
  unfolding indicators
  digit_only e f g = rw (e, f, g, indicators)

  neither : is_chomp (peek p.rest 0) ≡ false → is_digit (peek p.rest 0) ≡ false → indicators start p ≡ got (record { chomping = Clip; increment = 0; place = p })
  unfolding indicators increment_of ◌>>=◌
  neither e f = rw (e, f, indicators)

chomp_ascii : Ascii is_chomp
unfolding is_chomp
chomp_ascii = one '+' tt or one '-' tt

clip_other : (c : ℕ) → is_chomp c ≡ false → chomping_of c ≡ Clip
unfolding is_chomp chomping_of
clip_other c e = let h = or_no (eqb c '+') (eqb c '-') e in rw (h.0, h.1)

-- the same by the first two bytes
module _ {s : List ℕ} {p : Place} (h : Stands s p) {c d : ℕ} (e : c ≡ get_or s p.at 0) (f : d ≡ get_or s (p.at + 1) 0) where
  moved_one : {q : Place} → CharAt s p.at c 1 → q ≡ past p 1 (along p.mark) → Moves s p q (skip_by 1 (view s p))
  moved_one x g = rw g (moves_along h 1 1 (reach_one x))

  moved_two : {q : Place} → CharAt s p.at c 1 → CharAt s (p.at + 1) d 1 → q ≡ past p 2 (along_by 2 p.mark) → Moves s p q (skip_by 2 (view s p))
  moved_two x y g = let k : p.at + 1 + 1 ≡ p.at + 2 = omega arith in rw g (moves_along h 2 2 (more x (rw k at (reach_one y))))

  -- a class of the second character
  second : {t : ℕ → Bool} → Ascii t → CharAt s p.at c 1 → t (peek (chars (drop p.at s)) 1) ≡ t d
  second a x = rw x.next (ascii_at s (p.at + 1) d f a)

  module _ {q : Place} {r : Option Header} {k : Chomping} where
    pub heads_chomp_digit : is_chomp c ≡ true → is_digit d ≡ true → k ≡ chomping_of c → q ≡ past p 2 (along_by 2 p.mark) → r ≡ headed_by k d q → Heads s p r
    heads_chomp_digit g i l m n =
        let x = ascii_char s p.at c e chomp_ascii g in
        let y = ascii_char s (p.at + 1) d f digit_ascii i in
        let j : peek (chars (drop p.at s)) 0 ≡ c = rw x.next in
        let o : peek (chars (drop p.at s)) 1 ≡ d = rw (x.next, y.next) in
        heads_digit (moved_two x y m) k d n i (λ start. rw (j, o, ← l) at (chomp_digit start (view s p) (rw j g) (rw o i)))

    pub heads_chomp : is_chomp c ≡ true → is_digit d ≡ false → k ≡ chomping_of c → q ≡ past p 1 (along p.mark)
        → r ≡ Some (record { chomping = k; increment = 0; place = q }) → Heads s p r
    heads_chomp g i l m n =
        let x = ascii_char s p.at c e chomp_ascii g in
        let j : peek (chars (drop p.at s)) 0 ≡ c = rw x.next in
        heads_none (moved_one x m) n (λ start. rw (j, ← l) at (chomp_only start (view s p) (rw j g) (second digit_ascii x ∙ i)))

    pub heads_digit_chomp : is_chomp c ≡ false → is_digit c ≡ true → is_chomp d ≡ true → k ≡ chomping_of d → q ≡ past p 2 (along_by 2 p.mark) → r ≡ headed_by k c q → Heads s p r
    heads_digit_chomp g i t l m n =
        let x = ascii_char s p.at c e digit_ascii i in
        let y = ascii_char s (p.at + 1) d f chomp_ascii t in
        let j : peek (chars (drop p.at s)) 0 ≡ c = rw x.next in
        let o : peek (chars (drop p.at s)) 1 ≡ d = rw (x.next, y.next) in
        heads_digit (moved_two x y m) k c n i (λ start. rw (j, o, ← l) at (digit_chomp start (view s p) (rw j g) (rw j i) (rw o t)))

    pub heads_digit_only : is_chomp c ≡ false → is_digit c ≡ true → is_chomp d ≡ false → k ≡ chomping_of d → q ≡ past p 1 (along p.mark) → r ≡ headed_by k c q → Heads s p r
    heads_digit_only g i t l m n =
        let x = ascii_char s p.at c e digit_ascii i in
        let j : peek (chars (drop p.at s)) 0 ≡ c = rw x.next in
        let u = second chomp_ascii x ∙ t in
        let o : chomping_of (peek (chars (drop p.at s)) 1) ≡ k = clip_other _ u ∙ sym (l ∙ clip_other d t) in
        heads_digit (moved_one x m) k c n i (λ start. rw (j, o) at (digit_only start (view s p) (rw j g) (rw j i) u))

  pub heads_nothing : {r : Option Header} → is_chomp c ≡ false → is_digit c ≡ false → r ≡ Some (record { chomping = Clip; increment = 0; place = p }) → Heads s p r
  heads_nothing g i n =
      heads_none (moves_none h) n (λ start. neither start (view s p) (ascii_at s p.at c e chomp_ascii ∙ g) (ascii_at s p.at c e digit_ascii ∙ i))
