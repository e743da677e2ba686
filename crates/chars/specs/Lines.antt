-- Breaks and document markers at a place, told by its bytes.
use Rattle.std.specs.Prelude.{◌+◌, ◌<◌, ◌≤◌, ℕ, Bool, ◌&&◌, ◌||◌, false, true, List, ◌≡◌, refl, eqb, drop, get_or}
use Rattle.std.proofs.Common.{◌∙◌, arith}
use borrow.Author.Tests.{eqb-false, eqb-true, ne_eqb}
use Rattle.yaml_text.specs.declared.Mark.{Mark}
use Rattle.yaml_text.specs.Char.{'-', dot}
use Rattle.yaml_text.specs.Class.{is_blank_or_breakz, is_break, peek}
use Rattle.yaml_text.specs.Mark.{break_length, half_break, is_marker, new_line, skip_break}
use Rattle.yaml_text.specs.Pick.{pick}
use Rattle.yaml_text.specs.Test.{by_pick, by_test}
use Rattle.yaml_text.specs.Utf8.{chars}
use Rattle.chars.specs.declared.mark.Place.{Place}
use Rattle.chars.specs.Ascii.{Ascii, ◌or◌, just, one}
use Rattle.chars.specs.Bytes.{CharAt, ascii_at, ascii_char, eq_char, ne_char}
use Rattle.chars.specs.Reach.{Reach, more, none, reach_one, reach_within}
use Rattle.chars.specs.View.{Moves, Stands, past, view}
use Rattle.chars.specs.Places.{moves_as, moves_none, moves_past, stands_line}

-- by the byte at a place and, for CR, the one behind it
module _ (s : List ℕ) (at b : ℕ) (e : b ≡ get_or s at 0) where
  pub break_lf : b ≡ 10 → break_length (chars (drop at s)) ≡ 1
  unfolding break_length half_break is_break
  break_lf f = rw (eq_char s at b e 10 tt f).next

  pub break_crlf : b ≡ 13 → (d : ℕ) → d ≡ get_or s (at + 1) 0 → d ≡ 10 → break_length (chars (drop at s)) ≡ 2
  unfolding break_length half_break
  break_crlf f d g h = rw ((eq_char s at b e 13 tt f).next, (eq_char s (at + 1) d g 10 tt h).next)

  pub break_cr : b ≡ 13 → (d : ℕ) → d ≡ get_or s (at + 1) 0 → (d ≡ 10 → ⊥) → break_length (chars (drop at s)) ≡ 1
  unfolding break_length half_break is_break
  break_cr f d g h = rw ((eq_char s at b e 13 tt f).next, ne_char s (at + 1) d g 10 tt h)

  pub break_none : (b ≡ 10 → ⊥) → (b ≡ 13 → ⊥) → break_length (chars (drop at s)) ≡ 0
  unfolding break_length half_break is_break
  break_none f g = rw (ne_char s at b e 10 tt f, ne_char s at b e 13 tt g)

-- each character of a break is one byte
pub break_reach : (s : List ℕ) (at : ℕ) → Reach s at (break_length (chars (drop at s))) (at + break_length (chars (drop at s)))
break_reach s at =
    let b = get_or s at 0 in
    let d = get_or s (at + 1) 0 in
    let z : at + 0 ≡ at = omega arith in
    let k : at + 1 + 1 ≡ at + 2 = omega arith in
    by_test (eqb b 10)
    (λ t. let f = eqb-true b 10 t in rw (break_lf s at b refl f) (reach_one (eq_char s at b refl 10 tt f)))
    (λ t. by_test (eqb b 13)
    (λ u. let f = eqb-true b 13 u in
    let a = eq_char s at b refl 13 tt f in
    by_test (eqb d 10)
    (λ v. let g = eqb-true d 10 v in
    rw (break_crlf s at b refl f d refl g) (more a (rw k at (reach_one (eq_char s (at + 1) d refl 10 tt g)))))
    (λ v. rw (break_cr s at b refl f d refl (eqb-false d 10 v)) (reach_one a)))
    (λ u. rw (break_none s at b refl (eqb-false b 10 t) (eqb-false b 13 u), z) none))

pub break_few : (cs : List ℕ) → break_length cs ≤ 2
unfolding break_length
break_few cs =
    by_pick (λ (n : ℕ). n ≤ 2) (half_break (peek cs 0) (peek cs 1)) 2 (pick (is_break (peek cs 0)) 1 0) (omega arith)
    (by_pick (λ (n : ℕ). n ≤ 2) (is_break (peek cs 0)) 1 0 (omega arith) (omega arith))

-- the character b at the next two places as well, before blank, break or end
unfoldable pub twice_more : ℕ → List ℕ → Bool
twice_more b cs = eqb (peek cs 1) b && eqb (peek cs 2) b && is_blank_or_breakz (peek cs 3)

pub twice_bytes : (s : List ℕ) (at b : ℕ) → CharAt s at b 1 → 0 < b → b < 128
    → (eqb (get_or s (at + 1) 0) b && eqb (get_or s (at + 2) 0) b && is_blank_or_breakz (peek (chars (drop (at + 3) s)) 0))
    ≡ twice_more b (chars (drop at s))
unfolding twice_more
twice_bytes s at b a l h =
    let p = just b l h in
    let x = get_or s (at + 1) 0 in
    let y = get_or s (at + 2) 0 in
    let k1 : at + 1 + 1 ≡ at + 2 = omega arith in
    let k2 : at + 2 + 1 ≡ at + 3 = omega arith in
    by_test (eqb x b)
    (λ t. let c = ascii_char s (at + 1) x refl p t in
    by_test (eqb y b)
    (λ u. let d = ascii_char s (at + 2) y refl p u in rw (a.next, c.next, k1, d.next, k2))
    (λ u. rw (a.next, c.next, k1, t, ascii_at s (at + 2) y refl p, u)))
    (λ t. rw (a.next, ascii_at s (at + 1) x refl p, t))

-- the characters of document markers
pub marker_ascii : Ascii (λ c. eqb c '-' || eqb c dot)
marker_ascii = one '-' tt or one dot tt

module _ (m : Mark) (s : List ℕ) (at : ℕ) where
  pub marker_column : (m.col ≡ 0 → ⊥) → is_marker m (chars (drop at s)) ≡ false
  unfolding is_marker
  marker_column e = rw (ne_eqb m.col 0 e)

  module _ (b : ℕ) (e : b ≡ get_or s at 0) (c : m.col ≡ 0) where
    pub marker_other : (eqb b '-' || eqb b dot) ≡ false → is_marker m (chars (drop at s)) ≡ false
    unfolding is_marker
    marker_other f = rw (c, ascii_at s at b e marker_ascii ∙ f)

    pub marker_more : (eqb b '-' || eqb b dot) ≡ true → is_marker m (chars (drop at s)) ≡ twice_more b (chars (drop at s))
    unfolding is_marker twice_more
    marker_more f = rw (c, (ascii_char s at b e marker_ascii f).next, f)

module _ {text : List ℕ} {p : Place} (h : Stands text p) where
  pub skip_none : break_length (chars (drop p.at text)) ≡ 0 → Moves text p p (skip_break (view text p))
  unfolding skip_break
  skip_none e = moves_as (moves_none h) (rw e)

  pub skip_some : (n : ℕ) → n ≡ break_length (chars (drop p.at text)) → (n ≡ 0 → ⊥)
      → Moves text p (past p n (new_line n p.mark)) (skip_break (view text p))
  unfolding skip_break
  skip_some n e f =
      let r : Reach text p.at n (p.at + n) = rw e (break_reach text p.at) in
      let w = reach_within r h.within in
      moves_as (moves_past h n n (new_line n p.mark) r (stands_line h n (omega arith) w.0)) (rw (← e, ne_eqb n 0 f))

-- the cases of a break, and of a marker
pub ruleset breaks = (break_lf, break_cr, break_crlf, break_none)

pub ruleset markers = (marker_column, marker_more, marker_other)
