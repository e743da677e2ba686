-- The break that a text begins with, if it does; and over it, in one move.
use Rattle.std.specs.Prelude.{◌≤◌, ℕ, false, true, List, [], ◌∷◌, ◌≡◌, refl, eqb, drop, get_or}
use Rattle.std.proofs.Common.{◌∙◌, sym, arith, eqb-true}
use Rattle.yaml_text.specs.Char.{carriage_return, line_feed}
use Rattle.yaml_text.specs.Class.{is_break, peek}
use Rattle.yaml_text.specs.Mark.{break_length, half_break, here, new_line}
use Rattle.yaml_text.specs.Test.{both_true, by_test, true_false}
use Rattle.yaml_text.specs.Utf8.{chars}
use Rattle.chars.specs.declared.mark.Place.{Place}
use Rattle.chars.specs.Ascii.{break_ascii}
use Rattle.chars.specs.Bytes.{ascii_at}
use Rattle.chars.specs.Lines.{break_few, break_reach}
use Rattle.chars.specs.Places.{moves_past, stands_line}
use Rattle.chars.specs.Reach.{reach_within}
use Rattle.chars.specs.View.{Moves, Stands, past}

pub data Breaks : List ℕ → ℕ → Type 0 where
  two : {cs : List ℕ} → Breaks (carriage_return ∷ line_feed ∷ cs) 2
  one : {c : ℕ} {cs : List ℕ} → is_break c ≡ true → half_break c (peek cs 0) ≡ false → Breaks (c ∷ cs) 1
  none : {cs : List ℕ} → is_break (peek cs 0) ≡ false → Breaks cs 0

breaks_two : (c : ℕ) (cs : List ℕ) → c ≡ carriage_return → peek cs 0 ≡ line_feed → Breaks (c ∷ cs) 2
breaks_two c [] e f = let z : ◌≡◌ {A = ℕ} 0 10 = f in absurd (omega arith)
breaks_two c (d ∷ cs) e f = rw (e, f) two

pub breaks : (cs : List ℕ) → Breaks cs (break_length cs)
unfolding break_length half_break is_break
breaks [] = none refl
breaks (c ∷ cs) =
    by_test (half_break c (peek cs 0))
    (λ h. let b = both_true (eqb c carriage_return) (eqb (peek cs 0) line_feed) h in
    rw h (breaks_two c cs (eqb-true c carriage_return b.0) (eqb-true (peek cs 0) line_feed b.1)))
    (λ h. by_test (is_break c) (λ e. rw (h, e) (one e h)) (λ e. rw (h, e) (none e)))

-- a break takes a character at least
pub breaks_some : {cs : List ℕ} {n : ℕ} → Breaks cs n → is_break (peek cs 0) ≡ true → 1 ≤ n
breaks_some two h = omega arith
breaks_some (one e f) h = omega arith
breaks_some (none e) h = true_false (sym h ∙ e)

-- a break of n characters stands at a place
pub record BreakAt (text : List ℕ) (p : Place) (n : ℕ) : Type 0 where
  pub is_break : is_break (peek (chars (drop p.at text)) 0) ≡ true
  pub breaks : Breaks (chars (drop p.at text)) n
  pub some : 1 ≤ n
  pub few : n ≤ 2
  pub moves : Moves text p (past p n (new_line n p.mark)) (here (new_line n p.mark) (drop n (chars (drop p.at text))))

-- by the byte there, and what `break_length` ensures
pub break_at : {text : List ℕ} {p : Place} {b n : ℕ} → Stands text p → b ≡ get_or text p.at 0 → is_break b ≡ true → n ≡ break_length (chars (drop p.at text))
    → BreakAt text p n
break_at {text} {p} {b} {n} h e f g =
    let cs = chars (drop p.at text) in
    let i = ascii_at text p.at b e break_ascii ∙ f in
    let s = breaks_some (breaks cs) i in
    let r = break_reach text p.at in
    rw g
    (record {
      is_break = i;
      breaks = breaks cs;
      some = s;
      few = break_few cs;
      moves = moves_past h _ _ _ r (stands_line h (break_length cs) s (reach_within r h.within).0);
    })
