-- The loop over a plain scalar's text.
use Prim.Native.Nat.{◌+◌, ◌-◌, ◌<◌, ◌≤◌, ℕ}
use mathlib.Core.Bool.{Bool, false, true}
use mathlib.Core.List.{List, []}
use mathlib.Core.Path.{◌∙◌, ◌≡◌, ap, refl, sym}
use Rattle.std.proofs.Common.{None}
use native.Mathlib.Omega.{arith}
use lib.Dec.{ltb}
use lib.ListN.{drop, get_or, length}
use borrow.Author.Tests.{le-ltb, lt-ltb}
use Rattle.yaml_text.specs.declared.Mark.{Mark}
use Rattle.yaml_text.specs.Class.{is_blank, none_left}
use Rattle.yaml_text.specs.Mark.{along, along_by, here}
use Rattle.yaml_text.specs.Utf8.{chars, first}
use Rattle.yaml_lexeme.specs.Plain.{plain_text}
use Rattle.chars.specs.Blocks.{ordinary}
use Rattle.chars.specs.Each.{Each, each_carry}
use Rattle.chars.specs.declared.mark.Place.{Place}
use Rattle.chars.specs.Ascii.{blank_ascii}
use Rattle.chars.specs.Bytes.{ascii_at, ascii_char}
use Rattle.chars.specs.Parts.{Spans, part, part_more, part_none}
use Rattle.chars.specs.Places.{stands_along}
use Rattle.chars.specs.View.{Stands}
use Rattle.plain.specs.Text.{text_length}
use Rattle.plain.proofs.Ends.{IsText, blank_unmarked, ordinary_ascii, ordinary_unblank, ordinary_unmarked, stops_by, unmarked}
use Rattle.plain.proofs.TextTurns.{Coded, coded, resume, resume_here, turn_blank, turn_text}

-- the mark at an offset behind p on its line, `extra` bytes on the way being no characters
abbrev mark_at : Place → ℕ → ℕ → Mark
mark_at p at extra = along_by (at - p.at - extra) p.mark

mark_next : (p : Place) (at x n x' : ℕ) → p.at + x ≤ at → x + n ≡ x' + 1 → along (mark_at p at x) ≡ mark_at p (at + n) x'
mark_next p at x n x' h e =
    let k : at + n - p.at - x' ≡ at - p.at - x + 1 = omega arith in
    let i : p.mark.index + (at - p.at - x) + 1 ≡ p.mark.index + (at - p.at - x + 1) = omega arith in
    let j : p.mark.col + (at - p.at - x) + 1 ≡ p.mark.col + (at - p.at - x + 1) = omega arith in
    rw (k, i, j)

-- the text that ends at an offset
abbrev ended : List ℕ → Place → ℕ → ℕ → Coded
ended s p end extra = record { bytes = part s p.at end; place = here (mark_at p end extra) (chars (drop end s)) }

-- the loop at an offset: blanks stand from `end` on
pub record On (s : List ℕ) (flow : Bool) (p : Place) (at end extra : ℕ) : Type 0 where
  pub within : at ≤ length s
  pub behind : end ≤ at
  pub few : p.at + extra ≤ end
  pub whole : coded (plain_text flow false p.mark (chars (drop p.at s)))
      ≡ resume (ended s p end extra) (part s p.at at) (plain_text flow (ltb end at) (mark_at p at extra) (chars (drop at s)))

pub on_start : (s : List ℕ) (flow : Bool) (p : Place) → p.at ≤ length s → On s flow p p.at p.at 0
on_start s flow p h =
    let k : p.at - p.at - 0 ≡ 0 = omega arith in
    let i : p.mark.index + 0 ≡ p.mark.index = omega arith in
    let j : p.mark.col + 0 ≡ p.mark.col = omega arith in
    record {
      within = h;
      behind = omega arith;
      few = omega arith;
      whole = rw (k, i, j, part_none s p.at, le-ltb p.at p.at (omega arith)) (sym (resume_here flow false p.mark (chars (drop p.at s)) []));
    }

module _ {s : List ℕ} {flow : Bool} {p : Place} {at end extra : ℕ} (o : On s flow p at end extra) where
  -- a turn over a character, by the byte b there
  module _ (b : ℕ) (e : b ≡ get_or s at 0) where
    pub on_text : is_blank b ≡ false → {n : ℕ} (g : IsText flow (ltb end at) s at n) (x : ℕ) → extra + n ≡ x + 1 → On s flow p (at + n) (at + n) x
    on_text h {n} g x k =
        let f : p.at + extra ≤ at = omega (arith, o) in
        let u : is_blank g.char ≡ false = rw g.is.next at (ascii_at s at b e blank_ascii) ∙ h in
        record {
          within = g.is.within;
          behind = omega arith;
          few = omega (arith, o, g.is.some);
          whole = o.whole
              ∙ rw (g.is.next, ← (mark_next p at extra n x f k), part_more s p.at (omega arith) g.is, le-ltb (at + n) (at + n) (omega arith))
              (turn_text flow (ltb end at) (mark_at p at extra) g.char _ (part s p.at at) (ended s p end extra) g.on u);
        }

    pub on_ordinary : ordinary b ≡ true → On s flow p (at + 1) (at + 1) extra
    on_ordinary h =
        on_text (ordinary_unblank b h)
        (record { char = b; is = ascii_char s at b e ordinary_ascii h; on = unmarked flow (ltb end at) b _ (ordinary_unmarked b h) })
        extra refl

    pub on_blank : is_blank b ≡ true → On s flow p (at + 1) end extra
    on_blank h =
        let a = ascii_char s at b e blank_ascii h in
        let f : p.at + extra ≤ at = omega (arith, o) in
        let k : end < at + 1 = omega (arith, o) in
        record {
          within = a.within;
          behind = omega (arith, o);
          few = o.few;
          whole = o.whole
              ∙ rw (a.next, ← (mark_next p at extra 1 extra f refl), part_more s p.at (omega arith) a, lt-ltb end (at + 1) k)
              (turn_blank flow (ltb end at) (mark_at p at extra) b _ (part s p.at at) (ended s p end extra) (unmarked flow (ltb end at) b _ (blank_unmarked b h)) h);
        }

    pub on_other : is_blank b ≡ false → {n : ℕ} → IsText flow (ltb end at) s at n → On s flow p (at + n) (at + n) (extra + (n - 1))
    on_other h {n} g = on_text h g (extra + (n - 1)) (omega (arith, g.is.some))

  pub on_done : Stands s p → text_length flow (ltb end at) s at ≡ None → (r : Place) → r ≡ record { at = end; mark = mark_at p end extra }
      → Spans s p r (plain_text flow false p.mark (chars (drop p.at s)))
  unfolding none_left
  on_done h e r k =
      let f : p.at + (end - p.at) ≡ end = omega (arith, o) in
      let w : coded (plain_text flow false p.mark (chars (drop p.at s))) ≡ ended s p end extra =
      o.whole ∙ rw (stops_by flow (ltb end at) s at (first (drop at s)) refl e (mark_at p at extra)) in
      rw k
      (record {
        moves = record {
          same = sym (ap (λ (r : Coded). r.place) w);
          stands = rw f at (stands_along h (end - p.at) (end - p.at - extra) (omega arith) (omega (arith, o)));
          onward = omega (arith, o);
        };
        bytes = ap (λ (r : Coded). r.bytes) w;
      })

-- a run of ordinary bytes is turns over one each
pub on_run : {s : List ℕ} {flow : Bool} {p : Place} {at extra r : ℕ} → On s flow p at at extra → Each ordinary s at r → On s flow p r r extra
on_run {s} {flow} {p} {extra = extra} o w = each_carry ordinary s (λ i. On s flow p i i extra) (λ i h e x. on_ordinary x (get_or s i 0) refl e) w o
