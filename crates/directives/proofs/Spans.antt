-- What was passed over, a character before it or behind it, and written to a room's front.
use Prim.Native.Nat.{◌+◌, ◌-◌, ℕ}
use mathlib.Core.List.{List, [], ◌++◌, ◌∷◌}
use mathlib.Core.Path.{◌∙◌, ◌≡◌, ap, sym}
use native.Mathlib.Omega.{arith}
use lib.ListN.{drop, length, length-drop}
use lib.Seq.{length-sets, length-take-le, sets}
use Rattle.rooms.specs.Room.{sets_join}
use Rattle.yaml_text.specs.declared.Mark.{Mark}
use Rattle.yaml_text.specs.Mark.{Run, along, skip_by}
use Rattle.yaml_text.specs.Utf8.{encode}
use Rattle.yaml_text.specs.Utf8Laws.{encode_append}
use Rattle.chars.specs.declared.mark.Place.{Place}
use Rattle.chars.specs.Bytes.{CharAt}
use Rattle.chars.specs.Parts.{Spans, part, part_join, part_more, part_none}
use Rattle.chars.specs.Places.{stands_along}
use Rattle.chars.specs.View.{past}
use Rattle.runs.specs.Encode.{encode_one}
use Rattle.runs.specs.RunLaws.{span_size}
use Rattle.directives.specs.Front.{Fronts}

module _ {text : List ℕ} {p q : Place} {c n : ℕ} where
  pub span_before : {m : Mark} {d : Run} → CharAt text p.at c n → Spans text (past p n m) q d → Spans text p q (record { text = c ∷ d.text; place = d.place })
  unfolding encode
  span_before a s =
      let o = s.moves.onward in
      record {
        moves = record { same = s.moves.same; stands = s.moves.stands; onward = omega arith };
        bytes = rw s.bytes
            (sym (part_join text p.at (p.at + n) q.at (omega arith) o ∙ rw (part_more text p.at (omega arith) a, part_none text p.at)));
      }

  pub span_behind : {d : Run} → Spans text p q d → CharAt text q.at c n
      → Spans text p (past q n (along q.mark)) (record { text = d.text ++ (c ∷ []); place = skip_by 1 d.place })
  span_behind {d} s a =
      record {
        moves = record {
          same = rw (← s.moves.same, a.next);
          stands = stands_along s.moves.stands n 1 a.some a.within;
          onward = omega (arith, s.moves.onward);
        };
        bytes = rw (encode_append d.text (c ∷ []), encode_one c, s.bytes) (sym (part_more text p.at s.moves.onward a));
      }

pub span_long : {text : List ℕ} {p q : Place} {d : Run} → Spans text p q d → length (part text p.at q.at) ≡ q.at - p.at
span_long {text} {p} {q} s =
    let l = length-drop p.at text in
    length-take-le (q.at - p.at) (drop p.at text) (omega (arith, s.moves.stands.within))

-- the first text that is written
pub span_front : {text before mid : List ℕ} {p q : Place} {d : Run} → Spans text p q d → mid ≡ sets before 0 (part text p.at q.at)
    → Fronts before mid d.text (q.at - p.at)
span_front s e = record { is = rw s.bytes e; count = span_size s }

-- and the other, behind it
module _ {before mid h : List ℕ} {n : ℕ} (f : Fronts before mid h n) where
  pub front_kept : length mid ≡ length before
  front_kept = ap length f.is ∙ length-sets before 0 (encode h)

  pub front_behind : {after : List ℕ} (t : List ℕ) → after ≡ sets mid n (encode t) → after ≡ sets before 0 (encode h ++ encode t)
  front_behind t e = let z : 0 + length (encode h) ≡ n = omega (arith, f.count) in e ∙ rw f.is (rw z at (sets_join (encode h) (encode t) before 0))
