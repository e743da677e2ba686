-- The bytes between two offsets of a text are those of the characters there.
use Rattle.std.specs.Prelude.{◌+◌, ◌-◌, ◌≤◌, ℕ, List, [], ◌++◌, ◌≡◌, drop, take}
use Rattle.std.proofs.Common.{◌∙◌, arith, drop-drop, take-add}
use Rattle.yaml_text.specs.Mark.{Run}
use Rattle.yaml_text.specs.Utf8.{char_bytes, encode}
use Rattle.yaml_text.proofs.Utf8Laws.{first_bytes}
use Rattle.chars.specs.declared.mark.Place.{Place}
use Rattle.chars.specs.Bytes.{CharAt}
use Rattle.chars.specs.View.{Moves}

-- what `&s[from..to]` lends
abbrev pub part : List ℕ → ℕ → ℕ → List ℕ
part s from to = take (to - from) (drop from s)

pub part_none : (s : List ℕ) (at : ℕ) → part s at at ≡ []
part_none s at = let e : at - at ≡ 0 = omega arith in rw e

pub part_join : (s : List ℕ) (from at to : ℕ) → from ≤ at → at ≤ to → part s from to ≡ part s from at ++ part s at to
part_join s from at to h k =
    let e : to - from ≡ at - from + (to - at) = omega arith in
    let f : from + (at - from) ≡ at = omega arith in
    rw (e, take-add (at - from) (to - at) (drop from s), drop-drop (at - from) from s, f)

-- one character more
pub part_more : (s : List ℕ) (from : ℕ) {at c n : ℕ} → from ≤ at → CharAt s at c n → part s from (at + n) ≡ part s from at ++ char_bytes c
part_more s from {at} {c} {n} h k =
    let e : at + n - at ≡ n = omega arith in
    part_join s from at (at + n) h (omega arith) ∙ rw (e, (first_bytes (drop at s) c n k.is).0)

-- from p to r the run d was read
pub record Spans (text : List ℕ) (p r : Place) (d : Run) : Type 0 where
  pub moves : Moves text p r d.place
  pub bytes : encode d.text ≡ part text p.at r.at
