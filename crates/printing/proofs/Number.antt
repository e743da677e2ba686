-- One number that was written.
use Prim.Native.Nat.{◌+◌, ◌<◌, ◌^◌, ◌≤◌, ℕ}
use mathlib.Core.List.{List, [], ◌∷◌}
use mathlib.Core.Path.{◌∙◌, ◌≡◌}
use native.Mathlib.Omega.{arith}
use lib.ListN.{length, length-append, set}
use lib.Seq.{sets}
use Rattle.io.specs.Digits.{IsDigitCount, last_digits}
use Rattle.rooms.specs.Room.{sets_snoc}
use Rattle.printing.specs.Decimal.{decimal, decimal_length, places_are, word_places}
use Rattle.printing.specs.Lines.{number_text}
use Rattle.printing.specs.Written.{Written}

pub few : (v k : ℕ) → v < 2 ^ 32 → IsDigitCount 10 1 v k → k ≤ 10
few v k h f = let e = places_are v k f in let g = word_places v h in omega arith

pub number_written : (l m o t : List ℕ) (at v end k : ℕ) → IsDigitCount 10 1 v k → t ≡ last_digits 10 k v → m ≡ sets l at t → o ≡ set m (at + k) end
    → Written l at (number_text v end) o (at + k + 1)
unfolding decimal
number_written l m o t at v end k f e p q =
    let i = places_are v k f in
    let n = decimal_length v in
    let d : t ≡ decimal v = e ∙ rw i in
    let len : k ≡ length (decimal v) = omega arith in
    record {
      stored = sets_snoc l at end (decimal v) (p ∙ rw d) (q ∙ rw len);
      behind = simp length-append (omega arith);
    }

pub number_few : (l o : List ℕ) (at v end r : ℕ) → v < 2 ^ 32 → Written l at (number_text v end) o r → r ≤ at + 11
number_few l o at v end r h w =
    let e = w.behind in
    let n = decimal_length v in
    let g = word_places v h in
    let d = length-append (decimal v) (end ∷ []) in
    omega arith
