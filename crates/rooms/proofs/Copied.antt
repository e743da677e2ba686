-- A room in which a text was stored, item by item, holds what `sets` stores.
use Rattle.std.proofs.Common.{◌≡◌, ℕ, ◌+◌, ◌-◌, ◌≤◌, List, arith, drop, drop_of_length-le, length, ltb, ltb-false, ltb-true, min}
use Rattle.std.proofs.lemmas.List.Edits.{sets}
use Rattle.yaml_text.specs.Test.{by_test}
use Rattle.rooms.specs.Room.{sets_out}

-- no store is left: the text has ended or the room
pub none_left : {A : Type 0} (l s : List A) (n k i : ℕ) → k ≡ min (length s) (length l - n) → k ≤ i → sets l (n + i) (drop i s) ≡ l
none_left l s n k i e h =
    by_test (ltb i (length s))
    (λ t. let u = ltb-true i (length s) t in sets_out (drop i s) l (n + i) (omega (arith, e, h, u)))
    (λ t. rw (drop_of_length-le s (ltb-false i (length s) t)))
