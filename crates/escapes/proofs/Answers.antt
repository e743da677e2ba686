-- The two answers.
use Rattle.std.specs.Prelude.{Result, Ok, Err}
use Prim.Native.Nat.{◌+◌, ◌-◌, ◌<◌, ◌≤◌, ℕ}
use mathlib.Core.List.{List}
use mathlib.Core.Path.{◌≡◌}
use native.Mathlib.Omega.{arith}
use lib.ListN.{length}
use Rattle.yaml_text.specs.declared.Mark.{Mark}
use Rattle.yaml_text.specs.declared.Refusal.{Refusal}
use Rattle.yaml_text.specs.Mark.{along_by}
use Rattle.yaml_text.specs.Refusal.{Read, got, refused}
use Rattle.yaml_lexeme.specs.Escape as definition
use Rattle.chars.specs.declared.mark.Place.{Place}
use Rattle.chars.specs.Places.{stands_along}
use Rattle.chars.specs.View.{Stands, past}
use Rattle.escapes.specs.declared.answer.Escaped.{Escaped}
use Rattle.escapes.specs.Escaped.{Escapes, escape_from}

pub refuses : {text : List ℕ} {p : Place} {r : Result Escaped Refusal} {d : Read definition.Escaped} {k : ℕ} {start : Mark} → d ≡ refused k start
    → r ≡ Err (record { number = k; mark = start }) → Escapes text p r d
unfolding escape_from
refuses e f = rw f (record { same = rw e; ahead = tt })

-- an escape of n characters
pub answers : {text : List ℕ} {p q : Place} {c n : ℕ} {d : Read definition.Escaped} → Stands text p → d ≡ got (record { char = c; took = n - 1 })
    → q ≡ past p n (along_by n p.mark) → 1 ≤ n → p.at + n ≤ length text → c < 0x110000 → Escapes text p (Ok (record { code = c; next = q })) d
unfolding escape_from
answers {n = n} h e f s w l =
    let k : n - 1 + 1 ≡ n = omega arith in
    rw f (record { same = rw (e, k); ahead = (l, stands_along h n n (omega arith) w) })
