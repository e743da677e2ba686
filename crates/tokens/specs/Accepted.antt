-- What the answers of the stream say of a text.
use Rattle.std.specs.Prelude.{ℕ, List, ◌≡◌, Result, Ok, Err, ⊤}
use Rattle.std.specs.declared.io.Error.{Error}
use Rattle.yaml_scan.specs.Scan.{outcome, scanned, standard}
use Rattle.yaml_scan.specs.State.{Event}
use Rattle.yaml_text.specs.declared.Refusal.{Refusal}

-- 01 accepts it
abbrev pub Accepted : List ℕ → Type 0
Accepted text = (es : List Event) × (outcome standard text ≡ scanned es)

-- whoever lists the tokens of a text and comes to the end has listed an accepted one
abbrev pub Lists : List ℕ → Result (Result ⊤ Refusal) Error → Type 0
Lists text (Ok (Ok u)) = Accepted text
Lists text (Ok (Err f)) = Unit {0}
Lists text (Err e) = Unit {0}
