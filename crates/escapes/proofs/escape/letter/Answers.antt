-- A letter of no arm of the `match` is in no row of the table.
use Rattle.std.proofs.Common.{rules, [], ◌∷◌}
use Rattle.yaml_text.specs.Class.{among}
use Rattle.escapes.proofs.Letters.{unlettered}
use Rattle.escapes.proofs.escape.letter.Goals as goal

pub returns-in_default : goal.returns-in_default
unfolding among
returns-in_default c =
    (unlettered (120 ∷ 118 ∷ 117 ∷ 116 ∷ 114 ∷ 110 ∷ 102 ∷ 101 ∷ 98 ∷ 97 ∷ 95 ∷ 92 ∷ 85 ∷ 80 ∷ 78 ∷ 76 ∷ 48 ∷ 47 ∷ 34 ∷ 32 ∷ 9 ∷ []) _ tt (search rules), tt)
