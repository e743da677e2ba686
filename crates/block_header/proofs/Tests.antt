-- Neither of two tests holds.
use mathlib.Core.Bool.{Bool, ◌||◌, false, true}
use mathlib.Core.Path.{◌≡◌, refl}
use Rattle.yaml_text.specs.Test.{true_false}

pub or_no : (a b : Bool) → (a || b) ≡ false → (a ≡ false) × (b ≡ false)
or_no true b e = true_false e
or_no false b e = (refl, e)
