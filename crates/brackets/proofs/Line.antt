-- The blanks and comment at a place where neither begins.
use Prim.Native.Nat.{ℕ}
use mathlib.Core.Bool.{Bool, ◌||◌, false, true}
use mathlib.Core.List.{List}
use mathlib.Core.Path.{◌∙◌, ◌≡◌, refl, sym}
use lib.Dec.{eqb}
use lib.ListN.{get_or}
use Rattle.yaml_text.specs.Char.{'#'}
use Rattle.yaml_text.specs.Class.{is_blank}
use Rattle.yaml_text.specs.Test.{true_false}
use Rattle.yaml_lexeme.specs.Gap.{blanks_and_comment}
use Rattle.chars.specs.declared.mark.Place.{Place}
use Rattle.chars.specs.Ascii.{blank_ascii}
use Rattle.chars.specs.Bytes.{ascii_at, eq_at}
use Rattle.chars.specs.Places.{moves_none}
use Rattle.chars.specs.View.{Stands, view}
use Rattle.gaps.specs.Answers.{reaches_to}
use Rattle.gaps.proofs.Laws.{blank_done, comment_none}
use Rattle.reading.specs.Reading.{ReachesAs}
use Rattle.std.specs.Prelude.{Ok}

neither : (a b : Bool) → (a || b) ≡ false → (a ≡ false) × (b ≡ false)
neither true b e = true_false e
neither false b e = (refl, e)

-- by the byte b there
pub reaches_here : {text : List ℕ} {p : Place} {b : ℕ} {blank : Bool} → Stands text p → b ≡ get_or text p.at 0 → blank ≡ is_blank b → (blank || eqb b '#') ≡ false
    → ReachesAs text p (Ok p) (blanks_and_comment (view text p))
unfolding blanks_and_comment
reaches_here {text} {p} {b} {blank} h e f n =
    let o = neither blank (eqb b '#') n in
    reaches_to refl (moves_none h)
    (rw (blank_done p.mark _ (ascii_at text p.at b e blank_ascii ∙ sym f ∙ o.0)) (comment_none _ _ (eq_at text p.at b e '#' tt ∙ o.1)))
