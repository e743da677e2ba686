-- `==` on bytes is the definition's comparison.
use Rattle.std.proofs.Common.{ℕ, Bool, List, [], ◌∷◌, ◌≡◌, ◌∙◌, eqb, ap, refl, sym, ◌&&◌}
use Rattle.std.specs.Cmp.Lexicographic.{pointwise}
use Rattle.yaml_text.specs.Class.{same}

pub same_is : (a b : List ℕ) → pointwise eqb a b ≡ same a b
unfolding same
same_is [] [] = refl
same_is [] (y ∷ ys) = refl
same_is (x ∷ xs) [] = refl
same_is (x ∷ xs) (y ∷ ys) = ap (λ b. eqb x y && b) (same_is xs ys)

-- as the code finds it: r of bytes b, which spell the name s
pub told : {r v : Bool} {b s : List ℕ} (a : List ℕ) → r ≡ pointwise eqb a b → b ≡ s → r ≡ v → same a s ≡ v
told {b = b} a e f g = ap (same a) (sym f) ∙ sym (same_is a b) ∙ sym e ∙ g
