-- Which choices are left for the last arm of each dispatcher: none that the arms before it take.
use mathlib.Core.Bool.{Bool, false, true}
use mathlib.Core.Path.{◌≡◌, refl, sym}
use Rattle.yaml_text.specs.Test.{true_false}
use Rattle.yaml_scan.specs.declared.Choice.{Choice}
use Rattle.yaml_scan.specs.declared.Choice.TheVariants.{AtAnchor, AtBlock, AtByteOrderMark, AtColon, AtComma, AtDash, AtDirective, AtEnd, AtMarker, AtPlain, AtQuestion, AtQuoted, AtTag, BelowIndent, Closes, Opens, Stray}
use Rattle.states.specs.Refused.{has_text}
use Rattle.steps.specs.Step.{is_brief}

-- of `match_other`: the lexemes that hold text
pub only_texts : (c : Choice) → is_brief c ≡ false
    → (c ≡ AtEnd → ⊥)
    → (c ≡ AtByteOrderMark → ⊥)
    → (c ≡ BelowIndent → ⊥)
    → (c ≡ Stray → ⊥)
    → ((starts : Bool) → c ≡ AtMarker starts → ⊥)
    → (c ≡ AtQuestion → ⊥)
    → (c ≡ AtColon → ⊥)
    → has_text c ≡ true
only_texts AtDirective b k1 k2 k3 k4 k5 k6 k7 = refl
only_texts AtTag b k1 k2 k3 k4 k5 k6 k7 = refl
only_texts (AtAnchor alias) b k1 k2 k3 k4 k5 k6 k7 = refl
only_texts (AtBlock literal) b k1 k2 k3 k4 k5 k6 k7 = refl
only_texts (AtQuoted single) b k1 k2 k3 k4 k5 k6 k7 = refl
only_texts AtPlain b k1 k2 k3 k4 k5 k6 k7 = refl
only_texts AtDash b k1 k2 k3 k4 k5 k6 k7 = true_false b
only_texts AtComma b k1 k2 k3 k4 k5 k6 k7 = true_false b
only_texts (Opens sequence) b k1 k2 k3 k4 k5 k6 k7 = true_false b
only_texts (Closes sequence) b k1 k2 k3 k4 k5 k6 k7 = true_false b
only_texts AtEnd b k1 k2 k3 k4 k5 k6 k7 = absurd (k1 refl)
only_texts AtByteOrderMark b k1 k2 k3 k4 k5 k6 k7 = absurd (k2 refl)
only_texts BelowIndent b k1 k2 k3 k4 k5 k6 k7 = absurd (k3 refl)
only_texts Stray b k1 k2 k3 k4 k5 k6 k7 = absurd (k4 refl)
only_texts (AtMarker starts) b k1 k2 k3 k4 k5 k6 k7 = absurd (k5 starts refl)
only_texts AtQuestion b k1 k2 k3 k4 k5 k6 k7 = absurd (k6 refl)
only_texts AtColon b k1 k2 k3 k4 k5 k6 k7 = absurd (k7 refl)

-- of `fetch_content`: a tag
pub only_tag : (c : Choice) → is_brief c ≡ false → has_text c ≡ true
    → (c ≡ AtDirective → ⊥)
    → ((alias : Bool) → c ≡ AtAnchor alias → ⊥)
    → ((literal : Bool) → c ≡ AtBlock literal → ⊥)
    → ((single : Bool) → c ≡ AtQuoted single → ⊥)
    → c ≡ AtTag
only_tag AtDirective b t k1 k2 k3 k4 = absurd (k1 refl)
only_tag AtTag b t k1 k2 k3 k4 = refl
only_tag (AtAnchor alias) b t k1 k2 k3 k4 = absurd (k2 alias refl)
only_tag (AtBlock literal) b t k1 k2 k3 k4 = absurd (k3 literal refl)
only_tag (AtQuoted single) b t k1 k2 k3 k4 = absurd (k4 single refl)
only_tag AtPlain b t k1 k2 k3 k4 = true_false b
only_tag AtDash b t k1 k2 k3 k4 = true_false b
only_tag AtComma b t k1 k2 k3 k4 = true_false b
only_tag (Opens sequence) b t k1 k2 k3 k4 = true_false b
only_tag (Closes sequence) b t k1 k2 k3 k4 = true_false b
only_tag AtEnd b t k1 k2 k3 k4 = true_false (sym t)
only_tag AtByteOrderMark b t k1 k2 k3 k4 = true_false (sym t)
only_tag BelowIndent b t k1 k2 k3 k4 = true_false (sym t)
only_tag Stray b t k1 k2 k3 k4 = true_false (sym t)
only_tag (AtMarker starts) b t k1 k2 k3 k4 = true_false (sym t)
only_tag AtQuestion b t k1 k2 k3 k4 = true_false (sym t)
only_tag AtColon b t k1 k2 k3 k4 = true_false (sym t)

-- of `match_brief`: a comma
pub only_comma : (c : Choice) → is_brief c ≡ true
    → (c ≡ AtPlain → ⊥)
    → (c ≡ AtDash → ⊥)
    → ((sequence : Bool) → c ≡ Opens sequence → ⊥)
    → ((sequence : Bool) → c ≡ Closes sequence → ⊥)
    → c ≡ AtComma
only_comma AtDirective b k1 k2 k3 k4 = true_false (sym b)
only_comma AtTag b k1 k2 k3 k4 = true_false (sym b)
only_comma (AtAnchor alias) b k1 k2 k3 k4 = true_false (sym b)
only_comma (AtBlock literal) b k1 k2 k3 k4 = true_false (sym b)
only_comma (AtQuoted single) b k1 k2 k3 k4 = true_false (sym b)
only_comma AtPlain b k1 k2 k3 k4 = absurd (k1 refl)
only_comma AtDash b k1 k2 k3 k4 = absurd (k2 refl)
only_comma AtComma b k1 k2 k3 k4 = refl
only_comma (Opens sequence) b k1 k2 k3 k4 = absurd (k3 sequence refl)
only_comma (Closes sequence) b k1 k2 k3 k4 = absurd (k4 sequence refl)
only_comma AtEnd b k1 k2 k3 k4 = true_false (sym b)
only_comma AtByteOrderMark b k1 k2 k3 k4 = true_false (sym b)
only_comma BelowIndent b k1 k2 k3 k4 = true_false (sym b)
only_comma Stray b k1 k2 k3 k4 = true_false (sym b)
only_comma (AtMarker starts) b k1 k2 k3 k4 = true_false (sym b)
only_comma AtQuestion b k1 k2 k3 k4 = true_false (sym b)
only_comma AtColon b k1 k2 k3 k4 = true_false (sym b)
