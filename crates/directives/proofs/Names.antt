-- A directive's name, told by its bytes.
use Rattle.std.specs.Prelude.{Result}
use Prim.Native.Nat.{◌<◌, ◌≤◌, ℕ}
use mathlib.Core.Bool.{Bool, false, true}
use mathlib.Core.List.{List, [], ◌++◌, ◌∷◌}
use mathlib.Core.Path.{◌∙◌, ◌≡◌, refl, sym}
use native.Mathlib.Omega.{arith}
use lib.Dec.{eqb, ltb}
use lib.Pointwise.{pointwise}
use borrow.Author.Tests.{ltb-false, ltb-true, ne_eqb}
use Rattle.yaml_text.specs.declared.Mark.{Mark}
use Rattle.yaml_text.specs.Class.{same}
use Rattle.yaml_text.specs.Mark as definition
use Rattle.yaml_text.specs.Refusal.{got}
use Rattle.yaml_text.specs.Test.{by_test, on_pick}
use Rattle.yaml_text.specs.Utf8.{char_bytes, encode}
use Rattle.yaml_text.specs.Utf8Laws.{bytes1}
use Rattle.yaml_lexeme.specs.Directive.{directive_of, reserved_directive, tag_directive, tag_name, version_directive, yaml_name}
use Rattle.chars.specs.declared.mark.Place.{Place}
use Rattle.chars.specs.Parts.{Spans, part}
use Rattle.chars.specs.View.{view}
use Rattle.yaml_text.specs.declared.Refusal.{Refusal}
use Rattle.reading.specs.declared.Lexeme.{Lexeme}
use Rattle.reading.specs.Answers.{Reads, behind_first}
use Rattle.directives.specs.Name.{name_in}

-- slices are compared as texts are
pub same_slices : (s t : List ℕ) → pointwise eqb s t ≡ same s t
unfolding same
same_slices [] [] = refl
same_slices [] (y ∷ t) = refl
same_slices (x ∷ s) [] = refl
same_slices (x ∷ s) (y ∷ t) = rw (same_slices s t)

-- bytes that are characters tell a text as its characters do
abbrev Low : List ℕ → Type 0
Low [] = Unit {0}
Low (y ∷ ys) = (y < 128) × Low ys

abbrev High : List ℕ → Type 0
High l = (b : ℕ) × (t : List ℕ) × (l ≡ b ∷ t) × (128 ≤ b)

bytes_high : (c : ℕ) → 128 ≤ c → High (char_bytes c)
unfolding char_bytes
bytes_high c h =
    on_pick High (ltb c 0x80) (λ e. (c, [], refl, h))
    (λ _. on_pick High (ltb c 0x800) (λ _. (_, _, refl, omega arith))
    (λ _. on_pick High (ltb c 0x10000) (λ _. (_, _, refl, omega arith)) (λ _. (_, _, refl, omega arith))))

same_encode : (t s : List ℕ) → Low s → same (encode t) s ≡ same t s
unfolding same encode
same_encode [] [] l = refl
same_encode [] (y ∷ s) l = refl
same_encode (c ∷ t) s l =
    by_test (ltb c 128)
    (λ e. rw (bytes1 c (ltb-true c 128 e)) (low s l (λ z k. same_encode t z k)))
    (λ e. let h = ltb-false c 128 e in let b = bytes_high c h in rw b.2 (high s l h b))
  where
    low : (s : List ℕ) → Low s → ((z : List ℕ) → Low z → same (encode t) z ≡ same t z) → same (c ∷ encode t) s ≡ same (c ∷ t) s
    low [] l f = refl
    low (y ∷ s) l f = rw (f s l.1)

    high : (s : List ℕ) → Low s → 128 ≤ c → (b : High (char_bytes c)) → same (b.0 ∷ b.1 ++ encode t) s ≡ same (c ∷ t) s
    high [] l h b = refl
    high (y ∷ s) l h b = rw (ne_eqb b.0 y (omega (arith, l.0, b.3)), ne_eqb c y (omega (arith, l.0)))

-- the directive, by its name
module _ (start : Mark) (name : List ℕ) (p : definition.Place) where
  is_version : same name yaml_name ≡ true → directive_of start name p ≡ version_directive start p
  unfolding directive_of
  is_version e = rw (e, directive_of)

  module _ (e : same name yaml_name ≡ false) where
    is_tag : same name tag_name ≡ true → directive_of start name p ≡ tag_directive start p
    unfolding directive_of
    is_tag f = rw (e, f, directive_of)

    is_reserved : same name tag_name ≡ false → directive_of start name p ≡ got (reserved_directive start name p)
    unfolding directive_of
    is_reserved f = rw (e, f, directive_of)

module _ (start : Mark) {text : List ℕ} {p : Place} (s : Spans text (behind_first start) p (name_in text start)) where
  abbrev name : List ℕ
  name = (name_in text start).text

  spelled : (t : List ℕ) → Low t → {b : Bool} → b ≡ same (part text 1 p.at) t → same name t ≡ b
  spelled t l e = sym (e ∙ rw (← s.bytes) (same_encode name t l))

  module _ {b : Bool} (e : b ≡ same (part text 1 p.at) yaml_name) where
    as_yaml : same name yaml_name ≡ b
    as_yaml = spelled yaml_name (omega arith, (omega arith, (omega arith, (omega arith, tt)))) e

    pub of_version : {before after : List ℕ} {used : ℕ} {r : Result Lexeme Refusal} → b ≡ true → Reads text before after used r (version_directive start (view text p))
        → Reads text before after used r (directive_of start name (view text p))
    of_version f d = rw (is_version start name (view text p) (as_yaml ∙ f)) d

    module _ {a : Bool} (f : b ≡ false) (g : a ≡ same (part text 1 p.at) tag_name) where
      as_tag : same name tag_name ≡ a
      as_tag = spelled tag_name (omega arith, (omega arith, (omega arith, tt))) g

      pub of_tag : {before after : List ℕ} {used : ℕ} {r : Result Lexeme Refusal} → a ≡ true → Reads text before after used r (tag_directive start (view text p))
          → Reads text before after used r (directive_of start name (view text p))
      of_tag h d = rw (is_tag start name (view text p) (as_yaml ∙ f) (as_tag ∙ h)) d

      pub of_other : {before after : List ℕ} {used : ℕ} {r : Result Lexeme Refusal} → a ≡ false
          → Reads text before after used r (got (reserved_directive start name (view text p)))
          → Reads text before after used r (directive_of start name (view text p))
      of_other h d = rw (is_reserved start name (view text p) (as_yaml ∙ f) (as_tag ∙ h)) d
