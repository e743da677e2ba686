-- What is stored for blanks and breaks before text.
use Prim.Native.Nat.{◌+◌, ◌-◌, ◌≤◌, suc, ℕ}
use mathlib.Core.List.{List}
use mathlib.Core.Logic.{◌⊎◌, inl, inr}
use mathlib.Core.Path.{◌∙◌, ◌≡◌, refl}
use native.Mathlib.Omega.{arith}
use lib.ListN.{length, length-drop, replicate}
use lib.Seq.{length-take-le, sets}
use Rattle.yaml_text.specs.Utf8.{encode}
use Rattle.yaml_lexeme.specs.Fold.{fold}
use Rattle.yaml_lexeme.specs.Quoted.{folds_to}
use Rattle.yaml_lexeme.specs.Sizes.{fold_size}
use Rattle.reading.specs.Puts.{Puts, puts_breaks}
use Rattle.chars.specs.Parts.{part}
use Rattle.quoted.specs.declared.fold.Mode.{Mode}
use Rattle.quoted.specs.declared.fold.Mode.TheVariants.{Blanks, Chars, Escaped, Folded, Joined}
use Rattle.quoted.specs.Modes.{BlanksKept, PutsKept, mode_of}

module _ {text : List ℕ} {at n : ℕ} {mode : Mode} where
  pub kept_none : (before : List ℕ) → (mode ≡ Chars) ⊎ (mode ≡ Escaped) → PutsKept text at mode n before before n
  unfolding mode_of folds_to encode
  kept_none before (inl e) = rw e (record { puts = record { bytes = refl; next = omega arith }; few = omega arith })
  kept_none before (inr e) = rw e (record { puts = record { bytes = refl; next = omega arith }; few = omega arith })

  module _ {before after : List ℕ} where
    pub kept_blanks : {from : ℕ} → mode ≡ Blanks from → BlanksKept text at mode → at ≤ length text → after ≡ sets before n (part text from at)
        → PutsKept text at mode n before after (n + (at - from))
    unfolding mode_of folds_to
    kept_blanks {from} e k h f =
        let g = rw e at k in
        let l : length (part text from at) ≡ at - from = length-take-le (at - from) _ (omega (arith, length-drop from text)) in
        rw e (record { puts = record { bytes = f ∙ rw g.1; next = rw (g.1, l) }; few = omega arith })

    pub kept_folded : {k r : ℕ} → mode ≡ Folded k → Puts before n after r (fold (suc k)) → PutsKept text at mode n before after r
    unfolding mode_of folds_to
    kept_folded {k} e p = rw e (record { puts = p; few = omega (arith, p.next, fold_size (suc k)) })

    pub kept_joined : {k r : ℕ} → mode ≡ Joined k → (after ≡ sets before n (replicate k 10)) × (r ≡ n + k) → PutsKept text at mode n before after r
    unfolding mode_of folds_to
    kept_joined {k} e f = rw e (record { puts = puts_breaks k f; few = omega (arith, f.1) })
