-- A plain number is a seed.
use Prim.Native.Nat.{ℕ}
use mathlib.Core.List.{List}
use mathlib.Core.Path.{◌≡◌}
use borrow.Author.Tests.{eq-eqb, ne_eqb}
use Rattle.std.specs.Prelude.{None, Option, Some}
use Rattle.yaml_text.specs.Test.{by_test}
use Rattle.yaml_lexeme.specs.Record.{style_number}
use Rattle.yaml_job.specs.declared.Effect.{Effect}
use Rattle.yaml_job.specs.declared.Effect.TheVariants.{Hands, Refuses}
use Rattle.yaml_job.specs.declared.Form.{Form}
use Rattle.yaml_job.specs.declared.Met.{Met}
use Rattle.yaml_job.specs.declared.ShapePlace.TheVariants.{BehindSeed}
use Rattle.yaml_job.specs.Job.{is_number, seed_of}
use Rattle.shape.specs.Number.{number_in}

abbrev handed : Form → Met → Option ℕ → Effect
handed g m (Some v) = Hands v (BehindSeed g) m
handed g m None = Refuses 72

module _ (g : Form) (m : Met) (kind style : ℕ) (t : List ℕ) where
  pub seed_plain : (n : Option ℕ) → style ≡ 1 → n ≡ number_in t → handed g m n ≡ seed_of g m (record { kind = kind; style = style; text = t })
  unfolding seed_of style_number
  seed_plain n e k = rw (eq-eqb style 1 e, k) (by_test (is_number t) (λ i. rw i) (λ i. rw i))

  pub seed_other : (style ≡ 1 → ⊥) → Refuses 72 ≡ seed_of g m (record { kind = kind; style = style; text = t })
  unfolding seed_of style_number
  seed_other h = rw (ne_eqb style 1 h)
