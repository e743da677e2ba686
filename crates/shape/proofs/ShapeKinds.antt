-- Kinds that differ have other numbers, and a kind that has no place in the shape does what 0 does.
use Rattle.std.proofs.Common.{ℕ, List, [], ◌≡◌, ◌∙◌, ap, eqb, eqb-true, false, get_or, ne_eqb, refl, sym}
use Rattle.std.specs.Prelude.{◌∷◌}
use Rattle.yaml_text.specs.Test.{by_test}
use Rattle.yaml_lexeme.specs.Record.{laid, number_of}
use Rattle.yaml_job.specs.declared.Form.{Form}
use Rattle.yaml_job.specs.declared.Form.TheVariants.{Block, Braces}
use Rattle.yaml_job.specs.declared.Met.{Met}
use Rattle.yaml_job.specs.declared.ShapePlace.{ShapePlace}
use Rattle.yaml_job.specs.declared.ShapePlace.TheVariants.{AtEnd, AtEntry, AtField, AtList, AtMapping, AtName, AtStart, AtText, AtValue, BehindField, BehindSeed}
use Rattle.yaml_job.specs.Job.{Sight, effect, end_of, kind_number, placed}
use Rattle.shape.specs.Kind.{Numbers, shape_number}
use Rattle.shape.specs.declared.kind.ShapeKind.{ShapeKind}
use Rattle.shape.specs.declared.kind.ShapeKind.TheVariants.{BlockEnd, BlockMappingStart, FlowEntry, FlowMappingEnd, FlowMappingStart, FlowSequenceEnd, FlowSequenceStart, Key, Other, Scalar, StreamEnd, StreamStart, Value}

-- by their numbers
abbrev kinds : List ShapeKind
kinds =
    Other ∷ StreamStart ∷ StreamEnd ∷ Other ∷ Other ∷ Other ∷ Other ∷ Other ∷ Other ∷ BlockMappingStart ∷ BlockEnd ∷ FlowSequenceStart ∷ FlowSequenceEnd ∷ FlowMappingStart
    ∷ FlowMappingEnd ∷ Other ∷ FlowEntry ∷ Key ∷ Value ∷ Other ∷ Other ∷ Other ∷ Scalar ∷ []

kind_back : (k : ShapeKind) → get_or kinds (shape_number k) Other ≡ k
kind_back StreamStart = refl
kind_back StreamEnd = refl
kind_back BlockMappingStart = refl
kind_back BlockEnd = refl
kind_back FlowSequenceStart = refl
kind_back FlowSequenceEnd = refl
kind_back FlowMappingStart = refl
kind_back FlowMappingEnd = refl
kind_back FlowEntry = refl
kind_back Key = refl
kind_back Value = refl
kind_back Scalar = refl
kind_back Other = refl

pub other_number : (k w : ShapeKind) → (k ≡ w → ⊥) → eqb (shape_number k) (shape_number w) ≡ false
other_number k w h =
    by_test (eqb (shape_number k) (shape_number w))
    (λ e. absurd (h (sym (kind_back k) ∙ ap (λ n. get_or kinds n Other) (eqb-true (shape_number k) (shape_number w) e) ∙ kind_back w)))
    (λ e. e)

pub no_end : (g : Form) (k : ShapeKind) → (k ≡ BlockEnd → ⊥) → (k ≡ FlowMappingEnd → ⊥) → eqb (shape_number k) (kind_number (end_of g)) ≡ false
unfolding laid number_of
no_end Block k h f = other_number k BlockEnd h
no_end Braces k h f = other_number k FlowMappingEnd f

-- what a token of number n does is what one of its kind does

module _ (m : Met) (s : ℕ) (t : List ℕ) where
  abbrev sees : ℕ → Sight
  sees n = record { kind = n; style = s; text = t }

  module _ (n : ℕ) (h : Numbers n Other) where
    abbrev no_stream_end : eqb n 2 ≡ false
    no_stream_end = ne_eqb n 2 h.1

    other_effect : (p : ShapePlace) → effect p m (sees 0) ≡ effect p m (sees n)
    unfolding effect placed laid number_of
    other_effect AtStart = rw (no_stream_end, ne_eqb n 1 h.0)
    other_effect AtMapping = rw (no_stream_end, ne_eqb n 9 h.2, ne_eqb n 13 h.6)
    other_effect (AtField Block) = rw (no_stream_end, ne_eqb n 17 h.9, ne_eqb n 10 h.3)
    other_effect (AtField Braces) = rw (no_stream_end, ne_eqb n 17 h.9, ne_eqb n 14 h.7)
    other_effect (AtName g) = rw (no_stream_end, ne_eqb n 22 h.11)
    other_effect (AtValue g f) = rw (no_stream_end, ne_eqb n 18 h.10)
    other_effect (AtText g) = rw (no_stream_end, ne_eqb n 22 h.11)
    other_effect (AtList g) = rw (no_stream_end, ne_eqb n 11 h.4)
    other_effect (AtEntry g) = rw (no_stream_end, ne_eqb n 22 h.11, ne_eqb n 12 h.5)
    other_effect (BehindSeed g) = rw (no_stream_end, ne_eqb n 16 h.8, ne_eqb n 12 h.5)
    other_effect BehindField = rw (no_stream_end, ne_eqb n 16 h.8, ne_eqb n 14 h.7)
    other_effect AtEnd = rw no_stream_end

  pub kind_effect : (n : ℕ) (p : ShapePlace) (k : ShapeKind) → Numbers n k → effect p m (sees (shape_number k)) ≡ effect p m (sees n)
  kind_effect n p StreamStart e = rw e
  kind_effect n p StreamEnd e = rw e
  kind_effect n p BlockMappingStart e = rw e
  kind_effect n p BlockEnd e = rw e
  kind_effect n p FlowSequenceStart e = rw e
  kind_effect n p FlowSequenceEnd e = rw e
  kind_effect n p FlowMappingStart e = rw e
  kind_effect n p FlowMappingEnd e = rw e
  kind_effect n p FlowEntry e = rw e
  kind_effect n p Key e = rw e
  kind_effect n p Value e = rw e
  kind_effect n p Scalar e = rw e
  kind_effect n p Other e = other_effect n e p
