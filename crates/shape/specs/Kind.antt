-- The kinds that have a place in the shape, by their numbers.
use Rattle.std.specs.Prelude.{ℕ, ◌≡◌}
use Rattle.shape.specs.declared.kind.ShapeKind.{ShapeKind}
use Rattle.shape.specs.declared.kind.ShapeKind.TheVariants.{BlockEnd, BlockMappingStart, FlowEntry, FlowMappingEnd, FlowMappingStart, FlowSequenceEnd, FlowSequenceStart, Key, Other, Scalar, StreamEnd, StreamStart, Value}

-- 0, which no kind has, stands for every other kind
abbrev pub shape_number : ShapeKind → ℕ
shape_number StreamStart = 1
shape_number StreamEnd = 2
shape_number BlockMappingStart = 9
shape_number BlockEnd = 10
shape_number FlowSequenceStart = 11
shape_number FlowSequenceEnd = 12
shape_number FlowMappingStart = 13
shape_number FlowMappingEnd = 14
shape_number FlowEntry = 16
shape_number Key = 17
shape_number Value = 18
shape_number Scalar = 22
shape_number Other = 0

abbrev Elsewhere : ℕ → Type 0
Elsewhere n =
    (n ≡ 1 → ⊥) × (n ≡ 2 → ⊥) × (n ≡ 9 → ⊥) × (n ≡ 10 → ⊥) × (n ≡ 11 → ⊥) × (n ≡ 12 → ⊥) × (n ≡ 13 → ⊥) × (n ≡ 14 → ⊥) × (n ≡ 16 → ⊥) × (n ≡ 17 → ⊥)
    × (n ≡ 18 → ⊥) × (n ≡ 22 → ⊥)

-- of number n
abbrev pub Numbers : ℕ → ShapeKind → Type 0
Numbers n Other = Elsewhere n
Numbers n k = n ≡ shape_number k
