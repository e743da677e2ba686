-- What goes in before the token of a record, and the numbers that note it.
use Rattle.std.specs.Prelude.{ℕ, suc, zero, Option, Some, None}
use Rattle.yaml_lexeme.specs.declared.Kind.{Kind}
use Rattle.yaml_lexeme.specs.declared.Kind.TheVariants as kind
use Rattle.records.specs.declared.noted.Noted.{Noted}
use Rattle.records.specs.declared.noted.Noted.TheVariants.{Block, Key, Nothing, Pair}

-- by its number; a record's note is none of those above 3
abbrev pub noted : ℕ → Noted
noted zero = Nothing
noted (suc zero) = Key
noted (suc (suc zero)) = Pair
noted (suc (suc (suc n))) = Block

abbrev pub noted_number : Noted → ℕ
noted_number Nothing = 0
noted_number Key = 1
noted_number Pair = 2
noted_number Block = 3

-- the kind of the token that goes in first, and what is left behind it
abbrev pub first_noted : Noted → Option Kind
first_noted Nothing = None
first_noted Key = Some kind.Key
first_noted Pair = Some kind.FlowMappingStart
first_noted Block = Some kind.BlockMappingStart

abbrev pub rest_noted : Noted → Noted
rest_noted Nothing = Nothing
rest_noted Key = Nothing
rest_noted Pair = Key
rest_noted Block = Key
