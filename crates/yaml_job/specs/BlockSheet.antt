-- A sheet in block form, with its list on the line on which the list's name ends, never meets 51, whatever its length, and its job is done. Behind each scalar stands
-- a ',', a ':' or a Key; but behind the last seed and the last text, where few tokens are left. So its tokens are orderly (Orderly in yaml_stream).
use Rattle.std.specs.Prelude.{ℕ, List, [], ◌∷◌, ◌≡◌}
use Rattle.yaml_lexeme.specs.Token.{BlockMappingStart, FlowSequenceStart, Token}
use Rattle.yaml_stream.specs.Orderly.{line_scalar, part_of}
use Rattle.yaml_job.specs.Shape.{Is}

-- the form of the sheet's mapping is its second token
abbrev pub InBlock : List Token → Type 0
InBlock [] = ⊥
InBlock (s ∷ []) = ⊥
InBlock (s ∷ b ∷ ts) = Is BlockMappingStart b

-- where the second token behind p opens a list, p is a plain or quoted scalar, and ends on the line on which that list opens
abbrev pub NamesNear : Token → List Token → Type 0
NamesNear p [] = Unit {0}
NamesNear p (q ∷ []) = Unit {0}
NamesNear p (q ∷ x ∷ ts) = Is FlowSequenceStart x → (part_of p ≡ line_scalar) × (p.end.line ≡ x.start.line)

-- each list opens on the line on which its name ends (a ':' stands between them); the name is plain or in quotes
abbrev pub OnNameLine : List Token → Type 0
OnNameLine [] = Unit {0}
OnNameLine (p ∷ ts) = NamesNear p ts × OnNameLine ts

-- behind the last seed: ']', two fields of four tokens each, BlockEnd and StreamEnd
abbrev pub most_behind : ℕ
most_behind = 11

-- the sheet's tokens are orderly
