-- Lists of tokens in which no key stays possible for long: a ',', a ':' or a Key stands behind each scalar, unless few tokens are left; '[' stands behind a plain or
-- quoted key and its ':', on the line on which the key ends; and there are no tags, anchors, aliases or '{'. KeysNear says what that means for a scan.
use Rattle.std.specs.Prelude.{◌≤◌, ℕ, Bool, false, true, List, [], ◌∷◌, ◌⊎◌, ◌≡◌, length}
use Rattle.yaml_lexeme.specs.declared.Style.{Style}
use Rattle.yaml_lexeme.specs.declared.Style.TheVariants.{DoubleQuoted, Folded, Literal, Plain, SingleQuoted}
use Rattle.yaml_lexeme.specs.Token.{Alias, Anchor, BlockEnd, BlockEntry, BlockMappingStart, BlockSequenceStart, ByteOrderMark, DocumentEnd, DocumentStart, FlowEntry, FlowMappingEnd, FlowMappingStart, FlowSequenceEnd, FlowSequenceStart, Key, Kind, ReservedDirective, Scalar, StreamEnd, StreamStart, Tag, TagDirective, Token, Value, VersionDirective}

-- what a token is to simple keys
pub data Part : Type 0 where
  -- scalars: plain or in quotes; block scalars
  line_scalar block_scalar : Part
  -- tags, anchors and aliases
  property : Part
  -- '[' and '{'
  list_start mapping_start : Part
  -- ',', Key and ':'
  comma key_token colon : Part
  other : Part

unfoldable pub scalar_part : Style → Part
scalar_part Plain = line_scalar
scalar_part SingleQuoted = line_scalar
scalar_part DoubleQuoted = line_scalar
scalar_part Literal = block_scalar
scalar_part Folded = block_scalar

unfoldable pub part : Kind → Part
part StreamStart = other
part StreamEnd = other
part (VersionDirective a b) = other
part (TagDirective t u) = other
part DocumentStart = other
part DocumentEnd = other
part ByteOrderMark = other
part BlockSequenceStart = other
part BlockMappingStart = other
part BlockEnd = other
part FlowSequenceStart = list_start
part FlowSequenceEnd = other
part FlowMappingStart = mapping_start
part FlowMappingEnd = other
part BlockEntry = other
part FlowEntry = comma
part Key = key_token
part Value = colon
part (Alias t) = property
part (Anchor t) = property
part (Tag t u) = property
part (Scalar s t) = scalar_part s
part (ReservedDirective t u) = other

abbrev pub part_of : Token → Part
part_of t = part t.kind

-- K2: it may be a possible key
unfoldable pub may_be_key : Part → Bool
may_be_key line_scalar = true
may_be_key block_scalar = true
may_be_key property = true
may_be_key list_start = true
may_be_key mapping_start = true
may_be_key comma = false
may_be_key key_token = false
may_be_key colon = false
may_be_key other = false

unfoldable pub is_scalar : Part → Bool
is_scalar line_scalar = true
is_scalar block_scalar = true
is_scalar property = false
is_scalar list_start = false
is_scalar mapping_start = false
is_scalar comma = false
is_scalar key_token = false
is_scalar colon = false
is_scalar other = false

-- behind it the scalar before it is no possible key any more
unfoldable pub sets_apart : Part → Bool
sets_apart line_scalar = false
sets_apart block_scalar = false
sets_apart property = false
sets_apart list_start = false
sets_apart mapping_start = false
sets_apart comma = true
sets_apart key_token = true
sets_apart colon = true
sets_apart other = false

abbrev pub SetApart : List Token → Type 0
SetApart [] = ⊥
SetApart (t ∷ ts) = sets_apart (part_of t) ≡ true

module _ (c : ℕ) where
  -- what is asked of x, which stands behind p and q, with ts behind it
  unfoldable pub InOrder : Part → Token → Token → Token → List Token → Type 0
  InOrder line_scalar p q x ts = SetApart ts ⊎ (length ts ≤ c)
  InOrder block_scalar p q x ts = SetApart ts ⊎ (length ts ≤ c)
  InOrder property p q x ts = ⊥
  InOrder list_start p q x ts = (part_of p ≡ line_scalar) × (part_of q ≡ colon) × (p.end.line ≡ x.start.line)
  InOrder mapping_start p q x ts = ⊥
  InOrder comma p q x ts = Unit {0}
  InOrder key_token p q x ts = Unit {0}
  InOrder colon p q x ts = Unit {0}
  InOrder other p q x ts = Unit {0}

  -- behind the tokens p and q
  abbrev pub Orderly : Token → Token → List Token → Type 0
  Orderly p q [] = Unit {0}
  Orderly p q (x ∷ ts) = InOrder (part_of x) p q x ts × Orderly q x ts
