-- The numbers of kinds and styles are their places in the order of their types, from 1.
use Rattle.std.specs.Prelude.{◌+◌, ◌<◌, ℕ, true, List, [], ◌∷◌, map, ◌≡◌, refl, ltb, Option, Some, None}
use types.Run.{OneOf, miss}
use denote.Enum.Declared.{tag_of}
use Rattle.std.proofs.Common.{ltb-true}
use Rattle.yaml_lexeme.specs.declared.Kind.{Kind}
use Rattle.yaml_lexeme.specs.declared.Kind.TheVariants.{Alias, Anchor, BlockEnd, BlockEntry, BlockMappingStart, BlockSequenceStart, ByteOrderMark, DocumentEnd, DocumentStart, FlowEntry, FlowMappingEnd, FlowMappingStart, FlowSequenceEnd, FlowSequenceStart, Key, ReservedDirective, Scalar, StreamEnd, StreamStart, Tag, TagDirective, Value, VersionDirective}
use Rattle.yaml_lexeme.specs.declared.Style.{Style}
use Rattle.yaml_lexeme.specs.declared.Style.TheVariants.{DoubleQuoted, Folded, Literal, Plain, SingleQuoted}
use Rattle.yaml_lexeme.specs.declared.Token.{Token}
use Rattle.yaml_lexeme.specs.contracts.Kind.{the_type as kinds}
use Rattle.yaml_lexeme.specs.contracts.Style.{the_type as styles}
use Rattle.yaml_lexeme.specs.Record.{number_of, style_number, values_of, with_marks}

-- what a note is counted by in word 1, above the number of a kind
abbrev pub note_base : ℕ
note_base = 32

abbrev pub kind_place : Kind → ℕ
kind_place k = tag_of kinds k + 1

abbrev pub style_place : Style → ℕ
style_place s = tag_of styles s + 1

-- the kinds that hold nothing, by their tags
abbrev pub silent : List ℕ
silent = 0 ∷ 1 ∷ 4 ∷ 5 ∷ 6 ∷ 7 ∷ 8 ∷ 9 ∷ 10 ∷ 11 ∷ 12 ∷ 13 ∷ 14 ∷ 15 ∷ 16 ∷ 17 ∷ []

-- words 8 to 12 in a row
abbrev pub five : ℕ × ℕ × ℕ × ℕ × ℕ → List ℕ
five v = v.0 ∷ v.1 ∷ v.2 ∷ v.3 ∷ v.4 ∷ []

-- the token of a kind that was found, with the marks of the words w
abbrev pub marked : List ℕ → Option Kind → Option Token
marked w None = None
marked w (Some k) = with_marks w k

-- the kinds that hold nothing, by their numbers
abbrev pub silent_rows : List ℕ → List (ℕ × Option Token)
silent_rows w =
    map (λ (k : Kind). (number_of k, with_marks w k))
    (StreamStart ∷ StreamEnd ∷ DocumentStart ∷ DocumentEnd ∷ ByteOrderMark ∷ BlockSequenceStart ∷ BlockMappingStart ∷ BlockEnd ∷ FlowSequenceStart
    ∷ FlowSequenceEnd ∷ FlowMappingStart ∷ FlowMappingEnd ∷ BlockEntry ∷ FlowEntry ∷ Key ∷ Value ∷ [])

-- what is known of each kind
abbrev Known : Kind → Type 0
Known k = (number_of k ≡ kind_place k) × (ltb (number_of k) note_base ≡ true) × (OneOf silent (tag_of kinds k) → values_of k ≡ (0, 0, 0, 0, 0))

known : (k : Kind) → Known k
unfolding number_of values_of
known StreamStart = (refl, refl, λ h. refl)
known StreamEnd = (refl, refl, λ h. refl)
known (VersionDirective a b) = (refl, refl, λ h. absurd (miss silent _ tt h))
known (TagDirective t u) = (refl, refl, λ h. absurd (miss silent _ tt h))
known DocumentStart = (refl, refl, λ h. refl)
known DocumentEnd = (refl, refl, λ h. refl)
known ByteOrderMark = (refl, refl, λ h. refl)
known BlockSequenceStart = (refl, refl, λ h. refl)
known BlockMappingStart = (refl, refl, λ h. refl)
known BlockEnd = (refl, refl, λ h. refl)
known FlowSequenceStart = (refl, refl, λ h. refl)
known FlowSequenceEnd = (refl, refl, λ h. refl)
known FlowMappingStart = (refl, refl, λ h. refl)
known FlowMappingEnd = (refl, refl, λ h. refl)
known BlockEntry = (refl, refl, λ h. refl)
known FlowEntry = (refl, refl, λ h. refl)
known Key = (refl, refl, λ h. refl)
known Value = (refl, refl, λ h. refl)
known (Alias t) = (refl, refl, λ h. absurd (miss silent _ tt h))
known (Anchor t) = (refl, refl, λ h. absurd (miss silent _ tt h))
known (Tag t u) = (refl, refl, λ h. absurd (miss silent _ tt h))
known (Scalar s t) = (refl, refl, λ h. absurd (miss silent _ tt h))
known (ReservedDirective t u) = (refl, refl, λ h. absurd (miss silent _ tt h))

pub number_place : (k : Kind) → number_of k ≡ kind_place k
number_place k = (known k).0

pub number_small : (k : Kind) → number_of k < note_base
number_small k = ltb-true (number_of k) note_base (known k).1

pub no_values : (k : Kind) → OneOf silent (tag_of kinds k) → values_of k ≡ (0, 0, 0, 0, 0)
no_values k = (known k).2

pub style_placed : (s : Style) → style_number s ≡ style_place s
unfolding style_number
style_placed Plain = refl
style_placed SingleQuoted = refl
style_placed DoubleQuoted = refl
style_placed Literal = refl
style_placed Folded = refl
