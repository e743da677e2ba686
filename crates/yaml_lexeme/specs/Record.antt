-- Tokens as code holds them (the types of src/lib.rt): the words of a token's record, the token of a record, and how a token of the definition is held.
use Rattle.std.specs.Prelude.{◌+◌, ℕ, List, [], ◌++◌, ◌∷◌, map, get_or, length, Option, Some, None}
use Rattle.yaml_text.specs.declared.Mark.{Mark}
use Rattle.yaml_text.specs.Pick.{pick}
use Rattle.yaml_text.specs.Class.{same}
use Rattle.yaml_lexeme.specs.declared.Kind.{Kind as HeldKind}
use Rattle.yaml_lexeme.specs.declared.Kind.TheVariants as held
use Rattle.yaml_lexeme.specs.declared.Style.{Style}
use Rattle.yaml_lexeme.specs.declared.Style.TheVariants.{DoubleQuoted, Folded, Literal, Plain, SingleQuoted}
use Rattle.yaml_lexeme.specs.declared.Text.{Text}
use Rattle.yaml_lexeme.specs.declared.Token.{Token as HeldToken}
use Rattle.yaml_lexeme.specs.Table.{looked_up}
use Rattle.yaml_lexeme.specs.Token.{Alias, Anchor, BlockEnd, BlockEntry, BlockMappingStart, BlockSequenceStart, ByteOrderMark, DocumentEnd, DocumentStart, FlowEntry, FlowMappingEnd, FlowMappingStart, FlowSequenceEnd, FlowSequenceStart, Key, Kind, ReservedDirective, Scalar, StreamEnd, StreamStart, Tag, TagDirective, Token, Value, VersionDirective, size, token_bytes}

-- words a record
abbrev pub record_words : ℕ
record_words = 12

-- word 1: the number of a kind
unfoldable pub number_of : HeldKind → ℕ
number_of held.StreamStart = 1
number_of held.StreamEnd = 2
number_of (held.VersionDirective a b) = 3
number_of (held.TagDirective t u) = 4
number_of held.DocumentStart = 5
number_of held.DocumentEnd = 6
number_of held.ByteOrderMark = 7
number_of held.BlockSequenceStart = 8
number_of held.BlockMappingStart = 9
number_of held.BlockEnd = 10
number_of held.FlowSequenceStart = 11
number_of held.FlowSequenceEnd = 12
number_of held.FlowMappingStart = 13
number_of held.FlowMappingEnd = 14
number_of held.BlockEntry = 15
number_of held.FlowEntry = 16
number_of held.Key = 17
number_of held.Value = 18
number_of (held.Alias t) = 19
number_of (held.Anchor t) = 20
number_of (held.Tag t u) = 21
number_of (held.Scalar s t) = 22
number_of (held.ReservedDirective t u) = 23

-- word 12 of a scalar
unfoldable pub style_number : Style → ℕ
style_number Plain = 1
style_number SingleQuoted = 2
style_number DoubleQuoted = 3
style_number Literal = 4
style_number Folded = 5

-- words 8 to 12: offset and length of the first text, of the second, style. No text means zeros; a version has major and minor in words 8 and 9
unfoldable pub values_of : HeldKind → ℕ × ℕ × ℕ × ℕ × ℕ
values_of held.StreamStart = (0, 0, 0, 0, 0)
values_of held.StreamEnd = (0, 0, 0, 0, 0)
values_of (held.VersionDirective a b) = (a, b, 0, 0, 0)
values_of (held.TagDirective t u) = (t.at, t.len, u.at, u.len, 0)
values_of held.DocumentStart = (0, 0, 0, 0, 0)
values_of held.DocumentEnd = (0, 0, 0, 0, 0)
values_of held.ByteOrderMark = (0, 0, 0, 0, 0)
values_of held.BlockSequenceStart = (0, 0, 0, 0, 0)
values_of held.BlockMappingStart = (0, 0, 0, 0, 0)
values_of held.BlockEnd = (0, 0, 0, 0, 0)
values_of held.FlowSequenceStart = (0, 0, 0, 0, 0)
values_of held.FlowSequenceEnd = (0, 0, 0, 0, 0)
values_of held.FlowMappingStart = (0, 0, 0, 0, 0)
values_of held.FlowMappingEnd = (0, 0, 0, 0, 0)
values_of held.BlockEntry = (0, 0, 0, 0, 0)
values_of held.FlowEntry = (0, 0, 0, 0, 0)
values_of held.Key = (0, 0, 0, 0, 0)
values_of held.Value = (0, 0, 0, 0, 0)
values_of (held.Alias t) = (t.at, t.len, 0, 0, 0)
values_of (held.Anchor t) = (t.at, t.len, 0, 0, 0)
values_of (held.Tag t u) = (t.at, t.len, u.at, u.len, 0)
values_of (held.Scalar s t) = (t.at, t.len, 0, 0, style_number s)
values_of (held.ReservedDirective t u) = (t.at, t.len, u.at, u.len, 0)

abbrev pub mark_words : Mark → List ℕ → List ℕ
mark_words m ws = m.index ∷ m.line ∷ m.col ∷ ws

-- a record: kind, start mark, end mark, words 8 to 12
unfoldable pub record_of : HeldToken → List ℕ
record_of t =
    let v = values_of t.kind in
    number_of t.kind ∷ mark_words t.start (mark_words t.end (v.0 ∷ v.1 ∷ v.2 ∷ v.3 ∷ v.4 ∷ []))

-- a text behind the bytes used so far, an empty one too
abbrev pub text_at : ℕ → List ℕ → Text
text_at used t = record { at = used; len = size t }

-- a kind of the definition, its texts behind the bytes used so far
unfoldable pub laid : ℕ → Kind → HeldKind
laid used StreamStart = held.StreamStart
laid used StreamEnd = held.StreamEnd
laid used (VersionDirective a b) = held.VersionDirective a b
laid used (TagDirective t u) = held.TagDirective (text_at used t) (text_at (used + size t) u)
laid used DocumentStart = held.DocumentStart
laid used DocumentEnd = held.DocumentEnd
laid used ByteOrderMark = held.ByteOrderMark
laid used BlockSequenceStart = held.BlockSequenceStart
laid used BlockMappingStart = held.BlockMappingStart
laid used BlockEnd = held.BlockEnd
laid used FlowSequenceStart = held.FlowSequenceStart
laid used FlowSequenceEnd = held.FlowSequenceEnd
laid used FlowMappingStart = held.FlowMappingStart
laid used FlowMappingEnd = held.FlowMappingEnd
laid used BlockEntry = held.BlockEntry
laid used FlowEntry = held.FlowEntry
laid used Key = held.Key
laid used Value = held.Value
laid used (Alias t) = held.Alias (text_at used t)
laid used (Anchor t) = held.Anchor (text_at used t)
laid used (Tag t u) = held.Tag (text_at used t) (text_at (used + size t) u)
laid used (Scalar s t) = held.Scalar s (text_at used t)
laid used (ReservedDirective t u) = held.ReservedDirective (text_at used t) (text_at (used + size t) u)

abbrev pub laid_token : ℕ → Token → HeldToken
laid_token used t = record { kind = laid used t.kind; start = t.start; end = t.end }

-- the records of a list of tokens
unfoldable pub records : ℕ → List Token → List ℕ
records used [] = []
records used (t ∷ ts) = record_of (laid_token used t) ++ records (used + length (token_bytes t)) ts

-- The token of a record, for those who read records back. Words that are no token's record have none: of another length, with a kind outside 1 to 23,
-- a scalar with a style outside 1 to 5, or not zero where the kind has nothing to hold. RecordLaws has both ways of it.

-- a mark and a text in the words w, from word i on, counted from 0
abbrev pub mark_in : List ℕ → ℕ → Mark
mark_in w i = record { index = get_or w i 0; line = get_or w (i + 1) 0; col = get_or w (i + 2) 0 }

abbrev pub text_in : List ℕ → ℕ → Text
text_in w i = record { at = get_or w i 0; len = get_or w (i + 1) 0 }

-- a token of this kind, with the marks of w
abbrev pub with_marks : List ℕ → HeldKind → Option HeldToken
with_marks w k = Some (record { kind = k; start = mark_in w 1; end = mark_in w 4 })

-- the scalars of a text, by the numbers of their styles
abbrev pub scalar_rows : List ℕ → Text → List (ℕ × Option HeldToken)
scalar_rows w t =
    map (λ (s : Style). (style_number s, with_marks w (held.Scalar s t))) (Plain ∷ SingleQuoted ∷ DoubleQuoted ∷ Literal ∷ Folded ∷ [])

-- the kinds but scalars, with what words 8 to 11 hold
abbrev pub kinds_in : List ℕ → List HeldKind
kinds_in w =
    let t = text_in w 7 in
    let u = text_in w 9 in
    held.StreamStart ∷ held.StreamEnd ∷ held.VersionDirective (get_or w 7 0) (get_or w 8 0) ∷ held.TagDirective t u
    ∷ held.DocumentStart ∷ held.DocumentEnd ∷ held.ByteOrderMark ∷ held.BlockSequenceStart ∷ held.BlockMappingStart ∷ held.BlockEnd
    ∷ held.FlowSequenceStart ∷ held.FlowSequenceEnd ∷ held.FlowMappingStart ∷ held.FlowMappingEnd
    ∷ held.BlockEntry ∷ held.FlowEntry ∷ held.Key ∷ held.Value ∷ held.Alias t ∷ held.Anchor t ∷ held.Tag t u ∷ held.ReservedDirective t u ∷ []

-- all kinds by their numbers
abbrev pub kind_rows : List ℕ → List (ℕ × Option HeldToken)
kind_rows w =
    let t = text_in w 7 in
    (number_of (held.Scalar Plain t), looked_up None (get_or w 11 0) (scalar_rows w t)) ∷ map (λ (k : HeldKind). (number_of k, with_marks w k)) (kinds_in w)

-- the only token whose record w can be, by word 1 and, of a scalar, word 12
abbrev pub token_by_number : List ℕ → Option HeldToken
token_by_number w = looked_up None (get_or w 0 0) (kind_rows w)

-- that token, if w is its record
abbrev pub if_record : List ℕ → Option HeldToken → Option HeldToken
if_record w (Some t) = pick (same (record_of t) w) (Some t) None
if_record w None = None

unfoldable pub token_of : List ℕ → Option HeldToken
token_of w = if_record w (token_by_number w)
