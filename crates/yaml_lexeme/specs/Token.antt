-- Tokens with their kinds and texts, and what a reader answers ("Marks and records").
use Rattle.std.specs.Prelude.{ℕ, List, [], ◌++◌, ◌∷◌, length}
use Rattle.yaml_text.specs.declared.Mark.{Mark}
use Rattle.yaml_text.specs.Utf8.{encode}
use Rattle.yaml_text.specs.Mark.{Place}
use Rattle.yaml_lexeme.specs.declared.Style.{Style}

-- in the order of the crate's TokenType; a text is a list of characters
pub data Kind : Type 0 where
  StreamStart StreamEnd : Kind
  VersionDirective : ℕ → ℕ → Kind
  TagDirective : List ℕ → List ℕ → Kind
  DocumentStart DocumentEnd ByteOrderMark : Kind
  BlockSequenceStart BlockMappingStart BlockEnd : Kind
  FlowSequenceStart FlowSequenceEnd FlowMappingStart FlowMappingEnd : Kind
  BlockEntry FlowEntry Key Value : Kind
  Alias Anchor : List ℕ → Kind
  Tag : List ℕ → List ℕ → Kind
  Scalar : Style → List ℕ → Kind
  ReservedDirective : List ℕ → List ℕ → Kind

pub record Token : Type 0 where
  pub kind : Kind
  pub start : Mark
  pub end : Mark

-- a token that spans no text
abbrev pub empty-token : Kind → Mark → Token
empty-token k m = record { kind = k; start = m; end = m }

-- a token, with the place where the reading goes on
pub record Lexeme : Type 0 where
  pub token : Token
  pub place : Place

abbrev pub lexeme : Kind → Mark → Mark → Place → Lexeme
lexeme k start end p = record { token = record { kind = k; start = start; end = end }; place = p }

-- the bytes of a kind's texts
unfoldable pub kind-bytes : Kind → List ℕ
kind-bytes StreamStart = []
kind-bytes StreamEnd = []
kind-bytes (VersionDirective a b) = []
kind-bytes (TagDirective t u) = encode t ++ encode u
kind-bytes DocumentStart = []
kind-bytes DocumentEnd = []
kind-bytes ByteOrderMark = []
kind-bytes BlockSequenceStart = []
kind-bytes BlockMappingStart = []
kind-bytes BlockEnd = []
kind-bytes FlowSequenceStart = []
kind-bytes FlowSequenceEnd = []
kind-bytes FlowMappingStart = []
kind-bytes FlowMappingEnd = []
kind-bytes BlockEntry = []
kind-bytes FlowEntry = []
kind-bytes Key = []
kind-bytes Value = []
kind-bytes (Alias t) = encode t
kind-bytes (Anchor t) = encode t
kind-bytes (Tag t u) = encode t ++ encode u
kind-bytes (Scalar s t) = encode t
kind-bytes (ReservedDirective t u) = encode t ++ encode u

abbrev pub token-bytes : Token → List ℕ
token-bytes t = kind-bytes t.kind

-- the bytes of all texts, which stand one behind the other
unfoldable pub texts : List Token → List ℕ
texts [] = []
texts (t ∷ ts) = token-bytes t ++ texts ts

-- how many bytes a text takes
abbrev pub size : List ℕ → ℕ
size t = length (encode t)
