-- What the reader sees of a token tells its kind, and a scalar's style and text; and a number in its sense is one of the grammar's.
use Rattle.std.specs.Prelude.{◌*◌, ◌+◌, ◌-◌, ◌≤◌, ℕ, Bool, ◌&&◌, ◌||◌, not, true, List, [], ◌++◌, ◌∷◌, ◌≡◌, refl, T, eqb, leb, get_or}
use Rattle.std.proofs.Common.{append_assoc, append-nil, ◌∙◌, ap, subst, sym, arith, T_not, eqb-true, leb-true}
use Rattle.std.proofs.lemmas.Bool.{eqb-false, not-true}
use Rattle.yaml_text.specs.Char.{'0', '9'}
use Rattle.yaml_text.specs.Class.{is_digit}
use Rattle.yaml_text.specs.Test.{both_true, true_false}
use Rattle.yaml_lexeme.specs.declared.Style.{Style}
use Rattle.yaml_lexeme.specs.declared.Style.TheVariants.{DoubleQuoted, Folded, Literal, Plain, SingleQuoted}
use Rattle.yaml_lexeme.specs.Token.{Alias, Anchor, BlockEnd, BlockEntry, BlockMappingStart, BlockSequenceStart, ByteOrderMark, DocumentEnd, DocumentStart, FlowEntry, FlowMappingEnd, FlowMappingStart, FlowSequenceEnd, FlowSequenceStart, Key, Kind, ReservedDirective, Scalar, StreamEnd, StreamStart, Tag, TagDirective, Token, Value, VersionDirective}
use Rattle.yaml_lexeme.specs.Record.{laid, number_of, style_number, values_of}
use Rattle.yaml_job.specs.Job.{Sight, all_digits, is, is_number, is_scalar, kind_number, most_seed, sight, style_of, value_from, well_led}
use Rattle.yaml_job.specs.Shape.{Decimal, IsScalar, digit, further}

-- the kinds without a text, by their numbers
abbrev bare : ℕ → Kind
bare n =
    get_or (Key ∷ StreamStart ∷ StreamEnd ∷ Key ∷ Key ∷ DocumentStart ∷ DocumentEnd ∷ ByteOrderMark ∷ BlockSequenceStart ∷ BlockMappingStart ∷ BlockEnd
    ∷ FlowSequenceStart ∷ FlowSequenceEnd ∷ FlowMappingStart ∷ FlowMappingEnd ∷ BlockEntry ∷ FlowEntry ∷ Key ∷ Value ∷ []) n Key

-- the others: VersionDirective, TagDirective, and from Alias on
abbrev holds_more : ℕ → Bool
holds_more n = eqb n 3 || (eqb n 4 || leb 19 n)

-- of any style
abbrev scalar_number : ℕ
scalar_number = kind_number (Scalar Plain [])

-- a kind, known by its number
data KnownBy : Kind → ℕ → Type 0 where
  by_number : {n : ℕ} → T (not (eqb n scalar_number)) → KnownBy (bare n) n
  a_scalar : {s : Style} {text : List ℕ} → KnownBy (Scalar s text) scalar_number
  other : {k : Kind} {n : ℕ} → T (holds_more n) → T (not (eqb n scalar_number)) → KnownBy k n

known : (k : Kind) → KnownBy k (kind_number k)
unfolding number_of laid
known StreamStart = by_number tt
known StreamEnd = by_number tt
known (VersionDirective a b) = other tt tt
known (TagDirective t u) = other tt tt
known DocumentStart = by_number tt
known DocumentEnd = by_number tt
known ByteOrderMark = by_number tt
known BlockSequenceStart = by_number tt
known BlockMappingStart = by_number tt
known BlockEnd = by_number tt
known FlowSequenceStart = by_number tt
known FlowSequenceEnd = by_number tt
known FlowMappingStart = by_number tt
known FlowMappingEnd = by_number tt
known BlockEntry = by_number tt
known FlowEntry = by_number tt
known Key = by_number tt
known Value = by_number tt
known (Alias t) = other tt tt
known (Anchor t) = other tt tt
known (Tag t u) = other tt tt
known (Scalar s t) = a_scalar
known (ReservedDirective t u) = other tt tt

bare_known : {k : Kind} {n : ℕ} → KnownBy k n → (j : ℕ) → n ≡ j → T (not (holds_more j)) → k ≡ bare j
unfolding number_of laid
bare_known (by_number p) j e h = ap (λ (i : ℕ). bare i) e
bare_known a_scalar j e h = absurd (subst (λ (i : ℕ). T (not (holds_more i))) (sym e) h)
bare_known (other {n = n} o p) j e h = absurd (T_not (holds_more n) (subst (λ (i : ℕ). T (not (holds_more i))) (sym e) h) o)

-- a kind without a text
abbrev pub Bare : Kind → Type 0
Bare k = (bare (kind_number k) ≡ k) × T (not (holds_more (kind_number k)))

pub is_kind : (k : Kind) (t : Token) → Bare k → is k (sight t) ≡ true → t.kind ≡ k
is_kind k t b e = bare_known (known t.kind) (kind_number k) (eqb-true _ _ e) b.1 ∙ b.0

scalar_known : {k : Kind} {n : ℕ} → KnownBy k n → n ≡ scalar_number → (s : Style) × (text : List ℕ) × (k ≡ Scalar s text)
unfolding number_of laid
scalar_known (by_number {n = n} p) e = absurd (subst (λ (i : ℕ). T (not (eqb i scalar_number))) e p)
scalar_known (a_scalar {s = s} {text = x}) e = (s, x, refl)
scalar_known (other {n = n} o p) e = absurd (subst (λ (i : ℕ). T (not (eqb i scalar_number))) e p)

pub is_a_scalar : (t : Token) → is_scalar (sight t) ≡ true → IsScalar t
is_a_scalar t e = scalar_known (known t.kind) (eqb-true _ _ e)

pub plain_style : (s : Style) (text : List ℕ) → style_of (Scalar s text) ≡ style_number Plain → s ≡ Plain
unfolding laid values_of style_number
plain_style Plain text e = refl
plain_style SingleQuoted text e = absurd (omega arith)
plain_style DoubleQuoted text e = absurd (omega arith)
plain_style Literal text e = absurd (omega arith)
plain_style Folded text e = absurd (omega arith)

-- a scalar that is a seed
abbrev pub is_seed : Sight → Bool
is_seed v = eqb v.style (style_number Plain) && is_number v.text

-- numbers

digit_is : (d : ℕ) → is_digit d ≡ true → ('0' ≤ d) × (d ≤ '9')
unfolding is_digit
digit_is d e = let b = both_true (leb '0' d) (leb d '9') e in (leb-true '0' d b.0, leb-true d '9' b.1)

digits_behind : (ds es : List ℕ) (v : ℕ) → Decimal ds v → 1 ≤ v → all_digits es ≡ true → Decimal (ds ++ es) (value_from v es)
unfolding all_digits value_from
digits_behind ds [] v h b e = rw (append-nil ds) h
digits_behind ds (d ∷ es) v h b e =
    let c = both_true (is_digit d) (all_digits es) e in
    let i = digit_is d c.0 in
    let j : '0' + (d - '0') ≡ d = omega arith in
    let l : d - '0' ≤ 9 = omega arith in
    let k : Decimal (ds ++ (d ∷ [])) (v * 10 + (d - '0')) = rw j at (further h b l) in
    let r = digits_behind (ds ++ (d ∷ [])) es (v * 10 + (d - '0')) k (omega arith) c.1 in
    rw append_assoc at r

-- a number in the reader's sense is one of the grammar's
pub number_is : (ds : List ℕ) → is_number ds ≡ true → Decimal ds (value_from 0 ds) × (value_from 0 ds ≤ most_seed)
unfolding is_number well_led all_digits value_from
number_is [] e = true_false (sym e)
number_is (d ∷ []) e =
    let b = both_true (all_digits (d ∷ [])) (leb (value_from 0 (d ∷ [])) most_seed) e in
    let i = digit_is d (both_true (is_digit d) true b.0).0 in
    let j : '0' + (d - '0') ≡ d = omega arith in
    let l : d - '0' ≤ 9 = omega arith in
    let k : Decimal (d ∷ []) (d - '0') = rw j at (digit l) in
    let z : 0 + (d - '0') ≡ d - '0' = omega arith in
    (rw z k, leb-true _ _ b.1)
number_is (d ∷ x ∷ ds) e =
    let a = both_true (not (eqb d '0')) (all_digits (d ∷ x ∷ ds) && leb (value_from 0 (d ∷ x ∷ ds)) most_seed) e in
    let b = both_true (all_digits (d ∷ x ∷ ds)) (leb (value_from 0 (d ∷ x ∷ ds)) most_seed) a.1 in
    let c = both_true (is_digit d) (all_digits (x ∷ ds)) b.0 in
    let i = digit_is d c.0 in
    let n : d ≡ '0' → ⊥ = eqb-false d '0' (not-true (eqb d '0') a.0) in
    let j : '0' + (d - '0') ≡ d = omega arith in
    let l : d - '0' ≤ 9 = omega arith in
    let k : Decimal (d ∷ []) (d - '0') = rw j at (digit l) in
    let z : 0 + (d - '0') ≡ d - '0' = omega arith in
    (rw (z, value_from) (digits_behind (d ∷ []) (x ∷ ds) (d - '0') k (omega arith) c.1), leb-true _ _ b.1)

-- and the other way
