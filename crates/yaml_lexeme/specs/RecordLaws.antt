-- A record has its words, the first of them is not 0, and the token of a record is the one whose record it is.
use Rattle.std.specs.Prelude.{◌*◌, ◌+◌, ◌≤◌, ℕ, true, ◌≡◌, refl, eqb, drop, get_or, length, take, Option, Some, None}
use mathlib.Core.List.{List, [], ◌++◌, ◌∷◌, append_assoc}
use Rattle.std.proofs.Common.{◌∙◌, ap, sym, arith, length-append, drop_at, take_at, eqb-true, eq-eqb}
use Rattle.std.proofs.lemmas.Option.{none-some, same_Some}
use Rattle.yaml_text.specs.declared.Mark.{Mark}
use Rattle.yaml_text.specs.Class.{same}
use Rattle.yaml_text.specs.Test.{both_true, by_test, true_false}
use Rattle.yaml_lexeme.specs.declared.Kind.{Kind as HeldKind}
use Rattle.yaml_lexeme.specs.declared.Kind.TheVariants as held
use Rattle.yaml_lexeme.specs.declared.Style.TheVariants.{DoubleQuoted, Folded, Literal, Plain, SingleQuoted}
use Rattle.yaml_lexeme.specs.declared.Token.{Token as HeldToken}
use Rattle.yaml_lexeme.specs.Table.{looked_up}
use Rattle.yaml_lexeme.specs.Token.{Token, token_bytes}
use Rattle.yaml_lexeme.specs.Record.{if_record, laid_token, number_of, record_of, record_words, records, style_number, token_by_number, token_of, values_of}

pub record_length : (t : HeldToken) → length (record_of t) ≡ record_words
unfolding record_of
record_length t = refl

pub records_length : (used : ℕ) (ts : List Token) → length (records used ts) ≡ length ts * record_words
unfolding records
records_length used [] = refl
records_length used (t ∷ ts) =
    let e = length-append (record_of (laid_token used t)) (records (used + length (token_bytes t)) ts) in
    let f = record_length (laid_token used t) in
    let g = records_length (used + length (token_bytes t)) ts in
    omega arith

-- records one by one: the first, and the others behind it
module _ (used : ℕ) (t : Token) (ts : List Token) (l : List ℕ) where
  abbrev others : List ℕ
  others = records (used + length (token_bytes t)) ts

  split : records used (t ∷ ts) ++ l ≡ record_of (laid_token used t) ++ (others ++ l)
  unfolding records
  split = append_assoc (record_of (laid_token used t)) others l

  pub first_record : take record_words (records used (t ∷ ts) ++ l) ≡ record_of (laid_token used t)
  first_record = rw split (take_at (record_of (laid_token used t)) (others ++ l) record_words (record_length (laid_token used t)))

  pub other_records : drop record_words (records used (t ∷ ts) ++ l) ≡ records (used + length (token_bytes t)) ts ++ l
  other_records = rw split (drop_at (record_of (laid_token used t)) (others ++ l) record_words (record_length (laid_token used t)))

-- the first word of a record is never 0: it is the number of a kind, and these begin at 1

pub number_some : (k : HeldKind) → 1 ≤ number_of k
unfolding number_of
number_some held.StreamStart = omega arith
number_some held.StreamEnd = omega arith
number_some (held.VersionDirective a b) = omega arith
number_some (held.TagDirective t u) = omega arith
number_some held.DocumentStart = omega arith
number_some held.DocumentEnd = omega arith
number_some held.ByteOrderMark = omega arith
number_some held.BlockSequenceStart = omega arith
number_some held.BlockMappingStart = omega arith
number_some held.BlockEnd = omega arith
number_some held.FlowSequenceStart = omega arith
number_some held.FlowSequenceEnd = omega arith
number_some held.FlowMappingStart = omega arith
number_some held.FlowMappingEnd = omega arith
number_some held.BlockEntry = omega arith
number_some held.FlowEntry = omega arith
number_some held.Key = omega arith
number_some held.Value = omega arith
number_some (held.Alias t) = omega arith
number_some (held.Anchor t) = omega arith
number_some (held.Tag t u) = omega arith
number_some (held.Scalar s t) = omega arith
number_some (held.ReservedDirective t u) = omega arith

pub record_some : (t : HeldToken) → 1 ≤ get_or (record_of t) 0 0
unfolding record_of
record_some t = number_some t.kind

-- the test of lists

pub same_itself : (l : List ℕ) → same l l ≡ true
unfolding same
same_itself [] = refl
same_itself (a ∷ l) = rw (eq-eqb a a refl, same_itself l)

pub same_true : (l m : List ℕ) → same l m ≡ true → l ≡ m
unfolding same
same_true [] [] e = refl
same_true [] (b ∷ m) e = true_false (sym e)
same_true (a ∷ l) [] e = true_false (sym e)
same_true (a ∷ l) (b ∷ m) e =
    let h = both_true (eqb a b) (same l m) e in
    rw (eqb-true a b h.0, same_true l m h.1)

-- the record of a token is that token's

of_number : (k : HeldKind) (start end : Mark) → token_by_number (record_of (record { kind = k; start = start; end = end })) ≡ Some (record { kind = k; start = start; end = end })
unfolding looked_up number_of style_number values_of record_of
of_number held.StreamStart start end = refl
of_number held.StreamEnd start end = refl
of_number (held.VersionDirective a b) start end = refl
of_number (held.TagDirective t u) start end = refl
of_number held.DocumentStart start end = refl
of_number held.DocumentEnd start end = refl
of_number held.ByteOrderMark start end = refl
of_number held.BlockSequenceStart start end = refl
of_number held.BlockMappingStart start end = refl
of_number held.BlockEnd start end = refl
of_number held.FlowSequenceStart start end = refl
of_number held.FlowSequenceEnd start end = refl
of_number held.FlowMappingStart start end = refl
of_number held.FlowMappingEnd start end = refl
of_number held.BlockEntry start end = refl
of_number held.FlowEntry start end = refl
of_number held.Key start end = refl
of_number held.Value start end = refl
of_number (held.Alias t) start end = refl
of_number (held.Anchor t) start end = refl
of_number (held.Tag t u) start end = refl
of_number (held.Scalar Plain t) start end = refl
of_number (held.Scalar SingleQuoted t) start end = refl
of_number (held.Scalar DoubleQuoted t) start end = refl
of_number (held.Scalar Literal t) start end = refl
of_number (held.Scalar Folded t) start end = refl
of_number (held.ReservedDirective t u) start end = refl

pub token_found : (t : HeldToken) → token_of (record_of t) ≡ Some t
unfolding token_of
token_found t =
    ap (λ (r : Option HeldToken). if_record (record_of t) r) (of_number t.kind t.start t.end) ∙ rw (same_itself (record_of t), if_record)

-- and no other words have it

if_found : (w : List ℕ) (r : Option HeldToken) (t : HeldToken) → if_record w r ≡ Some t → record_of t ≡ w
if_found w (Some u) t e =
    by_test (same (record_of u) w)
    (λ h. let g : Some u ≡ Some t = rw (h, if_record) at e in
    rw (sym (same_Some u t g)) (same_true (record_of u) w h))
    (λ h. let g : None ≡ Some t = rw (h, if_record) at e in absurd (none-some t g))
if_found w None t e = absurd (none-some t e)

pub found_record : (w : List ℕ) (t : HeldToken) → token_of w ≡ Some t → record_of t ≡ w
unfolding token_of
found_record w t e = if_found w (token_by_number w) t e

-- words of another length are no record
none_or : (w : List ℕ) (r : Option HeldToken) → token_of w ≡ r → ((t : HeldToken) → r ≡ Some t → ⊥) → token_of w ≡ None
none_or w (Some t) e h = absurd (h t refl)
none_or w None e h = e

pub no_record : (w : List ℕ) → (length w ≡ record_words → ⊥) → token_of w ≡ None
no_record w h = none_or w (token_of w) refl (λ t e. h (ap length (sym (found_record w t e)) ∙ record_length t))
