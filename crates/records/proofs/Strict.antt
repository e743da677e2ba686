-- The token of a record: the one by its number, if the words are its record.
use Prim.Native.Nat.{◌+◌, ◌<◌, ℕ}
use mathlib.Core.Bool.{Bool, false, true}
use Rattle.std.specs.Bool.{Decides, then_some}
use Rattle.std.specs.Option.{MatchOption}
use Rattle.std.proofs.lemmas.Bool.Decides.{same_from_decides}
use Rattle.std.proofs.lemmas.Slice.Eq.{compares_Decides}
use mathlib.Core.List.{List}
use mathlib.Core.Path.{◌∙◌, ◌≡◌, ap, sym}
use Rattle.std.proofs.Common.{rules}
use native.Mathlib.Omega.{arith}
use lib.ListN.{drop, length, length-drop, length-take, take}
use Rattle.yaml_text.specs.Class.{same}
use Rattle.std.specs.Prelude.{Option, Some, None}
use Rattle.yaml_lexeme.specs.declared.Token.{Token}
use Rattle.yaml_lexeme.specs.Record.{if_record, record_of, record_words, token_by_number, token_of}
use Rattle.yaml_lexeme.specs.RecordLaws.{no_record}

same_decides : (l m : List ℕ) → Decides (same l m) (l ≡ m)
unfolding same
same_decides = compares_Decides same (search rules)

-- the token by the number of words, where the words are its record
pub its_token : {P : Token → Bool → Type 0} (w : List ℕ) (p r : Option Token) → p ≡ token_by_number w → ((t : Token) (b : Bool) → P t b → Decides b (record_of t ≡ w))
    → MatchOption p (r ≡ None) (λ t. (b : Bool) × P t b × (r ≡ then_some b t)) → r ≡ token_of w
unfolding token_of
its_token w None r e f m = m ∙ ap (λ (p : Option Token). if_record w p) e
its_token w (Some t) r e f m = if_its w t r m.0 (same_from_decides m.0 (same (record_of t) w) (f t m.0 m.1) (same_decides (record_of t) w)) m.2 ∙ ap (λ (p : Option Token). if_record w p) e
  where
    if_its : (w : List ℕ) (t : Token) (r : Option Token) (b : Bool) → b ≡ same (record_of t) w → r ≡ then_some b t → r ≡ if_record w (Some t)
    if_its w t r true g h = h ∙ rw (sym g, if_record)
    if_its w t r false g h = h ∙ rw (sym g, if_record)

-- fewer words than a record has
pub too_short : (l : List ℕ) (at : ℕ) → length l < at + record_words → None ≡ token_of (take record_words (drop at l))
too_short l at h = sym (no_record (take record_words (drop at l)) (λ e. absurd (omega (arith, length-take record_words (drop at l), length-drop at l))))
