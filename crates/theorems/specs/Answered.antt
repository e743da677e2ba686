-- Demand 3 of the whole answer, whatever the room lent: from what is answered back to the list. Where a text is accepted, or refused by
-- 4 or 5, the rules accept it, and T and D are the counts of its list, which is demand 2's; any other refusal has its rule.
use Rattle.std.specs.Prelude.{◌*◌, ◌+◌, ◌/◌, ◌<◌, ◌≤◌, ℕ, List, [], ◌++◌, ◌∷◌, ◌⊎◌, ◌≡◌}
use Rattle.std.proofs.Common.{⊎_elim, arith}
use Rattle.std.proofs.Math.Path.{refl}
use Rattle.std.proofs.Math.ListN.{length}
use Rattle.yaml_text.specs.declared.Mark.{Mark}
use Rattle.yaml_text.specs.Mark.{origin}
use Rattle.yaml_text.specs.Utf8.{chars}
use Rattle.yaml_lexeme.specs.Token.{StreamEnd, Token, empty_token, texts}
use Rattle.yaml_lexeme.specs.Record.{record_words, records}
use Rattle.yaml_lexeme.specs.Role.{Open}
use Rattle.yaml_scan.specs.declared.Limits.{Limits}
use Rattle.yaml_scan.specs.Scan.{filled, outcome, stopped}
use Rattle.theorems.specs.Accepted.{Accepts}
use Rattle.theorems.specs.Nested.{Nested}

-- the rules accept the text, of c characters and b bytes; its list has t tokens and d decoded bytes
pub record Listed (limits : Limits) (text : List ℕ) (t d : ℕ) : Type 0 where
  pub list : List Token
  pub accepts : Accepts limits text list
  pub tokens_are : t ≡ length list
  pub decoded_are : d ≡ length (texts list)
  -- t ≤ 2c + 3, 2d ≤ 3b
  pub tokens_most : t ≤ 2 * length (chars text) + 3
  pub decoded_most : 2 * d ≤ 3 * length text
  -- each end closes the latest start still open, of its own kind; StreamEnd comes last, and there none is open
  pub nested : (us vs : List Token) → list ≡ us ++ vs → (os : List Open) × Nested [] us os
  pub closed : (us : List Token) × (m : Mark) × (list ≡ us ++ (empty_token StreamEnd m ∷ [])) × Nested [] us []

-- the rules have these numbers
abbrev pub Ruled : ℕ → Type 0
Ruled n = ((1 ≤ n) × (n ≤ 3)) ⊎ ((10 ≤ n) × (n ≤ 49))

-- what an answer says where w words and b bytes are lent
module _ (limits : Limits) (text : List ℕ) (w b : ℕ) where
  -- accepted: there is room, and the words and bytes are the list's, zeros behind them
  pub record Gives (t d : ℕ) (words bytes : List ℕ) : Type 0 where
    pub listed_as : Listed limits text t d
    pub words_fit : t ≤ w / record_words
    pub bytes_fit : d ≤ b
    pub words_are : words ≡ filled w (records 0 listed_as.list)
    pub bytes_are : bytes ≡ filled b (texts listed_as.list)

  -- refused, by its number, mark, T and D
  pub data Refuses : ℕ → Mark → ℕ → ℕ → Type 0 where
    few_words : {t d : ℕ} → Listed limits text t d → w / record_words < t → Refuses 4 origin t d
    few_bytes : {t d : ℕ} → Listed limits text t d → t ≤ w / record_words → b < d → Refuses 5 origin t d
    breaks_rule : {n : ℕ} {m : Mark} → outcome limits text ≡ stopped n m → Ruled n → Refuses n m 0 0

  -- a refusal's number is not 0
  pub refused_number : {n : ℕ} {m : Mark} {t d : ℕ} → Refuses n m t d → 1 ≤ n
  refused_number (few_words x h) = omega arith
  refused_number (few_bytes x h k) = omega arith
  refused_number (breaks_rule e r) = ⊎_elim (λ k. k.0) (λ k. omega (arith, k)) r

  -- with room for 2c + 3 records and 3b / 2 bytes it has its rule, and T and D, which 4 and 5 tell, are 0
  pub enough_room : {n : ℕ} {m : Mark} {t d : ℕ} → (2 * length (chars text) + 3) * record_words ≤ w → 3 * length text / 2 ≤ b → Refuses n m t d
      → (outcome limits text ≡ stopped n m) × Ruled n × (t ≡ 0) × (d ≡ 0)
  enough_room h k (few_words x l) = absurd (omega (arith, x.tokens_most))
  enough_room h k (few_bytes x l i) = absurd (omega (arith, x.decoded_most))
  enough_room h k (breaks_rule e r) = (e, r, refl, refl)
