-- Demand 3 of the entry, said of every answer that keeps its promise: from the answer back to the list, whatever the room lent; and with
-- room for 2c + 3 records and 3b / 2 bytes, where the text has c characters and b bytes, a text that the rules accept is accepted.
use Rattle.std.specs.Prelude.{◌*◌, ◌+◌, ◌/◌, ◌≤◌, ℕ, List, ◌≡◌, length, replicate, Result, Ok, Err}
use Rattle.std.proofs.Common.{◌∙◌, ap, arith}
use Rattle.yaml_text.specs.Utf8.{chars}
use Rattle.yaml_lexeme.specs.Token.{Token, texts}
use Rattle.yaml_lexeme.specs.Record.{record_words}
use Rattle.yaml_scan.specs.declared.Limits.{Limits}
use Rattle.yaml_scan.specs.Scan.{accepted, outcome, stopped}
use Rattle.yaml_scan.specs.Scan as definition
use Rattle.theorems.specs.Accepted.{Accepts}
use Rattle.theorems.specs.Answered.{Gives, Refuses, Ruled, enough_room}
use Rattle.theorems.proofs.Answered.{accepted_gives, refused_says}
use Rattle.theorems.proofs.Room as room
use Rattle.scanner.specs.declared.Refused.{Refused}
use Rattle.scanner.specs.declared.Sizes.{Sizes}
use Rattle.scanner.specs.Promise.{Answers, verdict_of}

module _ (limits : Limits) (text words₀ bytes₀ words bytes : List ℕ) where
  -- accepted: there is demand 2's list, of t tokens and d decoded bytes, within 2c + 3 and 3b / 2, nested, and the words and bytes are its own
  pub gives : {n : Sizes} → Answers limits text words₀ bytes₀ words bytes (Ok n) → Gives limits text (length words₀) (length bytes₀) n.tokens n.bytes words bytes
  gives p = accepted_gives limits text (length words₀) (length bytes₀) p

  -- refused: by 4 or 5, and there is such a list all the same; or by a rule. Words and bytes are zero
  pub refuses : {r : Refused} → Answers limits text words₀ bytes₀ words bytes (Err r)
      → Refuses limits text (length words₀) (length bytes₀) r.refusal.number r.refusal.mark r.sizes.tokens r.sizes.bytes × (words ≡ replicate (length words₀) 0) × (bytes ≡ replicate (length bytes₀) 0)
  refuses p = refused_says limits text (length words₀) (length bytes₀) p

  module _ (records : (2 * length (chars text) + 3) * record_words ≤ length words₀) (decoded : 3 * length text / 2 ≤ length bytes₀) where
    -- a text that the rules accept is accepted
    pub enough_accepts : (r : Result Sizes Refused) (ts : List Token) → Answers limits text words₀ bytes₀ words bytes r → Accepts limits text ts
        → r ≡ Ok (record { tokens = length ts; bytes = length (texts ts) })
    enough_accepts r ts p a =
        accepted_as r (ap (λ (x : definition.Answer). x.verdict) p ∙ room.enough limits text ts (length words₀) (length bytes₀) a records decoded)
      where
        accepted_as : (r : Result Sizes Refused) {t d : ℕ} → verdict_of r ≡ accepted t d → r ≡ Ok (record { tokens = t; bytes = d })
        accepted_as (Ok n) {t} {d} e = let p : n.tokens ≡ t = cc in let q : n.bytes ≡ d = cc in rw (← p, ← q)
        accepted_as (Err f) e = let z : ◌≡◌ {A = ℕ} 0 1 = cc in absurd (omega arith)

    -- so a refusal is neither 4 nor 5, and T and D, which these tell, are 0
    pub enough_refuses : {r : Refused} → Answers limits text words₀ bytes₀ words bytes (Err r)
        → (outcome limits text ≡ stopped r.refusal.number r.refusal.mark) × Ruled r.refusal.number × (r.sizes.tokens ≡ 0) × (r.sizes.bytes ≡ 0)
    enough_refuses p = enough_room limits text (length words₀) (length bytes₀) records decoded (refuses p).0
