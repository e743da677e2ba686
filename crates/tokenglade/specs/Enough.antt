-- Demand 3 of the six numbers, from them back to the list: the first is 0 where the text is accepted, and only there.
use Rattle.std.specs.Prelude.{◌*◌, ◌+◌, ◌/◌, ◌≤◌, ℕ, List, ◌⊎◌, ◌≡◌, refl, get_or, length, replicate}
use Rattle.std.proofs.Common.{inl, inr, ⊎_elim, arith}
use Rattle.yaml_text.specs.Utf8.{chars}
use Rattle.yaml_lexeme.specs.Record.{mark_in, record_words}
use Rattle.yaml_scan.specs.Budget.{Decided}
use Rattle.yaml_scan.proofs.Budget.{answer_decided}
use Rattle.yaml_scan.specs.Scan.{Verdict, accepted, answer, no_verdict, outcome, refusal, standard, stopped}
use Rattle.theorems.specs.Answered.{Gives, Refuses, Ruled, enough_room, refused_number}
use Rattle.theorems.proofs.Answered.{accepted_gives, refused_says}
use Rattle.tokenglade.specs.Numbers.{GivesNumbers, numbers}

module _ (text words₀ bytes₀ words bytes ns : List ℕ) where
  -- accepted: there is demand 2's list, of T tokens and D decoded bytes, and the words and bytes are its own
  abbrev pub Accepted : Type 0
  Accepted = (get_or ns 0 0 ≡ 0) × Gives standard text (length words₀) (length bytes₀) (get_or ns 4 0) (get_or ns 5 0) words bytes

  -- refused: by 4 or 5, and there is such a list all the same; or by a rule. Words and bytes are zero
  abbrev pub Refused : Type 0
  Refused =
      (1 ≤ get_or ns 0 0)
      × Refuses standard text (length words₀) (length bytes₀) (get_or ns 0 0) (mark_in ns 1) (get_or ns 4 0) (get_or ns 5 0)
      × (words ≡ replicate (length words₀) 0)
      × (bytes ≡ replicate (length bytes₀) 0)

  by_verdict : (v : Verdict) → Decided v → ns ≡ numbers v
      → record { verdict = v; words = words; bytes = bytes } ≡ answer standard text (length words₀) (length bytes₀) → Accepted ⊎ Refused
  by_verdict (accepted t d) h q e = rw q (inl (refl, accepted_gives standard text (length words₀) (length bytes₀) e))
  by_verdict (refusal n m t d) h q e =
      let r = refused_says standard text (length words₀) (length bytes₀) e in
      rw q (inr (refused_number standard text (length words₀) (length bytes₀) r.0, r.0, r.1, r.2))
  by_verdict no_verdict h q e = absurd h

  module _ (p : GivesNumbers text words₀ bytes₀ words bytes ns) where
    either : Accepted ⊎ Refused
    either =
        by_verdict (answer standard text (length words₀) (length bytes₀)).verdict (answer_decided standard text (length words₀) (length bytes₀)) p.told
        (rw (p.words_left, p.bytes_left))

    pub accepts : get_or ns 0 0 ≡ 0 → Accepted
    accepts e = ⊎_elim (λ h. h) (λ h. absurd (omega (arith, h.0))) either

    pub refuses : 1 ≤ get_or ns 0 0 → Refused
    refuses e = ⊎_elim (λ h. absurd (omega (arith, h.0))) (λ h. h) either

    -- with room for 2c + 3 records and 3b / 2 bytes a refusal has its rule, and T and D, which 4 and 5 tell, are 0
    pub enough : (2 * length (chars text) + 3) * record_words ≤ length words₀ → 3 * length text / 2 ≤ length bytes₀ → 1 ≤ get_or ns 0 0
        → (outcome standard text ≡ stopped (get_or ns 0 0) (mark_in ns 1)) × Ruled (get_or ns 0 0) × (get_or ns 4 0 ≡ 0) × (get_or ns 5 0 ≡ 0)
    enough h k e = enough_room standard text (length words₀) (length bytes₀) h k (refuses e).1
