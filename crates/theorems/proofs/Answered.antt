-- Theorems about specs/Answered, and what rests on them.
use Rattle.std.specs.Prelude.{◌/◌, ℕ, List, ◌≡◌, ltb, replicate}
use Rattle.std.proofs.Common.{ap, sym, arith}
use Rattle.std.proofs.Math.Path.{refl}
use Rattle.std.proofs.Math.ListN.{length}
use borrow.Author.Tests.{ltb-false, ltb-true}
use Rattle.yaml_text.specs.declared.Mark.{Mark}
use Rattle.yaml_text.specs.Test.{by_test}
use Rattle.yaml_lexeme.specs.Token.{Token, texts}
use Rattle.yaml_lexeme.specs.Record.{record_words}
use Rattle.yaml_scan.specs.declared.Limits.{Limits}
use Rattle.yaml_scan.specs.Budget.{Ends}
use Rattle.yaml_scan.proofs.Budget.{outcome_ends}
use Rattle.yaml_scan.specs.Scan.{Answer, Outcome, accepted, answer, answer_for, blank_answer, lent, outcome, refusal, scanned, spent, stopped}
use Rattle.yaml_scan.specs.Slots.{tokens_of}
use Rattle.theorems.specs.Accepted.{Accepts}
use Rattle.theorems.specs.Tokens as tokens
use Rattle.theorems.specs.Bytes as bytes
use Rattle.theorems.proofs.Nesting.{closes_all, every_prefix}
use Rattle.theorems.proofs.Numbers.{has_rule}
use Rattle.theorems.specs.Answered.{Listed, Gives, Refuses, few_words, few_bytes, breaks_rule}

unfoldable pub listed : (limits : Limits) (text : List ℕ) (ts : List Token) → Accepts limits text ts → Listed limits text (length ts) (length (texts ts))
listed limits text ts a =
    record {
      list = ts;
      accepts = a;
      tokens_are = refl;
      decoded_are = refl;
      tokens_most = tokens.at_most limits text ts a;
      decoded_most = bytes.at_most limits text ts a;
      nested = λ us vs e. every_prefix limits text ts us vs a e;
      closed = closes_all limits text ts a;
    }

module _ (limits : Limits) (text : List ℕ) (w b : ℕ) where
  data Answered : Answer → Type 0 where
    gives : {t d : ℕ} {words bytes : List ℕ} → (Gives limits text w b) t d words bytes → Answered (record { verdict = accepted t d; words = words; bytes = bytes })
    refuses : {n : ℕ} {m : Mark} {t d : ℕ} → (Refuses limits text w b) n m t d → Answered (blank_answer (refusal n m t d) w b)

  by_room : (ts : List Token) → Accepts limits text ts → Answered (lent ts w b)
  unfolding lent listed
  by_room ts a =
      let x = listed limits text ts a in
      let t = length ts in
      let d = length (texts ts) in
      by_test (ltb (w / record_words) t)
      (λ e. rw (e, lent) (refuses (few_words x (ltb-true (w / record_words) t e))))
      (λ e. let h = ltb-false (w / record_words) t e in
      by_test (ltb b d)
      (λ f. rw (e, f, lent) (refuses (few_bytes x h (ltb-true b d f))))
      (λ f. rw (e, f, lent) (gives (record { listed_as = x; words_fit = h; bytes_fit = ltb-false b d f; words_are = refl; bytes_are = refl }))))

  answered : Answered (answer limits text w b)
  unfolding answer answer_for
  answered = by_outcome (outcome limits text) refl (outcome_ends limits text)
    where
      by_outcome : (o : Outcome) → outcome limits text ≡ o → Ends o → Answered (answer_for o w b)
      by_outcome (scanned es) e h = by_room (tokens_of es) (record { events = es; accepted = e; list = refl })
      by_outcome (stopped n m) e h = refuses (breaks_rule e (has_rule limits text n m e))
      by_outcome spent e h = absurd h

  module _ {words bytes : List ℕ} where
    pub accepted_gives : {t d : ℕ} → record { verdict = accepted t d; words = words; bytes = bytes } ≡ answer limits text w b → (Gives limits text w b) t d words bytes
    accepted_gives {t} {d} e = by_answer (rw (sym e) at answered) refl
      where
        by_answer : {a : Answer} → Answered a → a ≡ record { verdict = accepted t d; words = words; bytes = bytes } → (Gives limits text w b) t d words bytes
        by_answer (gives {t = t'} {d = d'} {words = words'} {bytes = bytes'} g) q =
            let v = ap (λ (a : Answer). a.verdict) q in
            let i : t' ≡ t = cc in
            let j : d' ≡ d = cc in
            let k : words' ≡ words = ap (λ (a : Answer). a.words) q in
            let l : bytes' ≡ bytes = ap (λ (a : Answer). a.bytes) q in
            rw (i, j, k, l) at g
        by_answer (refuses h) q = let v = ap (λ (a : Answer). a.verdict) q in let z : ◌≡◌ {A = ℕ} 0 1 = cc in absurd (omega arith)

    pub refused_says : {n : ℕ} {m : Mark} {t d : ℕ} → record { verdict = refusal n m t d; words = words; bytes = bytes } ≡ answer limits text w b
        → (Refuses limits text w b) n m t d × (words ≡ replicate w 0) × (bytes ≡ replicate b 0)
    refused_says {n} {m} {t} {d} e = by_answer (rw (sym e) at answered) refl
      where
        by_answer : {a : Answer} → Answered a → a ≡ record { verdict = refusal n m t d; words = words; bytes = bytes }
            → (Refuses limits text w b) n m t d × (words ≡ replicate w 0) × (bytes ≡ replicate b 0)
        by_answer (gives g) q = let v = ap (λ (a : Answer). a.verdict) q in let z : ◌≡◌ {A = ℕ} 0 1 = cc in absurd (omega arith)
        by_answer (refuses {n = n'} {m = m'} {t = t'} {d = d'} h) q =
            let v = ap (λ (a : Answer). a.verdict) q in
            let i : n' ≡ n = cc in
            let j : m' ≡ m = cc in
            let k : t' ≡ t = cc in
            let l : d' ≡ d = cc in
            (rw (i, j, k, l) at h, sym (ap (λ (a : Answer). a.words) q), sym (ap (λ (a : Answer). a.bytes) q))
