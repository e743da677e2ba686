-- The entry's answer, held against the definition's.
use Rattle.std.specs.Prelude.{◌*◌, ◌/◌, ◌<◌, ◌^◌, ◌≤◌, ℕ, false, true, List, ◌≡◌, ltb, length, Result, Ok, Err}
use Rattle.std.proofs.Common.{arith}
use Rattle.yaml_text.specs.Mark.{origin}
use Rattle.yaml_lexeme.specs.Record.{record_words}
use Rattle.yaml_scan.specs.declared.Limits.{Limits}
use Rattle.yaml_scan.specs.Scan.{Verdict, accepted, answer, blank_answer, refusal, standard}
use Rattle.yaml_scan.specs.Scan as definition
use Rattle.rooms.specs.Room.{cleared}
use Rattle.stacks.specs.Most.{at_most, at_most_fits, at_most_stays}
use Rattle.events.specs.declared.Counts.{Counts}
use Rattle.sink.specs.Settle.{front, settled_words, total_records}
use Rattle.sink.specs.Stored.{tokens_counted}
use Rattle.driver.specs.Held.{Modest}
use Rattle.scanner.specs.declared.Refused.{Refused}
use Rattle.scanner.specs.declared.Sizes.{Sizes}

-- 01's numbers of an answer
abbrev pub verdict_of : Result Sizes Refused → Verdict
verdict_of (Ok n) = accepted n.tokens n.bytes
verdict_of (Err r) = refusal r.refusal.number r.refusal.mark r.sizes.tokens r.sizes.bytes

-- an answer, with what both rooms hold then
abbrev pub answer_of : Result Sizes Refused → List ℕ → List ℕ → definition.Answer
answer_of r words bytes = record { verdict = verdict_of r; words = words; bytes = bytes }

-- what the entry promises of a text and rooms with these contents: its answer and what both rooms hold then are the definition's
abbrev pub Answers : Limits → List ℕ → List ℕ → List ℕ → List ℕ → List ℕ → Result Sizes Refused → Type 0
Answers limits text words₀ bytes₀ words bytes r = answer_of r words bytes ≡ answer limits text (length words₀) (length bytes₀)

-- a limit above 01's counts as 01's

abbrev pub capped : Limits → Limits
capped limits =
    record {
      bytes = at_most standard.bytes limits.bytes;
      levels = at_most standard.levels limits.levels;
      entries = at_most standard.entries limits.entries;
    }

-- it is at most 01's

pub capped_modest : (limits : Limits) → Modest (capped limits)
capped_modest limits =
    record {
      bytes = at_most_fits standard.bytes limits.bytes;
      levels = at_most_fits standard.levels limits.levels;
      entries = at_most_fits standard.entries limits.entries;
    }

pub standard_modest : Modest standard
standard_modest = record { bytes = omega arith; levels = omega arith; entries = omega arith }

-- limits that are at most 01's count as they are
pub modest_stays : {limits : Limits} → Modest limits → capped limits ≡ limits
modest_stays {limits} h =
    rw (at_most_stays standard.bytes limits.bytes h.bytes, at_most_stays standard.levels limits.levels h.levels, at_most_stays standard.entries limits.entries h.entries)

-- records that may be settled, if there is room
pub record Settles (n : Counts) (words : List ℕ) : Type 0 where
  pub small : tokens_counted n < 2 ^ 32
  pub number : tokens_counted n * record_words ≤ length words → tokens_counted n ≡ total_records (front n.count words)

-- the answer for what was stored, by how much was said: as the definition's `lent`
unfoldable pub lent_of : Counts → List ℕ → List ℕ → definition.Answer
lent_of n words bytes =
    elim (ltb (length words / record_words) (tokens_counted n)) [
      | true ↦ blank_answer (refusal 4 origin (tokens_counted n) n.used) (length words) (length bytes)
      | false ↦ elim (ltb (length bytes) n.used) [
        | true ↦ blank_answer (refusal 5 origin (tokens_counted n) n.used) (length words) (length bytes)
        | false ↦ record { verdict = accepted (tokens_counted n) n.used; words = cleared (settled_words n.count words) (tokens_counted n * record_words); bytes = cleared bytes n.used }
      ]
    ]
