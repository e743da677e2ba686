-- Calls of the stream from a fresh state, up to the one that ends it.
use Rattle.std.specs.Prelude.{ℕ, List, [], ◌++◌, ◌≡◌, refl, length, replicate, Result, Ok}
use Rattle.std.proofs.Common.{◌∙◌, subst}
use Rattle.yaml_text.specs.declared.Refusal.{Refusal}
use Rattle.yaml_scan.specs.Scan.{standard}
use Rattle.driver.specs.Held.{held_words, phase_at, until_at, word}
use Rattle.stream.specs.declared.Next.{Next}
use Rattle.stream.specs.declared.Next.TheVariants.{Ended, Token}
use Rattle.stream.specs.Holds.{Promises}
use Rattle.stream.specs.Run.{Run, more, none, run_ended, run_gave, zeros_fresh}
use Rattle.tokens.specs.Accepted.{Accepted}

-- each call so far gave a token; the rooms keep their lengths
pub record Going (text words₀ bytes₀ words bytes held : List ℕ) : Type 0 where
  pub same_words : length words ≡ length words₀
  pub same_bytes : length bytes ≡ length bytes₀
  pub start : List ℕ
  pub phase : word start phase_at ≡ 0
  pub until : word start until_at ≡ 0
  pub records : List ℕ
  pub run : Run standard text start words₀ bytes₀ records held words bytes

pub going_start : (text words bytes : List ℕ) → Going text words bytes words bytes (replicate held_words 0)
going_start text words bytes =
    record {
      same_words = refl;
      same_bytes = refl;
      start = replicate held_words 0;
      phase = zeros_fresh.0;
      until = zeros_fresh.1;
      records = [];
      run = none;
    }

module _ {text words₀ bytes₀ words bytes held held' words' bytes' r : List ℕ} {a : Result Next Refusal} (g : Going text words₀ bytes₀ words bytes held)
    (p : Promises standard text held words bytes held' words' bytes' r a) where
  answered : {b : Result Next Refusal} → a ≡ b → Promises standard text held words bytes held' words' bytes' r b
  answered e = subst (λ (n : Result Next Refusal). Promises standard text held words bytes held' words' bytes' r n) e p

  -- one token more
  pub going_on : a ≡ Ok Token → length words' ≡ length words → length bytes' ≡ length bytes → Going text words₀ bytes₀ words' bytes' held'
  going_on e j k =
      record {
        same_words = j ∙ g.same_words;
        same_bytes = k ∙ g.same_bytes;
        start = g.start;
        phase = g.phase;
        until = g.until;
        records = g.records ++ r;
        run = more g.run j k (answered e);
      }

  -- "ended"
  pub going_ended : a ≡ Ok Ended → Accepted text
  going_ended e = let f = run_ended (run_gave g.phase g.until g.run) (answered e) in (f.0, f.1)
