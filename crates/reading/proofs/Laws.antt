-- Line feeds, one store a turn: what is left gives the whole. And what a refusal clears.
use Prim.Native.Nat.{◌+◌, ◌-◌, ◌<◌, suc, ℕ}
use Rattle.std.specs.Prelude.{false, true, Result, Ok, Err, is_err}
use mathlib.Core.List.{List}
use mathlib.Core.Path.{◌∙◌, ◌≡◌, ap, refl}
use native.Mathlib.Omega.{arith}
use lib.ListN.{length, length-set, replicate, set}
use lib.Seq.{sets}
use Rattle.yaml_text.specs.declared.Refusal.{Refusal}
use Rattle.reading.specs.declared.Lexeme.{Lexeme}
use Rattle.reading.specs.Reading.{Clears, cleared}

pub record Breaking (before : List ℕ) (n k : ℕ) (out : List ℕ) (i : ℕ) : Type 0 where
  pub same : length out ≡ length before
  pub whole : sets before n (replicate k 10) ≡ sets out (n + i) (replicate (k - i) 10)

pub breaks_more : {before out next : List ℕ} {n k i : ℕ} → Breaking before n k out i → i < k → next ≡ set out (n + i) 10
    → Breaking before n k next (i + 1)
breaks_more {before} {out} {next} {n} {k} {i} b h f =
    let l : k - i ≡ suc (k - (i + 1)) = omega arith in
    let s : suc (n + i) ≡ n + (i + 1) = omega arith in
    record {
      same = ap length f ∙ length-set out (n + i) 10 ∙ b.same;
      whole = b.whole ∙ rw (l, f, ← s);
    }

pub clears_kept : {before : List ℕ} (r : Result Lexeme Refusal) → is_err r ≡ false → Clears before before r r
unfolding cleared
clears_kept (Ok l) e = record { same = refl; bytes = refl }
clears_kept (Err f) e = cc

pub clears_refused : {before after : List ℕ} (r : Result Lexeme Refusal) → is_err r ≡ true → after ≡ replicate (length before) 0 → Clears before after r r
unfolding cleared
clears_refused (Ok l) e g = cc
clears_refused (Err f) e g = record { same = refl; bytes = g }
