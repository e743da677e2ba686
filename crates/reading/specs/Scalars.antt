-- A scalar that was read, held against the definition's.
use Rattle.std.specs.Prelude.{◌%◌, ◌*◌, ◌^◌, ◌<◌, ◌≤◌, ℕ, List, Result, Ok, ◌≡◌, length}
use Rattle.std.proofs.Common.{arith}
use Rattle.std.proofs.lemmas.List.Edits.{sets}
use Rattle.yaml_text.specs.declared.Mark.{Mark}
use Rattle.yaml_text.specs.declared.Refusal.{Refusal}
use Rattle.yaml_text.specs.Mark as definition
use Rattle.yaml_text.specs.Refusal.{got}
use Rattle.yaml_text.specs.Utf8.{encode}
use Rattle.yaml_lexeme.specs.declared.Kind.TheVariants as kind
use Rattle.yaml_lexeme.specs.declared.Style.{Style}
use Rattle.yaml_lexeme.specs.Record.{laid}
use Rattle.yaml_lexeme.specs.Token.{Scalar, kind_bytes, lexeme}
use Rattle.chars.specs.declared.mark.Place.{Place}
use Rattle.chars.specs.View.{Stands, view}
use Rattle.reading.specs.declared.Lexeme.{Lexeme}
use Rattle.reading.specs.Reading.{Lexes, bytes_after, laid_read, seen, text_size}

-- a scalar of n bytes behind `used`, from `start` to the place where the reading goes on
abbrev pub scalar_at : Style → ℕ → ℕ → Mark → Place → Lexeme
scalar_at style used n start next =
    record { token = record { kind = kind.Scalar style (record { at = used; len = n % 2 ^ 32 }); start = start; end = next.mark }; next = next }

pub scalar_got : {text before after : List ℕ} {used n : ℕ} {style : Style} {t : List ℕ} {start : Mark} {next : Place} {p : definition.Place} {r : Result Lexeme Refusal}
    → view text next ≡ p → Stands text next → 1 ≤ next.at → length (encode t) ≡ n → n < 2 ^ 32 → n ≤ 3 * next.at → after ≡ sets before 0 (encode t)
    → r ≡ Ok (scalar_at style used n start next) → Lexes text before after used r (got (lexeme (Scalar style t) start p.mark p))
unfolding seen laid_read bytes_after text_size laid kind_bytes
scalar_got {n = n} e stands some size small few bytes f =
    let k : n % 2 ^ 32 ≡ n = omega arith in
    rw (f, k, ← e)
    (record { same = rw size; bytes = bytes; ahead = record { stands = stands; some = some; size = few } })
