-- What follows a quoted scalar.
use Rattle.std.specs.Prelude.{◌%◌, ◌^◌, ℕ, Bool, List, Result, ◌≡◌, eqb}
use Rattle.yaml_text.specs.declared.Refusal.{Refusal}
use Rattle.yaml_text.specs.Mark.{Place, Run, look}
use Rattle.yaml_text.specs.Pick.{pick}
use Rattle.yaml_text.specs.Refusal.{Read, ◌>>=◌, got, need}
use Rattle.yaml_lexeme.specs.declared.Kind.TheVariants as kind
use Rattle.yaml_lexeme.specs.declared.Style.{Style}
use Rattle.yaml_lexeme.specs.declared.Style.TheVariants.{DoubleQuoted, SingleQuoted}
use Rattle.yaml_lexeme.specs.Gap.{blanks_and_comment}
use Rattle.yaml_lexeme.specs.Quoted.{Quote, fits_after}
use Rattle.yaml_lexeme.specs.Token.{Scalar, lexeme}
use Rattle.yaml_lexeme.specs.Token as tokens
use Rattle.reading.specs.declared.Lexeme.{Lexeme}
use Rattle.reading.specs.Reading.{ReadsAhead, Seen, seen}

abbrev pub style_of : Quote → Style
style_of q = pick q.single SingleQuoted DoubleQuoted

-- what ends at the place e; 40: what may follow it
abbrev pub followed : {A : Type 0} → Bool → Quote → (Place → A) → Place → Read A
followed flow q f e = need (fits_after flow (eqb q.start.line e.mark.line) (look e)) 40 e.mark >>= λ _. got (f e)

abbrev pub scalar_to : Quote → List ℕ → Place → tokens.Lexeme
scalar_to q t e = lexeme (Scalar (style_of q) t) q.start e.mark e

-- the same as code holds it, of n bytes of text behind those used so far
abbrev pub held_to : Quote → ℕ → ℕ → Place → Seen
held_to q used n e = record { token = record { kind = kind.Scalar (style_of q) (record { at = used; len = n % 2 ^ 32 }); start = q.start; end = e.mark }; place = e }

-- the blanks and comment behind the run r
unfoldable pub after_run : Bool → Quote → Run → Read tokens.Lexeme
after_run flow q r = blanks_and_comment r.place >>= followed flow q (scalar_to q r.text)

unfoldable pub held_after : Bool → Quote → ℕ → ℕ → Place → Read Seen
held_after flow q used n p = blanks_and_comment p >>= followed flow q (held_to q used n)

pub record Follows (text : List ℕ) (r : Result Lexeme Refusal) (d : Read Seen) : Type 0 where
  pub same : seen text r ≡ d
  pub ahead : ReadsAhead text r
