-- A reserved directive, by its name and its parameters.
use Rattle.std.specs.Prelude.{Ok}
use Prim.Native.Nat.{◌%◌, ◌+◌, ◌-◌, ◌^◌, ℕ}
use mathlib.Core.Bool.{false}
use mathlib.Core.List.{List}
use mathlib.Core.Path.{◌≡◌, refl}
use native.Mathlib.Omega.{arith}
use lib.ListN.{drop}
use lib.Seq.{sets}
use Rattle.yaml_text.specs.declared.Mark.{Mark}
use Rattle.yaml_text.specs.Refusal.{◌>>=◌, got}
use Rattle.yaml_text.specs.Utf8.{chars}
use Rattle.yaml_lexeme.specs.declared.Kind.TheVariants as kind
use Rattle.yaml_lexeme.specs.declared.Text.{Text}
use Rattle.yaml_lexeme.specs.Directive.{parameters, reserved_directive}
use Rattle.yaml_lexeme.specs.Record.{laid}
use Rattle.yaml_lexeme.specs.Token.{ReservedDirective, kind_bytes}
use Rattle.chars.specs.declared.mark.Place.{Place}
use Rattle.chars.specs.Parts.{part}
use Rattle.chars.specs.View.{view}
use Rattle.reading.specs.declared.Written.{Written}
use Rattle.reading.specs.Answers.{Reads}
use Rattle.reading.specs.Reading.{text_size}
use Rattle.runs.specs.Run.{Writes}
use Rattle.runs.specs.RunLaws.{Ran, ran}
use Rattle.directives.specs.Name.{NameAt, name_in}
use Rattle.directives.proofs.Spans.{span_front}
use Rattle.directives.proofs.Texts.{Pairs, held_reads, texts_held}

reserved_pairs : Pairs ReservedDirective kind.ReservedDirective
unfolding laid kind_bytes text_size
reserved_pairs = record { laid_is = λ used t u. refl; bytes_is = λ t u. refl; size_is = λ a b. refl }

module _ {text mid after : List ℕ} {x : Written} {p : Place}
    (w : Writes text mid after p (p.at - 1) (Ok x) (got (parameters false false p.mark (chars (drop p.at text))))) where
  pub joined : Ran text mid after p (p.at - 1) x (got (parameters false false p.mark (chars (drop p.at text))))
  joined = ran w refl

  pub reserved_got : {before : List ℕ} {start : Mark} {used : ℕ} {a b : Text} {y : ℕ} → NameAt text start used p
      → mid ≡ sets before 0 (part text 1 p.at)
      → a ≡ record { at = used; len = (p.at - 1) % 2 ^ 32 } → y ≡ (p.at - 1) % 2 ^ 32 → b ≡ record { at = used + y; len = (x.count - (p.at - 1)) % 2 ^ 32 }
      → Reads text before after used
      (Ok (record { token = record { kind = kind.ReservedDirective a b; start = start; end = x.place.mark }; next = x.place }))
      (got (reserved_directive start (name_in text start).text (view text p)))
  unfolding reserved_directive ◌>>=◌
  reserved_got h c ta tx tb =
      let o = h.name.moves.onward in
      let e = texts_held reserved_pairs h.indicated.given (omega arith) o joined refl ta tx tb in
      held_reads reserved_pairs (got (parameters false false p.mark (chars (drop p.at text)))) (span_front h.name c) e
