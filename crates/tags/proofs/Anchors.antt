-- Anchors and aliases: the name behind the indicator.
use Rattle.std.specs.Prelude.{Result, Ok, Err}
use Prim.Native.Nat.{◌%◌, ◌-◌, ◌^◌, ℕ}
use mathlib.Core.Bool.{Bool, false, true}
use mathlib.Core.List.{List}
use mathlib.Core.Path.{◌∙◌, ◌≡◌, refl, sym}
use native.Mathlib.Omega.{arith}
use lib.ListN.{drop, length, replicate}
use lib.Seq.{sets}
use Rattle.yaml_text.specs.declared.Mark.{Mark}
use Rattle.yaml_text.specs.declared.Refusal.{Refusal}
use Rattle.yaml_text.specs.Class.{is_anchor}
use Rattle.yaml_text.specs.Mark.{Run, along, run_of}
use Rattle.yaml_text.specs.Pick.{pick}
use Rattle.yaml_text.specs.Refusal.{◌>>=◌, got, need}
use Rattle.yaml_text.specs.Utf8.{chars, encode}
use Rattle.yaml_lexeme.specs.declared.Kind.{Kind as HeldKind}
use Rattle.yaml_lexeme.specs.declared.Kind.TheVariants as kind
use Rattle.yaml_lexeme.specs.declared.Text.{Text}
use Rattle.yaml_lexeme.specs.Anchor.{scan_anchor}
use Rattle.yaml_lexeme.specs.Record.{laid, text_at}
use Rattle.yaml_lexeme.specs.Token.{Alias, Anchor, Kind, kind_bytes, lexeme, size}
use Rattle.chars.specs.declared.mark.Place.{Place}
use Rattle.chars.specs.Parts.{Spans, part}
use Rattle.chars.specs.View.{view}
use Rattle.reading.specs.declared.Lexeme.{Lexeme}
use Rattle.reading.specs.Answers.{behind_first, first_char, lexes_got, lexes_refused, word_small}
use Rattle.reading.specs.Reading.{Indicated, Lexes, first_at, text_size}
use Rattle.runs.specs.RunLaws.{span_none, span_size, span_some}

abbrev pub name : List ℕ → Mark → Run
name text start = run_of is_anchor (along start) (chars (drop 1 text))

-- an alias or an anchor, as code holds it, and as the definition has it
abbrev pub named : Bool → Text → HeldKind
named alias t = pick alias (kind.Alias t) (kind.Anchor t)

abbrev kind_of : Bool → List ℕ → Kind
kind_of alias t = pick alias (Alias t) (Anchor t)

named_laid : (alias : Bool) (used : ℕ) (t : List ℕ) → named alias (text_at used t) ≡ laid used (kind_of alias t)
unfolding laid
named_laid true used t = refl
named_laid false used t = refl

named_bytes : (alias : Bool) (t : List ℕ) → kind_bytes (kind_of alias t) ≡ encode t
unfolding kind_bytes
named_bytes true t = refl
named_bytes false t = refl

named_size : (alias : Bool) (t : Text) → text_size (named alias t) ≡ t.len
unfolding text_size
named_size true t = refl
named_size false t = refl

module _ {text before after : List ℕ} {start : Mark} {used : ℕ} {e : Place} (alias : Bool)
    (h : Indicated text start used) (s : Spans text (behind_first start) e (name text start)) where
  pub anchor_none : {r : Result Lexeme Refusal} → e.at ≡ 1 → r ≡ Err (record { number = 27; mark = start }) → after ≡ replicate (length before) 0
      → Lexes text before after used r (scan_anchor alias (view text (first_at start)))
  unfolding scan_anchor ◌>>=◌ need
  anchor_none z f l = lexes_refused f (rw ((first_char h).next, span_none s z)) l

  pub anchor_some : {t : Text} → (e.at ≡ 1 → ⊥) → t ≡ record { at = used; len = (e.at - 1) % 2 ^ 32 } → after ≡ sets before 0 (part text 1 e.at)
      → Lexes text before after used
      (Ok (record { token = record { kind = named alias t; start = start; end = e.mark }; next = e }))
      (scan_anchor alias (view text (first_at start)))
  unfolding scan_anchor ◌>>=◌ need
  anchor_some {t} z i b =
      let n = name text start in
      let g = s.moves in
      let l : (e.at - 1) % 2 ^ 32 ≡ size n.text = word_small h.given (e.at - 1) (omega (arith, g.stands)) ∙ sym (span_size s) in
      let t_is : t ≡ text_at used n.text = i ∙ rw l in
      let d : scan_anchor alias (view text (first_at start)) ≡ got (lexeme (kind_of alias n.text) start n.place.mark n.place)
      = rw ((first_char h).next, span_some s z) in
      lexes_got refl d
      (rw (t_is, named_laid alias used n.text, ← g.same))
      g.same
      (rw (named_bytes alias n.text, s.bytes) b)
      (record { stands = g.stands; some = g.onward; size = rw (named_size alias t, t_is, span_size s) (omega arith) })
