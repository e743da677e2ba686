-- A token of two texts, the other of which was read and written behind the first.
use Rattle.std.specs.Prelude.{Result, Ok}
use Prim.Native.Nat.{◌%◌, ◌+◌, ◌-◌, ◌^◌, ◌≤◌, ℕ}
use mathlib.Core.List.{List, ◌++◌}
use mathlib.Core.Path.{◌∙◌, ◌≡◌, ap, refl}
use lib.ListN.{length}
use lib.Seq.{length-sets}
use native.Mathlib.Omega.{arith}
use Rattle.yaml_text.specs.declared.Mark.{Mark}
use Rattle.yaml_text.specs.declared.Refusal.{Refusal}
use Rattle.yaml_text.specs.All.{all_got, holds, not_read}
use Rattle.yaml_text.specs.Mark as definition
use Rattle.yaml_text.specs.Refusal.{Read, ◌>>=◌, got, refused}
use Rattle.yaml_text.specs.Utf8.{encode}
use Rattle.yaml_lexeme.specs.declared.Kind.{Kind as HeldKind}
use Rattle.yaml_lexeme.specs.declared.Text.{Text}
use Rattle.yaml_lexeme.specs.Record.{laid, text_at}
use Rattle.yaml_lexeme.specs.Token.{Kind, kind_bytes, lexeme, size}
use Rattle.chars.specs.declared.mark.Place.{Place}
use Rattle.reading.specs.declared.Lexeme.{Lexeme}
use Rattle.reading.specs.declared.Written.{Written}
use Rattle.reading.specs.Answers.{Reads, word_small}
use Rattle.reading.specs.Reading.{ReaderGiven, laid_read, seen, text_size}
use Rattle.runs.specs.RunLaws.{Ran}
use Rattle.directives.specs.Front.{Fronts, HoldsTexts, held_texts}
use Rattle.directives.proofs.Spans.{front_behind, front_kept}

-- a kind of two texts, as the definition has it and as code holds it
pub record Pairs (one : List ℕ → List ℕ → Kind) (held : Text → Text → HeldKind) : Type 0 where
  pub laid_is : (used : ℕ) (t u : List ℕ) → laid used (one t u) ≡ held (text_at used t) (text_at (used + size t) u)
  pub bytes_is : (t u : List ℕ) → kind_bytes (one t u) ≡ encode t ++ encode u
  pub size_is : (a b : Text) → text_size (held a b) ≡ a.len + b.len

module _ {one : List ℕ → List ℕ → Kind} {held : Text → Text → HeldKind} (pairs : Pairs one held) {text mid after : List ℕ} {start : Mark} {used n : ℕ} where
  -- by what code answers
  pub texts_held : {x : ℕ} {p : Place} {w : Written} {d e : Read definition.Run} {a b : Text} → ReaderGiven text start used → n ≤ p.at → 1 ≤ p.at → Ran text mid after p n w d
      → e ≡ d → a ≡ record { at = used; len = n % 2 ^ 32 } → x ≡ n % 2 ^ 32 → b ≡ record { at = used + x; len = (w.count - n) % 2 ^ 32 }
      → HoldsTexts held text mid after start used n
      (Ok (record { token = record { kind = held a b; start = start; end = w.place.mark }; next = w.place })) e
  unfolding seen held_texts
  texts_held {w = w} {a = a} {b = b} given few some t e ta tx tb =
      let k = w.count in
      let u : k - n ≡ size t.run = omega (arith, t.next) in
      let o : n + (k - n) ≤ w.place.at = omega (arith, t.few, t.next) in
      let l = word_small given n (omega (arith, o, t.stands.within)) in
      let m = word_small given (k - n) (omega (arith, o, t.stands.within)) in
      let i : a ≡ record { at = used; len = n } = ta ∙ rw l in
      let j : b ≡ record { at = used + n; len = size t.run } = tb ∙ rw (tx, l, m, u) in
      rw (e ∙ t.is)
      (record {
        same = rw (i, j);
        bytes = holds t.bytes;
        kept = ap length t.bytes ∙ length-sets mid n (encode t.run);
        ahead = record { stands = t.stands; some = omega (arith, t.few, t.next); size = rw (pairs.size_is a b, i, j, ← u) (omega (arith, o)) };
      })

  -- with the first text it is the definition's token
  pub held_reads : {r : Result Lexeme Refusal} {before h : List ℕ} (d : Read definition.Run) → Fronts before mid h n → HoldsTexts held text mid after start used n r d
      → Reads text before after used r (d >>= λ x. got (lexeme (one h x.text) start x.place.mark x.place))
  unfolding held_texts laid_read ◌>>=◌
  held_reads {h = h} (got x) f w =
      record {
        answers = record { same = w.same ∙ rw (pairs.laid_is used h x.text, f.count); ahead = w.ahead };
        texts = holds (rw (pairs.bytes_is h x.text) (front_behind f x.text (all_got w.bytes refl)));
        kept = w.kept ∙ front_kept f;
      }
  held_reads (refused k m) f w = record { answers = record { same = w.same; ahead = w.ahead }; texts = not_read; kept = w.kept ∙ front_kept f }
