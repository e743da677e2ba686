-- A token of two texts, which are written one behind the other from a room's front on.
use Rattle.std.specs.Prelude.{◌+◌, ℕ, List, Result, ◌≡◌, length}
use Rattle.std.proofs.lemmas.List.Edits.{sets}
use Rattle.yaml_text.specs.declared.Mark.{Mark}
use Rattle.yaml_text.specs.declared.Refusal.{Refusal}
use Rattle.yaml_text.specs.All.{All}
use Rattle.yaml_text.specs.Mark.{Run}
use Rattle.yaml_text.specs.Refusal.{Read, got, refused}
use Rattle.yaml_text.specs.Utf8.{encode}
use Rattle.yaml_lexeme.specs.declared.Kind.{Kind}
use Rattle.yaml_lexeme.specs.declared.Text.{Text}
use Rattle.yaml_lexeme.specs.Token.{size}
use Rattle.reading.specs.declared.Lexeme.{Lexeme}
use Rattle.reading.specs.Reading.{ReadsAhead, Seen, seen}

-- the first text
pub record Fronts (before mid h : List ℕ) (n : ℕ) : Type 0 where
  pub is : mid ≡ sets before 0 (encode h)
  pub count : size h ≡ n

-- the token as code holds it, where the first text is of n bytes behind those used so far, and the other is read
unfoldable pub held_texts : (Text → Text → Kind) → Mark → ℕ → ℕ → Read Run → Read Seen
held_texts kind start used n (got x) =
    got
    (record {
      token = record { kind = kind (record { at = used; len = n }) (record { at = used + n; len = size x.text }); start = start; end = x.place.mark };
      place = x.place;
    })
held_texts kind start used n (refused k m) = refused k m

-- the other text is written behind the first; of the bytes that a refusal leaves it tells only how many they are
pub record HoldsTexts (kind : Text → Text → Kind) (text before after : List ℕ) (start : Mark) (used n : ℕ) (r : Result Lexeme Refusal) (d : Read Run) : Type 0 where
  pub same : seen text r ≡ held_texts kind start used n d
  pub bytes : All Run (λ x. after ≡ sets before n (encode x.text)) d
  pub kept : length after ≡ length before
  pub ahead : ReadsAhead text r
