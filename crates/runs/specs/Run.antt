-- Runs of characters: what code answers, held against the definition.
use Rattle.std.specs.Prelude.{◌+◌, ◌≤◌, ℕ, false, true, List, Result, Ok, Err, [], ◌∷◌, ◌≡◌, eqb, length}
use Rattle.std.proofs.lemmas.List.Edits.{sets}
use Rattle.yaml_text.specs.declared.Mark.{Mark}
use Rattle.yaml_text.specs.declared.Refusal.{Refusal}
use Rattle.yaml_text.specs.Char.{'%'}
use Rattle.yaml_text.specs.Mark.{look, skip_by}
use Rattle.yaml_text.specs.Mark as definition
use Rattle.yaml_text.specs.Refusal.{Read, ◌>>=◌, got, refused}
use Rattle.yaml_text.specs.Utf8.{encode}
use Rattle.yaml_lexeme.specs.Tag.{percent}
use Rattle.yaml_lexeme.specs.Token.{size}
use Rattle.chars.specs.declared.mark.Place.{Place}
use Rattle.chars.specs.View.{Stands, view}
use Rattle.reading.specs.declared.Written.{Written}

-- the character here, or the one that its percent escape is
unfoldable pub one_char : Mark → definition.Place → Read definition.Run
one_char start p =
    elim (eqb (look p) '%') [
      | true ↦ percent start p.rest >>= λ e. got (record { text = e.char ∷ []; place = skip_by (e.took + 1) p })
      | false ↦ got (record { text = look p ∷ []; place = skip_by 1 p })
    ]

-- a run that was written: the place behind it, where the next byte goes, and all bytes of the room
pub record WrittenRun : Type 0 where
  pub place : definition.Place
  pub next : ℕ
  pub bytes : List ℕ

-- what code answers
unfoldable pub seen_run : List ℕ → List ℕ → Result Written Refusal → Read WrittenRun
seen_run text after (Ok w) = got (record { place = view text w.place; next = w.count; bytes = after })
seen_run text after (Err f) = refused f.number f.mark

-- what the definition answers, its text written from n on
unfoldable pub written : List ℕ → ℕ → Read definition.Run → Read WrittenRun
written before n (got r) = got (record { place = r.place; next = n + size r.text; bytes = sets before n (encode r.text) })
written before n (refused k m) = refused k m

-- the place behind stands in the text, and what was written is no longer than what was read
abbrev pub RunEnds : List ℕ → Place → ℕ → Result Written Refusal → Type 0
RunEnds text p n (Ok w) = Stands text w.place × (w.count + p.at ≤ n + w.place.at)
RunEnds text p n (Err f) = Unit {0}

-- the contract of a writer from p, whose text goes to n; of the bytes that a refusal leaves it tells only how many they are
pub record Writes (text before after : List ℕ) (p : Place) (n : ℕ) (r : Result Written Refusal) (d : Read definition.Run) : Type 0 where
  pub same : seen_run text after r ≡ written before n d
  pub kept : length after ≡ length before
  pub ahead : RunEnds text p n r

abbrev pub RunLeaves : List ℕ → List ℕ → Result Written Refusal → Type 0
RunLeaves left after (Ok w) = Unit {0}
RunLeaves left after (Err f) = after ≡ left

-- the same, where a refusal leaves the bytes `left`
pub record WritesOr (text before after left : List ℕ) (p : Place) (n : ℕ) (r : Result Written Refusal) (d : Read definition.Run) : Type 0 where
  pub writes : Writes text before after p n r d
  pub leaves : RunLeaves left after r
