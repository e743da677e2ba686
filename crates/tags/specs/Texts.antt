-- Both texts of a tag, as they stand one behind the other from the room's front: what code answers, held against the definition.
use Rattle.std.specs.Prelude.{◌+◌, ◌≤◌, ℕ, List, Result, Ok, Err, ◌++◌, ◌≡◌, drop, length}
use Rattle.std.proofs.lemmas.List.Edits.{sets}
use Rattle.yaml_text.specs.declared.Mark.{Mark}
use Rattle.yaml_text.specs.declared.Refusal.{Refusal}
use Rattle.yaml_text.specs.Char.{'!'}
use Rattle.yaml_text.specs.Class.{is_alpha}
use Rattle.yaml_text.specs.Mark.{Run, along, run_of}
use Rattle.yaml_text.specs.Mark as definition
use Rattle.yaml_text.specs.Refusal.{Read, got, refused}
use Rattle.yaml_text.specs.Utf8.{chars, encode}
use Rattle.yaml_lexeme.specs.Tag as tag
use Rattle.yaml_lexeme.specs.Token.{size}
use Rattle.chars.specs.declared.mark.Place.{Place}
use Rattle.chars.specs.Bytes.{CharAt}
use Rattle.chars.specs.Parts.{Spans}
use Rattle.chars.specs.View.{Stands, past, view}
use Rattle.reading.specs.Reading.{first_at}
use Rattle.tags.specs.declared.tag.Texts.{Texts}

-- the lengths of both texts, the place behind them, and all bytes of the room
pub record Laid : Type 0 where
  pub one : ℕ
  pub other : ℕ
  pub place : definition.Place
  pub bytes : List ℕ

-- what code answers
unfoldable pub seen_texts : List ℕ → List ℕ → Result Texts Refusal → Read Laid
seen_texts text after (Ok t) = got (record { one = t.one; other = t.other; place = view text t.place; bytes = after })
seen_texts text after (Err f) = refused f.number f.mark

-- what the definition answers, its texts written from the room's front
unfoldable pub laid_texts : List ℕ → Read tag.Texts → Read Laid
laid_texts before (got t) =
    got (record { one = size t.one; other = size t.other; place = t.place; bytes = sets before 0 (encode t.one ++ encode t.other) })
laid_texts before (refused k m) = refused k m

-- the place behind stands in the text, and the texts are no longer than what was read
abbrev pub BehindTexts : List ℕ → Result Texts Refusal → Type 0
BehindTexts text (Ok t) = Stands text t.place × (1 ≤ t.place.at) × (t.one + t.other ≤ t.place.at)
BehindTexts text (Err f) = Unit {0}

-- of the bytes that a refusal leaves it tells only how many they are
pub record Lays (text before after : List ℕ) (r : Result Texts Refusal) (d : Read tag.Texts) : Type 0 where
  pub same : seen_texts text after r ≡ laid_texts before d
  pub kept : length after ≡ length before
  pub ahead : BehindTexts text r

-- what the readers of tags are given: a text that begins with a tag's mark
pub record Tagged (text : List ℕ) (start : Mark) : Type 0 where
  pub stands : Stands text (first_at start)
  pub first : CharAt text 0 '!' 1

-- the word characters behind it
abbrev pub name_in : List ℕ → Mark → Run
name_in text start = run_of is_alpha (along start) (chars (drop 1 text))

-- which end at p
pub record NameAt (text : List ℕ) (start : Mark) (p : Place) : Type 0 where
  pub tagged : Tagged text start
  pub name : Spans text (past (first_at start) 1 (along start)) p (name_in text start)
