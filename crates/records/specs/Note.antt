-- Notes on records: word 1 is the number of a kind and `note_base` times the note. And the records of empty tokens.
use Rattle.std.specs.Prelude.{◌%◌, ◌*◌, ◌+◌, ◌/◌, ℕ, List, [], ◌∷◌, ◌≡◌, get_or, length, set}
use Rattle.std.proofs.Common.{◌∙◌, length-set}
use native.Mathlib.Omega.{arith}
use Rattle.yaml_lexeme.specs.declared.Token.{Token}
use Rattle.yaml_lexeme.specs.Record.{mark_in, mark_words, number_of, record_of, record_words}
use Rattle.yaml_lexeme.specs.RecordLaws.{record_length}
use Rattle.records.specs.Kinds.{note_base, number_small}

abbrev pub note_in : List ℕ → ℕ
note_in r = get_or r 0 0 / note_base

abbrev pub without_note : List ℕ → List ℕ
without_note r = set r 0 (get_or r 0 0 % note_base)

-- word 1 of the record that begins at i, with the note k in place of its own
abbrev pub noted_word : List ℕ → ℕ → ℕ → ℕ
noted_word l i k = get_or l i 0 % note_base + note_base * k

abbrev pub with_note : ℕ → List ℕ → List ℕ
with_note k r = set r 0 (noted_word r 0 k)

-- a record with an empty span at the start of r, by the number of its kind
abbrev pub empty_at : ℕ → List ℕ → List ℕ
empty_at k r = k ∷ mark_words (mark_in r 1) (mark_words (mark_in r 1) (0 ∷ 0 ∷ 0 ∷ 0 ∷ 0 ∷ []))

-- a record keeps its length, its note is read back, and without it the record is as before

pub without_note_length : (r : List ℕ) → length r ≡ record_words → length (without_note r) ≡ record_words
without_note_length r h = length-set r 0 (get_or r 0 0 % note_base) ∙ h

module _ (t : Token) where
  pub with_note_length : (k : ℕ) → length (with_note k (record_of t)) ≡ record_words
  with_note_length k = length-set (record_of t) 0 (noted_word (record_of t) 0 k) ∙ record_length t

  pub note_read : (k : ℕ) → note_in (with_note k (record_of t)) ≡ k
  unfolding record_of
  note_read k = omega arith

  pub note_removed : (k : ℕ) → without_note (with_note k (record_of t)) ≡ record_of t
  unfolding record_of
  note_removed k =
      let n = number_of t.kind in
      let h = number_small t.kind in
      let e : (n % note_base + note_base * k) % note_base ≡ n = omega arith in
      rw e

  pub no_note : with_note 0 (record_of t) ≡ record_of t
  unfolding record_of
  no_note =
      let n = number_of t.kind in
      let h = number_small t.kind in
      let e : n % note_base + note_base * 0 ≡ n = omega arith in
      rw e
