-- How a stream changes, case by case, for what is shown of every stream that calls come to: when it is fresh, behind a step, and when a token is given.
use Rattle.std.specs.Prelude.{◌/◌, ℕ, false, true, ◌≡◌, refl, ltb, length}
use mathlib.Core.List.{List, [], ◌∷◌}
use Rattle.yaml_text.specs.declared.Mark.{Mark}
use Rattle.yaml_text.specs.Mark.{origin}
use Rattle.yaml_text.specs.Refusal.{Read, got, refused}
use Rattle.yaml_text.specs.Decode.{decode}
use Rattle.yaml_text.specs.Test.{by_test}
use Rattle.yaml_lexeme.specs.Token.{StreamStart, empty_token}
use Rattle.yaml_lexeme.specs.Record.{record_words}
use Rattle.yaml_scan.specs.declared.Limits.{Limits}
use Rattle.yaml_scan.specs.State.{State, mark_of}
use Rattle.yaml_scan.specs.Scan.{begin, step}
use Rattle.yaml_scan.specs.Slots.{Slot, slot}
use Rattle.yaml_stream.specs.Stream.{Stream, after_news, begun, behind, broken, closing, crowded, fresh, least_records, ready, scanning, stepped, too_few_words, too_many_wait}

module _ (P : Stream → Type 0) where
  -- fresh

  -- StreamStart waits
  abbrev pub AtBegin : List ℕ → Type 0
  AtBegin cs = P (scanning (begin cs) 0 (slot (empty_token StreamStart origin) [] ∷ []) 0)

  begun_by : (words : ℕ) (cs : List ℕ) → P (broken too_few_words origin) → AtBegin cs → P (begun words cs)
  unfolding begun
  begun_by words cs f h = by_test (ltb (words / record_words) least_records) (λ e. rw (e, begun) f) (λ e. rw (e, begun) h)

  module _ (limits : Limits) (bytes : List ℕ) (words : ℕ) (long : P (broken 1 origin)) (few : P (broken too_few_words origin)) where
    pub fresh_by : ((k : ℕ) (m : Mark) → P (broken k m)) → ((cs : List ℕ) → decode 0 origin bytes ≡ got cs → AtBegin cs) → P (fresh limits bytes words)
    unfolding fresh
    fresh_by r h = by_test (ltb limits.bytes (length bytes)) (λ e. rw (e, fresh) long) (λ e. rw (e, fresh) (by_text (decode 0 origin bytes) refl))
      where
        by_text : (d : Read (List ℕ)) → decode 0 origin bytes ≡ d → P (elim d [ got cs ↦ begun words cs | refused k m ↦ broken k m ])
        by_text (got cs) e = begun_by words cs few (h cs e)
        by_text (refused k m) e = r k m

    -- where the characters are known
    pub fresh_decoded : (cs : List ℕ) → decode 0 origin bytes ≡ got cs → (ltb limits.bytes (length bytes) ≡ false → AtBegin cs) → P (fresh limits bytes words)
    unfolding fresh
    fresh_decoded cs d h = by_test (ltb limits.bytes (length bytes)) (λ e. rw (e, fresh) long) (λ e. rw (e, d, fresh) (begun_by words cs few (h e)))

  -- a step

  pub behind_by : (room : ℕ) (s : State) (n : ℕ) (xs : List Slot) (used : ℕ) → P (broken 5 origin) → (crowded s n xs ≡ true → P (broken too_many_wait (mark_of s)))
      → (crowded s n xs ≡ false → P (scanning s n xs used)) → P (behind room s n xs used)
  unfolding behind
  behind_by room s n xs used full many h =
      by_test (ltb room used)
      (λ e. rw (e, behind) full)
      (λ e. by_test (crowded s n xs) (λ f. rw (e, f, behind) (many f)) (λ f. rw (e, f, behind) (h f)))

  pub stepped_by : (limits : Limits) (room : ℕ)
      → ((s : State) (n : ℕ) (xs : List Slot) (used : ℕ) → P (scanning s n xs used) → ready (scanning s n xs used) ≡ false → P (after_news room n xs used (step limits s)))
      → (x : Stream) → P x → ready x ≡ false → P (stepped limits room x)
  unfolding stepped
  stepped_by limits room f (scanning s n xs used) h r = f s n xs used h r
  stepped_by limits room f (closing xs) h r = h
  stepped_by limits room f (broken k m) h r = h
  -- a token is given
