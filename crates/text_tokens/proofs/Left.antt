-- A directive leaves all blocks: what the definition does with what it read, behind the ends of blocks that stand at its own start.
use Rattle.std.proofs.Common.{◌∙◌, ◌≡◌, [], ◌++◌, ◌∷◌, ℕ, List, Err, Ok, arith, false, length, refl, true}
use Rattle.yaml_text.specs.declared.Mark.{Mark}
use Rattle.yaml_text.specs.declared.Refusal.{Refusal}
use Rattle.yaml_text.specs.All.{All, holds, not_read}
use Rattle.yaml_text.specs.Mark as mark
use Rattle.yaml_text.specs.Refusal.{Read, ◌>>=◌}
use Rattle.yaml_lexeme.specs.Directive.{scan_directive}
use Rattle.yaml_lexeme.specs.Fits.{Reads}
use Rattle.yaml_lexeme.specs.TagFits.{directive_fit}
use Rattle.yaml_lexeme.specs.Token as tokens
use Rattle.yaml_scan.specs.declared.Limits.{Limits}
use Rattle.yaml_scan.specs.Document.{fetch_directive, leave_blocks}
use Rattle.yaml_scan.specs.State.{News, allow, at_place, block_ends, emit, put, remove_key, unroll_to}
use Rattle.yaml_scan.specs.State as definition
use Rattle.rooms.specs.Room.{cleared}
use Rattle.reading.specs.declared.Lexeme.{Lexeme}
use Rattle.reading.specs.Reading.{Lexes}
use Rattle.stacks.specs.declared.indent.Unrolled.{Unrolled}
use Rattle.stacks.proofs.Entries.{low_below}
use Rattle.events.specs.declared.Counts.{Counts}
use Rattle.states.specs.declared.State.{State}
use Rattle.states.specs.Fetch.{FetchesText, Ready}
use Rattle.states.specs.Key.{removed_words}
use Rattle.states.specs.Lexed.{Way, lexed_got, lexed_refused}
use Rattle.states.specs.Rest.{is_rest, rest_at, rest_view}
use Rattle.states.specs.State.{behind_of, state_of}
use Rattle.documents.specs.Leave.{LeavesBlocks, goes_outside}
use Rattle.text_tokens.specs.Lexeme.{unused, with_unused}
use Rattle.text_tokens.proofs.Read.{from_here, same_for_all}

-- what the definition does with what it read, the blocks' ends being at the mark m
abbrev outside : definition.State → Mark → tokens.Lexeme → Read News
outside v m l = emit (block_ends (unroll_to 0 v).ended m ++ (put l.token ∷ [])) (at_place l.place true (allow false (leave_blocks v)))

directive_tells : (text a : List ℕ) (count : ℕ) (s : State)
    → fetch_directive (state_of text a count s) ≡ (scan_directive (from_here text s) >>= λ (l : tokens.Lexeme). outside (state_of text a count s) s.place.mark l)
unfolding fetch_directive leave_blocks remove_key
directive_tells text a count s = rw (rest_view text s.place (is_rest text s.place))

-- what was read starts at the mark
started : {m : Mark} {p : mark.Place} {x : Read tokens.Lexeme} (k : Mark → tokens.Lexeme → Read News) → All tokens.Lexeme (Reads m p) x
    → (x >>= λ l. k m l) ≡ (x >>= λ l. k l.token.start l)
unfolding ◌>>=◌
started k (holds h) = rw h.starts
started k not_read = refl

-- on behind it
abbrev out : State → Unrolled → Way
out s u = record { indents = u.indents; leading_whitespace = true; simple_key_allowed = false; adjacent_value_allowed_at = λ m. s.adjacent_value_allowed_at; ended = u.ended }

module _ {limits : Limits} {text a lent : List ℕ} (before : List ℕ) {n : Counts} {s : State} where
  -- a refusal leaves none
  pub left_refused : {f : Refusal} → Lexes (rest_at text s.place) (unused n.used before) lent n.used (Err f) (scan_directive (from_here text s))
      → FetchesText limits text a a (removed_words a s) before (cleared before n.used) (with_unused n.used before lent) n s (fetch_directive (state_of text a n.count s)) (Err f)
  left_refused h =
      lexed_refused before refl (scan_directive (from_here text s)) (λ (l : tokens.Lexeme). outside (state_of text a n.count s) s.place.mark l) h (directive_tells text a n.count s) refl

  pub left : {e : List ℕ} {l : Lexeme} {u : Unrolled} → Ready limits text a s → Lexes (rest_at text s.place) (unused n.used before) lent n.used (Ok l) (scan_directive (from_here text s)) → LeavesBlocks a e s u
      → FetchesText limits text a e (removed_words a s) before (cleared before n.used) (with_unused n.used before lent) n s (fetch_directive (state_of text a n.count s))
      (Ok (goes_outside s u (behind_of s.place l.next) true false l.token))
  left {u = u} y h k =
      lexed_got before refl (out s u) (scan_directive (from_here text s)) y (is_rest text s.place) (record { low = low_below y.low k.below; few = omega (arith, k.few) }) h
      (directive_tells text a n.count s
      ∙ started (λ m g. outside (state_of text a n.count s) m g) (directive_fit (from_here text s))
      ∙ same_for_all (scan_directive (from_here text s)) (λ g. rw (← k.same text n.count, ← k.ended)))
      k.words
