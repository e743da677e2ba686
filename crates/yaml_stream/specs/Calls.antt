-- How many calls a run takes at most. Each character pays for two tokens, and three more come besides, in a text that is refused too: so of 2c + 4 calls the
-- last gives no token.
use Rattle.std.specs.Prelude.{◌*◌, ◌+◌, ◌≤◌, pred, suc, zero, ℕ, List, [], ◌∷◌, ltb, length}
use Rattle.std.proofs.Common.{arith, ltb-false}
use Rattle.yaml_text.specs.declared.Decoded.{Decoded}
use Rattle.yaml_text.specs.declared.Decoded.TheVariants.{Char, End, Ill}
use Rattle.yaml_text.specs.Mark.{origin}
use Rattle.yaml_text.specs.Refusal.{Read}
use Rattle.yaml_text.specs.Utf8.{chars, chars_after, first, more}
use Rattle.yaml_text.specs.Test.{by_test}
use Rattle.yaml_text.specs.All.{All, holds, not_read}
use Rattle.yaml_text.specs.DecodeLaws.{Decodes, NoNul}
use Rattle.yaml_text.proofs.DecodeLaws.{decode_is}
use Rattle.yaml_scan.specs.declared.Limits.{Limits}
use Rattle.yaml_scan.specs.State.{State}
use Rattle.yaml_scan.specs.Scan.{begin}
use Rattle.yaml_scan.specs.Slots.{flat, slots, tokens_of}
use Rattle.yaml_scan.specs.Budget.{on_news}
use Rattle.theorems.specs.TokenCount.{Good, begin_paid, none_paid, step_paid}
use Rattle.yaml_stream.specs.Tale.{built, in_step, tale, text_tale, told, told_of}

tale_paid : (limits : Limits) (k : ℕ) (s : State) → Good s (tale limits k s).events
unfolding tale
tale_paid limits zero s = none_paid s
tale_paid limits (suc k) s =
    on_news (λ r. Good s (in_step r (λ t. tale limits k t)).events) (step_paid limits s) (λ es t h. h (tale limits k t).events (tale_paid limits k t)) (λ es h. h) (λ _ _. none_paid s)

text_tokens : (limits : Limits) (cs : List ℕ) → NoNul cs → length (tokens_of (text_tale limits cs).events) ≤ 2 * length cs + 3
text_tokens limits cs n = begin_paid cs (tale limits (suc (length cs)) (begin cs)).events n (tale_paid limits (suc (length cs)) (begin cs))

-- demand 3, 1 of what the rules have built, for a text that they refuse too
pub built_tokens : (limits : Limits) (bytes : List ℕ) → length (built limits bytes) ≤ 2 * length (chars bytes) + 3
unfolding told slots flat
built_tokens limits bytes =
    by_test (ltb limits.bytes (length bytes)) (λ e. rw (e, told) (omega arith)) (λ e. rw (e, told) (by_text (decode_is 0 origin bytes)))
  where
    by_text : {r : Read (List ℕ)} → All (List ℕ) (Decodes 0 bytes) r → length (tokens_of (told_of limits r).events) ≤ 2 * length (chars bytes) + 3
    by_text (holds {a = cs} d) = rw (← d.same) (text_tokens limits cs d.no_nul)
    by_text not_read = omega arith

-- a character takes a byte or more
pub chars_few : (k : ℕ) (l : List ℕ) → length (chars_after k l) ≤ length l
unfolding chars_after
chars_few k [] = omega arith
chars_few zero (a ∷ t) = by_first (first (a ∷ t)) (λ n. chars_few n t)
  where
    by_first : (d : Decoded) → ((n : ℕ) → length (chars_after n t) ≤ length t) → length (more d (λ n. chars_after n t)) ≤ suc (length t)
    by_first (Char c n) h = omega (arith, h (pred n))
    by_first Ill h = omega arith
    by_first End h = omega arith
chars_few (suc k) (a ∷ t) = omega (arith, chars_few k t)

-- so, whatever the text: one that is longer than the limit gives none
pub built_few : (limits : Limits) (text : List ℕ) → length (built limits text) ≤ 2 * limits.bytes + 3
unfolding told slots flat
built_few limits text =
    by_test (ltb limits.bytes (length text))
    (λ e. rw (e, told) (omega arith))
    (λ e. omega (arith, ltb-false limits.bytes (length text) e, built_tokens limits text, chars_few 0 text))
