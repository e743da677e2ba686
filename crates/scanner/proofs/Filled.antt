-- The answer: the refusals before the run; and what was stored and settled, cut to its length and zeros behind it, is what the definition leaves in both rooms.
use Prim.Native.Nat.{◌*◌, ◌+◌, ◌-◌, ◌/◌, ◌<◌, ◌≤◌, ℕ}
use mathlib.Core.Bool.{false, true}
use mathlib.Core.List.{List, ◌++◌}
use mathlib.Core.Path.{◌∙◌, ◌≡◌, ap, refl, sym}
use Rattle.std.specs.Prelude.{Ok, Err}
use native.Mathlib.Nat.{zero-add}
use native.Mathlib.Omega.{arith}
use lib.Dec.{ltb}
use lib.ListN.{drop, length, length-append, length-drop, replicate}
use lib.Seq.{length-sets, sets, sets-eq, take_at}
use borrow.Author.Tests.{le-ltb, lt-ltb, ltb-false}
use Rattle.yaml_text.specs.declared.Refusal.{Refusal}
use Rattle.yaml_text.specs.Mark.{origin}
use Rattle.yaml_text.specs.Decode.{decode}
use Rattle.yaml_text.specs.Test.{by_test}
use Rattle.yaml_text.specs.Utf8.{chars}
use Rattle.yaml_lexeme.specs.Record.{record_words, records}
use Rattle.yaml_lexeme.specs.Token.{Token, texts}
use Rattle.yaml_lexeme.specs.RecordLaws.{records_length}
use Rattle.yaml_scan.specs.declared.Limits.{Limits}
use Rattle.yaml_scan.specs.State.{puts}
use Rattle.yaml_scan.specs.Slots.{tokens_of}
use Rattle.yaml_scan.proofs.SlotLaws.{outcome_total}
use Rattle.yaml_scan.specs.Scan.{Verdict, answer, answer_for, blank_answer, filled, lent, outcome, refusal, scan, stopped}
use Rattle.yaml_scan.specs.Scan as definition
use Rattle.rooms.specs.Room.{cleared}
use Rattle.events.specs.declared.Counts.{Counts}
use Rattle.sink.specs.Run.{outcome_records, outcome_texts}
use Rattle.sink.specs.Settle.{front, settled_words}
use Rattle.sink.specs.Stored.{no_counts, stored_words, tokens_counted}
use Rattle.validity.specs.Checked.{checked}
use Rattle.validity.specs.CheckedLaws.{passed_chars, refused_as}
use Rattle.scanner.specs.Promise.{Settles, answer_of, lent_of}
use Rattle.scanner.specs.Run.{RunScans, RunStops}

-- by room

module _ (n : Counts) (words bytes : List ℕ) where
  pub no_words : {f : Refusal} {a : definition.Answer} → f ≡ record { number = 4; mark = origin } → length words / record_words < tokens_counted n
      → a ≡ blank_answer (refusal f.number f.mark (tokens_counted n) n.used) (length words) (length bytes) → a ≡ lent_of n words bytes
  unfolding lent_of
  no_words e h k = k ∙ rw (e, lt-ltb (length words / record_words) (tokens_counted n) h, lent_of)

  module _ (h : tokens_counted n ≤ length words / record_words) where
    pub no_bytes : {f : Refusal} {a : definition.Answer} → f ≡ record { number = 5; mark = origin } → length bytes < n.used
        → a ≡ blank_answer (refusal f.number f.mark (tokens_counted n) n.used) (length words) (length bytes) → a ≡ lent_of n words bytes
    unfolding lent_of
    no_bytes e k i = i ∙ rw (e, le-ltb (length words / record_words) (tokens_counted n) h, lt-ltb (length bytes) n.used k, lent_of)

    pub both_fit : {placed words' bytes' : List ℕ} → n.used ≤ length bytes → placed ≡ settled_words n.count words → words' ≡ cleared placed (tokens_counted n * record_words)
        → bytes' ≡ cleared bytes n.used → answer_of (Ok (record { tokens = tokens_counted n; bytes = n.used })) words' bytes' ≡ lent_of n words bytes
    unfolding lent_of
    both_fit k p q r = rw (r, q, p, le-ltb (length words / record_words) (tokens_counted n) h, le-ltb (length bytes) n.used k, lent_of)

-- a refusal of the definition's

pub stopped_answer : (limits : Limits) (text : List ℕ) {f : Refusal} {a : definition.Answer} {l b l' b' : List ℕ} → RunStops (outcome limits text) l b l' b' f
    → a ≡ blank_answer (refusal f.number f.mark 0 0) (length l') (length b') → a ≡ answer limits text (length l) (length b)
unfolding answer answer_for
stopped_answer limits text w h = h ∙ rw (w.same, w.words, w.bytes)

module _ (limits : Limits) (text : List ℕ) where
  pub too_long : {f : Refusal} (l b : List ℕ) → f ≡ record { number = 1; mark = origin } → limits.bytes < length text → RunStops (outcome limits text) l b l b f
  unfolding outcome
  too_long l b e h = record { same = rw (e, lt-ltb limits.bytes (length text) h, outcome); words = refl; bytes = refl }

  module _ (h : length text ≤ limits.bytes) where
    pub invalid : {f : Refusal} (l b : List ℕ) → Err f ≡ checked (decode 0 origin text) → RunStops (outcome limits text) l b l b f
    unfolding outcome
    invalid {f} l b e =
        record { same = rw (le-ltb limits.bytes (length text) h, refused_as (decode 0 origin text) f (sym e), outcome); words = refl; bytes = refl }

    pub valid : Ok tt ≡ checked (decode 0 origin text) → scan limits (chars text) ≡ outcome limits text
    unfolding outcome
    valid e = rw (le-ltb limits.bytes (length text) h, passed_chars origin text (sym e), outcome)

-- what stands in front, and zeros behind it
cleared_front : (front rest : List ℕ) (n : ℕ) → length front ≡ n → cleared (front ++ rest) n ≡ filled (length (front ++ rest)) front
cleared_front front rest n e = rw (take_at front rest n e, ← e)

cleared_text : (text l : List ℕ) → length text ≤ length l → cleared (sets l 0 text) (length text) ≡ filled (length l) text
cleared_text text l h =
    let e = sets-eq text l 0 (omega arith) in
    let z : 0 + length text ≡ length text = omega arith in
    rw (length-sets l 0 text, e, z) (rw (take_at text (drop (length text) l) (length text) refl))

lent_as : (n : Counts) (words bytes : List ℕ) (ts : List Token) {w b : ℕ} → tokens_counted n ≡ length ts → n.used ≡ length (texts ts) → length words ≡ w
    → length bytes ≡ b → (length ts ≤ w / record_words → cleared (settled_words n.count words) (length ts * record_words) ≡ filled w (records 0 ts))
    → (length (texts ts) ≤ b → cleared bytes (length (texts ts)) ≡ filled b (texts ts)) → lent_of n words bytes ≡ lent ts w b
unfolding lent_of lent
lent_as n words bytes ts {w} {b} e f k j g h =
    by_test (ltb (w / record_words) (length ts))
    (λ p. let p' : ltb (length words / record_words) (tokens_counted n) ≡ true = rw (e, k) p in rw (p, p', lent_of, lent, e, f, k, j))
    (λ p. let p' : ltb (length words / record_words) (tokens_counted n) ≡ false = rw (e, k) p in
    by_test (ltb b (length (texts ts)))
    (λ q. let q' : ltb (length bytes) n.used ≡ true = rw (f, j) q in rw (p, p', q, q', lent_of, lent, e, f, k, j))
    (λ q. let q' : ltb (length bytes) n.used ≡ false = rw (f, j) q in
    rw (p, p', q, q', lent_of, lent, e, f, g (ltb-false (w / record_words) (length ts) p), h (ltb-false b (length (texts ts)) q))))

-- the end of a scan

module _ (limits : Limits) (text : List ℕ) {l b l' b' : List ℕ} {m : Counts} (w : RunScans (outcome limits text) no_counts m l b l' b') where
  abbrev ts : List Token
  ts = tokens_of w.said

  counted_tokens : tokens_counted m ≡ length ts
  counted_tokens =
      w.stored.counts.tokens ∙ zero-add _ ∙ sym (outcome_total limits text w.said w.same)

  counted_bytes : m.used ≡ length (texts ts)
  counted_bytes = w.stored.counts.used ∙ zero-add _ ∙ ap length (sym (outcome_texts limits text w.said w.same))

  counted_puts : m.count ≡ puts w.said
  counted_puts = w.stored.counts.count ∙ zero-add _

  pub settles : length l' ≡ length l → Settles m l'
  settles k =
      record {
        small = omega (arith, w.few);
        number = λ h. counted_tokens ∙ sym (rw (counted_puts, stored_words w.stored) (outcome_records limits text w.said w.same l (omega (arith, counted_tokens))).number);
      }

  words_filled : length ts ≤ length l / record_words → cleared (settled_words m.count l') (length ts * record_words) ≡ filled (length l) (records 0 ts)
  words_filled h =
      let k = (outcome_records limits text w.said w.same l (omega arith)).words in
      let r = records_length 0 ts in
      let rest = drop (length ts * record_words) l in
      let n : length (records 0 ts ++ rest) ≡ length l = omega (arith, length-append (records 0 ts) rest, length-drop (length ts * record_words) l) in
      rw (counted_puts, stored_words w.stored, k) (cleared_front (records 0 ts) rest (length ts * record_words) r ∙ rw n)

  bytes_filled : length (texts ts) ≤ length b → cleared b' (length (texts ts)) ≡ filled (length b) (texts ts)
  bytes_filled h = rw (w.stored.bytes, ← outcome_texts limits text w.said w.same) (cleared_text (texts ts) b h)

  pub answered : length l' ≡ length l → length b' ≡ length b → lent_of m l' b' ≡ answer limits text (length l) (length b)
  unfolding answer answer_for
  answered k j =
      lent_as m l' b' ts counted_tokens counted_bytes k j words_filled bytes_filled ∙ rw w.same

pub ruleset before_run = (too_long, invalid, valid)

pub ruleset by_room = (no_words, no_bytes, both_fit)

pub ruleset by_outcome = (answered, settles)
