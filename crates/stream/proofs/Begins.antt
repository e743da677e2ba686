-- The first call, by the definition's order: 1; 2 or 3; 52; then StreamStart.
use Prim.Native.Nat.{◌-◌, ◌/◌, ◌<◌, ◌^◌, ◌≤◌, ℕ}
use mathlib.Core.List.{List, [], ◌∷◌}
use mathlib.Core.Path.{◌∙◌, ◌≡◌, ap, sym}
use Rattle.std.specs.Prelude.{Result, Ok, Err}
use native.Mathlib.Omega.{arith}
use lib.ListN.{length, replicate, set}
use borrow.Author.Tests.{le-ltb, lt-ltb}
use Rattle.yaml_text.specs.declared.Refusal.{Refusal}
use Rattle.yaml_text.specs.Mark.{origin}
use Rattle.yaml_text.specs.Decode.{decode}
use Rattle.yaml_text.specs.Utf8.{chars}
use Rattle.yaml_lexeme.specs.declared.Kind.TheVariants as kind
use Rattle.yaml_lexeme.specs.Record.{record_of, record_words}
use Rattle.yaml_lexeme.specs.Token.{StreamStart, empty_token}
use Rattle.yaml_scan.specs.declared.Limits.{Limits}
use Rattle.yaml_scan.specs.Scan.{begin}
use Rattle.yaml_scan.specs.Slots.{slot}
use Rattle.yaml_stream.specs.Stream.{begun, broken, fresh, least_records, scanning, too_few_words}
use Rattle.validity.specs.Checked.{checked}
use Rattle.validity.specs.CheckedLaws.{passed_chars, refused_as}
use Rattle.events.specs.Event.{empty_of}
use Rattle.states.specs.declared.State.{State}
use Rattle.states.specs.State.{s_begin}
use Rattle.driver.specs.Held.{base_at, phase_at, put_counts, put_state}
use Rattle.stream.specs.declared.Next.{Next}
use Rattle.stream.specs.declared.Next.TheVariants as next
use Rattle.stream.specs.Start.{Starts, begun_held, one_counted}
use Rattle.stream.specs.Words.{no_token, refused_held}

-- what the call is answered by a refusal
abbrev Refuses : List ℕ → List ℕ → List ℕ → Result Next Refusal → Refusal → Type 0
Refuses h h' r a f = (a ≡ Err f) × (h' ≡ refused_held h f) × (r ≡ no_token)

module _ (limits : Limits) (text : List ℕ) (words : ℕ) (h : List ℕ) {h' r : List ℕ} {a : Result Next Refusal} where
  pub too_long : {f : Refusal} → limits.bytes < length text → f ≡ record { number = 1; mark = origin } → Refuses h h' r a f → Starts h h' r a (fresh limits text words)
  unfolding fresh
  too_long e f w = let i : fresh limits text words ≡ broken 1 origin = rw (lt-ltb limits.bytes (length text) e, fresh) in rw i (rw f at w)

  pub no_text : {f : Refusal} → length text ≤ limits.bytes → Err f ≡ checked (decode 0 origin text) → Refuses h h' r a f → Starts h h' r a (fresh limits text words)
  unfolding fresh
  no_text {f} e d w =
      let i : fresh limits text words ≡ broken f.number f.mark = rw (le-ltb limits.bytes (length text) e, refused_as (decode 0 origin text) f (sym d), fresh) in
      rw i w

  pub few_words : {f : Refusal} → length text ≤ limits.bytes → Ok tt ≡ checked (decode 0 origin text) → words / record_words < least_records
      → f ≡ record { number = too_few_words; mark = origin } → Refuses h h' r a f → Starts h h' r a (fresh limits text words)
  unfolding fresh begun
  few_words e d o f w =
      let i : fresh limits text words ≡ broken too_few_words origin =
      rw (le-ltb limits.bytes (length text) e, passed_chars origin text (sym d), lt-ltb (words / record_words) least_records o, fresh, begun) in
      rw i (rw f at w)

  pub text_begins : length text ≤ limits.bytes → Ok tt ≡ checked (decode 0 origin text) → least_records ≤ words / record_words
      → a ≡ Ok next.Token → (h' ≡ begun_held h) × (r ≡ record_of (empty_of kind.StreamStart origin)) → Starts h h' r a (fresh limits text words)
  unfolding fresh begun
  text_begins e d o f w =
      let i : fresh limits text words ≡ scanning (begin (chars text)) 0 (slot (empty_token StreamStart origin) [] ∷ []) 0 =
      rw (le-ltb limits.bytes (length text) e, passed_chars origin text (sym d), le-ltb (words / record_words) least_records o, fresh, begun) in
      rw i (f, w.0, w.1)

-- what is held, and the token

pub begins_held : (h : List ℕ) {z u v : List ℕ} {s : State} → z ≡ replicate (length h) 0 → s ≡ s_begin → u ≡ put_state z s → v ≡ put_counts u one_counted
    → set (set v phase_at 1) base_at 1 ≡ begun_held h
begins_held h {z} {u} {v} {s} e f g k =
    let c : length h - 0 ≡ length h = omega arith in
    rw c
    (ap (λ (w : List ℕ). set (set w phase_at 1) base_at 1)
    (k ∙ ap (λ (w : List ℕ). put_counts w one_counted) (g ∙ ap (λ (w : List ℕ). put_state w s) e ∙ ap (λ (t : State). put_state (replicate (length h) 0) t) f)))

pub begins_token : {x : List ℕ} {s : State} → s ≡ s_begin → x ≡ record_of (record { kind = kind.StreamStart; start = s.place.mark; end = s.place.mark })
    → x ≡ record_of (empty_of kind.StreamStart origin)
begins_token f g = g ∙ ap (λ (v : State). record_of (record { kind = kind.StreamStart; start = v.place.mark; end = v.place.mark })) f

-- the numbers fit their words
pub begins_small : {s : State} → s ≡ s_begin → (s.place.at < 2 ^ 32) × (s.indents.depth < 2 ^ 32) × (s.flow_level < 2 ^ 32)
begins_small e = rw e (omega arith, omega arith, omega arith)

pub ruleset begins = (begins_held, begins_token, begins_small)
