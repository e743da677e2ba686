-- Where a token can be given, a call gives the definition's and the stream behind it is held: it is the first of those that calls give, whatever comes behind them.
use Prim.Native.Nat.{◌*◌, ◌+◌, ◌<◌, ◌≤◌, ℕ}
use mathlib.Core.Bool.{Bool, false, true}
use mathlib.Core.List.{List, [], ◌++◌, ◌∷◌}
use mathlib.Core.Path.{◌∙◌, ◌≡◌, ap, refl, subst, sym}
use Rattle.std.specs.Prelude.{Result, Ok}
use native.Mathlib.Omega.{arith}
use lib.ListN.{length}
use lib.Seq.{get_or-set_other}
use Rattle.yaml_text.specs.declared.Refusal.{Refusal}
use Rattle.yaml_text.specs.declared.Mark.{Mark}
use Rattle.yaml_lexeme.specs.Token.{Token, token_bytes}
use Rattle.yaml_lexeme.specs.Record.{record_words}
use Rattle.yaml_scan.specs.declared.Limits.{Limits}
use Rattle.yaml_scan.specs.Scan.{standard}
use Rattle.yaml_scan.specs.State as definition
use Rattle.yaml_scan.specs.Slots.{Slot, flat}
use Rattle.yaml_stream.specs.Ahead.{CallsGive, gives}
use Rattle.yaml_stream.specs.Stream.{Called, Stream, call, called, least_records, token}
use Rattle.driver.specs.Held.{Modest, base_at, counts_held, held_words, level_at, mark_at, number_at, phase_at, seen_held, slot_at, until_at, word}
use Rattle.stream.specs.declared.Next.{Next}
use Rattle.stream.specs.declared.Next.TheVariants as next
use Rattle.stream.specs.Holds.{Breaks, Calls, Closes, Holds, Lent, Promises, Says, Scans, breaks, closes, fresh_state, scans, text_given}
use Rattle.stream.specs.Words.{Gives, MayGive, has_some, refusal_held}
use Rattle.stream.proofs.Given.{TokenGiven, given}
use Rattle.stream.proofs.Kept.{seen_set}
use Rattle.stream.proofs.Lends.{some_told}

-- the first of them
record First (limits : Limits) (room : ℕ) (x : Stream) (t : Token) (ts : List Token) (z : Stream) : Type 0 where
  behind : Stream
  calls : call limits room x ≡ called (token t) behind
  rest : CallsGive limits room behind ts z

first_ahead : {limits : Limits} {room : ℕ} {x z : Stream} {t : Token} {ts : List Token} → CallsGive limits room x (t ∷ ts) z → First limits room x t ts z
first_ahead (gives e a) = record { behind = _; calls = e; rest = a }

module _ (limits : Limits) (text h l b gone h' l' r : List ℕ) where
  -- what stands behind it
  module _ {gs xs : List Slot} (w : TokenGiven h l b gone h' l' r gs xs) where
    -- the other words stay
    other : (i : ℕ) → (i ≡ slot_at → ⊥) → word h' i ≡ word h i
    other i o = ap (λ (z : List ℕ). word z i) w.held ∙ get_or-set_other h slot_at i w.slot_then 0 o

    lent_then : Lent limits text l → Lent limits text l'
    lent_then m = record { short = m.short; records = rw w.words m.records }

    calls_then : {x z : Stream} → CallsGive limits (length b) x (flat gs) z
        → ((y : Stream) → CallsGive limits (length b) y (flat w.left) z → Holds limits text h' l' b (gone ++ token_bytes w.token) y)
        → Calls limits text b h' l' b r (Ok next.Token) gone x
    calls_then {x} {z} a m =
        let f = first_ahead (rw w.first at a) in
        record {
          says = subst (λ (c : Called). Says (length gone) c.answer r (Ok next.Token)) (sym f.calls) (refl, w.is);
          holds = subst (λ (c : Called). Holds limits text h' l' b (gone ++ text_given c.answer) c.stream) (sym f.calls) (m f.behind f.rest);
        }

    scans_then : {s : definition.State} {n used : ℕ} → Scans limits text h l b gone gs s n xs used → Scans limits text h' l' b (gone ++ token_bytes w.token) w.left s n xs used
    scans_then c =
        let y = seen_set limits text h slot_at w.slot_then (omega arith) (omega arith) in
        record {
          phase = other phase_at (λ i. omega arith) ∙ c.phase;
          seen = ap (λ (v : List ℕ). seen_held limits text v) w.held ∙ y.seen ∙ c.seen;
          used_held = ap (λ (v : List ℕ). (counts_held text v).used) w.held ∙ ap (λ v. v.used) y.counts ∙ c.used_held;
          used_so_far = c.used_so_far ∙ w.used;
          first = omega (arith, other base_at (λ i. omega arith), other until_at (λ i. omega arith), c.first);
          waits = w.waits;
          level = c.level;
          between = c.between;
          on_level = rw (other level_at (λ i. omega arith)) c.on_level;
          idle = c.idle;
          lent = lent_then c.lent;
        }

    refusal_then : refusal_held h' ≡ refusal_held h
    refusal_then = rw (other number_at (λ i. omega arith), other mark_at (λ i. omega arith), other (mark_at + 1) (λ i. omega arith), other (mark_at + 2) (λ i. omega arith))

  closes_then : {gs : List Slot} (w : TokenGiven h l b gone h' l' r gs []) → Closes limits text h l b gone gs → Closes limits text h' l' b (gone ++ token_bytes w.token) w.left
  closes_then w c = record { phase = other w phase_at (λ i. omega arith) ∙ c.phase; waits = w.waits; lent = lent_then w c.lent }

  breaks_then : {gs : List Slot} {k : ℕ} {m : Mark} (w : TokenGiven h l b gone h' l' r gs []) → least_records * record_words ≤ length l → Breaks h l b gone gs k m
      → Breaks h' l' b (gone ++ token_bytes w.token) w.left k m
  breaks_then w e c =
      record {
        phase = omega (arith, other w phase_at (λ i. omega arith), c.phase);
        is = refusal_then w ∙ c.is;
        waits = w.waits;
        records = λ _. omega (arith, w.words);
      }

-- the call
module _ (limits : Limits) (text h l b h' l' r : List ℕ) (all : length h ≡ held_words) (g : Gives h l h' l' r) where
  given_held : {gone : List ℕ} {x : Stream} → (least_records * record_words ≤ length l) × (word h slot_at < word h until_at) → Holds limits text h l b gone x
      → Calls limits text b h' l' b r (Ok next.Token) gone x
  given_held o (fresh_state e f) = absurd (omega arith)
  given_held {gone} o (scans m a c) =
      let w = given b gone all g c.waits o.1 in
      calls_then limits text h l b gone h' l' r w a (λ y d. scans (rw w.words m) d (scans_then limits text h l b gone h' l' r w c))
  given_held {gone} o (closes a c) =
      let w = given b gone all g c.waits o.1 in
      calls_then limits text h l b gone h' l' r w a (λ y d. closes d (closes_then limits text h l b gone h' l' r w c))
  given_held {gone} o (breaks a e c) =
      let w = given b gone all g c.waits o.1 in
      calls_then limits text h l b gone h' l' r w a (λ y d. breaks d e (breaks_then limits text h l b gone h' l' r w o.0 c))

-- what a call that may give one leaves

module _ (limits : Limits) (text h l b : List ℕ) {t h' l' t' : List ℕ} {v : Bool} (g : MayGive h l t h' l' t' v) where
  pub given_calls : length h ≡ held_words → v ≡ true → Promises limits text h l b h' l' b t' (Ok next.Token)
  given_calls all e gone x k = given_held limits text h l b h' l' t' all (g.given e) (some_told h (length l) (sym g.told ∙ e)) k

module _ {h l t h' l' t' : List ℕ} {v : Bool} (g : MayGive h l t h' l' t' v) (e : v ≡ false) where
  pub none_given : has_some h' (length l') ≡ false
  none_given = rw ((g.stays e).0, (g.stays e).1) (sym g.told ∙ e)

  -- so the call scans, within the limits of 01
  pub scan_asked : {limits : Limits} → limits ≡ standard → Modest limits × (1 ≤ limits.entries) × (has_some h' (length l') ≡ false)
  scan_asked i = (rw i (record { bytes = omega arith; levels = omega arith; entries = omega arith }), rw i (omega arith), none_given)

  pub scan_calls : {limits : Limits} {text b h₂ l₂ b₂ r : List ℕ} {a : Result Next Refusal} → limits ≡ standard → Promises limits text h' l' b h₂ l₂ b₂ r a → Promises standard text h l b h₂ l₂ b₂ r a
  scan_calls i p = rw (i, (g.stays e).0, (g.stays e).1) at p

pub ruleset scanned = (scan_asked, scan_calls)
