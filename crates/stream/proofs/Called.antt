-- A call of a stream that is held: what can be given is given; else the phase that is held says what is done.
use Prim.Native.Nat.{◌*◌, ◌/◌, ◌<◌, ◌≤◌, ℕ}
use mathlib.Core.Bool.{Bool, false, true}
use mathlib.Core.List.{List, [], ◌++◌, ◌∷◌, append-nil}
use mathlib.Core.Path.{◌∙◌, ◌≡◌, ap, refl, subst, sym}
use Rattle.std.specs.Prelude.{Result, Ok, Err}
use native.Mathlib.Omega.{arith}
use lib.Dec.{ltb}
use lib.ListN.{length}
use borrow.Author.Tests.{ltb-false, ltb-true}
use Rattle.yaml_text.specs.declared.Mark.{Mark}
use Rattle.yaml_text.specs.declared.Refusal.{Refusal}
use Rattle.yaml_text.specs.Test.{by_test}
use Rattle.yaml_lexeme.specs.Record.{record_words}
use Rattle.yaml_scan.specs.declared.Limits.{Limits}
use Rattle.yaml_scan.specs.State as definition
use Rattle.yaml_scan.specs.Slots.{Slot, flat}
use Rattle.yaml_stream.specs.Ahead.{CallsGive, there}
use Rattle.yaml_stream.specs.Answers.{ended_again}
use Rattle.yaml_stream.specs.Stream.{Called, Stream, broken, call, called, closing, fresh, least_records, refusal, scanning}
use Rattle.yaml_stream.specs.Waiting.{StreamReaches}
use Rattle.driver.specs.declared.Outcome.{Outcome}
use Rattle.driver.specs.Drives.{Drives}
use Rattle.driver.specs.Held.{Modest, held_words, phase_at, word}
use Rattle.stream.specs.declared.Next.{Next}
use Rattle.stream.specs.declared.Next.TheVariants as next
use Rattle.stream.specs.Holds.{Breaks, Calls, Closes, Holds, Lent, Promises, Says, Scans, Waits, breaks, closes, fresh_state, scans, text_given}
use Rattle.stream.specs.ScansOn.{ScansOn, then_held}
use Rattle.stream.specs.Start.{Starts}
use Rattle.stream.specs.Words.{MayGive, front_held, front_words, has_some, last_held, no_token}
use Rattle.stream.proofs.Breaks.{broken_answer}
use Rattle.stream.proofs.GivesToken.{given_calls, none_given}
use Rattle.stream.proofs.Lends.{last_ended, last_refused, none_told}
use Rattle.stream.proofs.Scanned.{Onward, scans_on}
use Rattle.stream.proofs.Starts.{starts_calls}

module _ (limits : Limits) (text h l b : List ℕ) where
  -- the first call
  pub begun_calls : {gone : List ℕ} {x : Stream} (h' r : List ℕ) (a : Result Next Refusal) → length h ≡ held_words → Modest limits → word h phase_at ≡ 0 → Starts h h' r a (fresh limits text (length l))
      → Holds limits text h l b gone x → Calls limits text b h' l b r a gone x
  begun_calls h' r a all m e w (fresh_state f g) = starts_calls limits text h h' l b r a m all w
  begun_calls h' r a all m e w (scans n d c) = absurd (omega (arith, c.phase))
  begun_calls h' r a all m e w (closes d c) = absurd (omega (arith, c.phase))
  begun_calls h' r a all m e w (breaks d f c) = absurd (omega (arith, c.phase))

  -- behind it text and words are those of that call

  still_lent : {gone : List ℕ} {x : Stream} → word h phase_at ≡ 1 → Holds limits text h l b gone x → Lent limits text l
  still_lent p (fresh_state e f) = absurd (omega arith)
  still_lent p (scans m a c) = c.lent
  still_lent p (closes a c) = c.lent
  still_lent p (breaks a e c) = absurd (omega (arith, c.phase))

  pub long_not : {h' l' b' r : List ℕ} {a : Result Next Refusal} → limits.bytes < length text → word h phase_at ≡ 1 → Promises limits text h l b h' l' b' r a
  long_not e p gone x k = absurd (omega (arith, (still_lent p k).short))

  pub few_not : {h' l' b' r : List ℕ} {a : Result Next Refusal} → length l < least_records * record_words → word h phase_at ≡ 1 → Promises limits text h l b h' l' b' r a
  few_not e p gone x k = absurd (omega (arith, (still_lent p k).records))

  -- nothing can be given

  none_left : {gone : List ℕ} {gs xs : List Slot} → has_some h (length l) ≡ false → Waits h l b gone gs xs → (1 ≤ length gs → least_records ≤ length l / record_words) → length gs ≤ 0
  none_left {gs = gs} s w f =
      by_test (ltb 0 (length gs))
      (λ e. let o = f (ltb-true 0 (length gs) e) in omega (arith, none_told h (length l) s (omega arith), w.until))
      (λ e. ltb-false 0 (length gs) e)

  ended_answer : {gone r : List ℕ} {a : Result Next Refusal} {x : Stream} (gs : List Slot) → length gs ≤ 0 → CallsGive limits (length b) x (flat gs) (closing []) → Closes limits text h l b gone gs
      → a ≡ Ok next.Ended → r ≡ no_token → Calls limits text b h l b r a gone x
  unfolding flat
  ended_answer {gone} {r} {a} [] e there c i j =
      record {
        says = subst (λ (v : Called). Says (length gone) v.answer r a) (sym (ended_again limits (length b))) (i, j);
        holds = subst (λ (v : Called). Holds limits text h l b (gone ++ text_given v.answer) v.stream) (sym (ended_again limits (length b)))
            (subst (λ (g : List ℕ). Holds limits text h l b g (closing [])) (sym (append-nil gone)) (closes there c));
      }
  ended_answer (g ∷ gs) e d c i j = absurd (omega arith)

  refused_answer : {gone r : List ℕ} {a : Result Next Refusal} {k : ℕ} {m : Mark} {x y : Stream} (gs : List Slot) → length gs ≤ 0 → CallsGive limits (length b) x (flat gs) y
      → call limits (length b) y ≡ called (refusal k m) (broken k m) → Breaks h l b gone gs k m → a ≡ Err (record { number = k; mark = m }) → r ≡ no_token
      → Calls limits text b h l b r a gone x
  unfolding flat
  refused_answer {x = x} [] e there d c i j = broken_answer x d c i j
  refused_answer (g ∷ gs) e f d c i j = absurd (omega arith)

  pub last_calls : {gone r : List ℕ} {a : Result Next Refusal} {x : Stream} → has_some h (length l) ≡ false → 1 < word h phase_at → a ≡ last_held h → r ≡ no_token → Holds limits text h l b gone x
      → Calls limits text b h l b r a gone x
  last_calls s o i j (fresh_state e f) = absurd (omega arith)
  last_calls s o i j (scans m d c) = absurd (omega (arith, c.phase))
  last_calls s o i j (closes {gs = gs} d c) = ended_answer gs (none_left s c.waits (λ _. c.lent.records)) d c (i ∙ sym (last_ended h c.phase)) j
  last_calls s o i j (breaks {gs = gs} d e c) =
      refused_answer gs (none_left s c.waits c.records) d e c (i ∙ sym (last_refused h (λ p. omega (arith, c.phase)) refl) ∙ ap (λ (f : Refusal). Err f) c.is) j

-- a call that has to scan

module _ (limits : Limits) (text h l b h₁ l₁ b₁ : List ℕ) (all : length h ≡ held_words) (m : Modest limits) (entries : 1 ≤ limits.entries) (p : word h phase_at ≡ 1)
    (none : has_some h (length l) ≡ false) (w : ScansOn limits text h l b h₁ l₁ b₁) where
  scan_first : {gone : List ℕ} {x : Stream} {s : definition.State} {n used : ℕ} {xs : List Slot} (gs : List Slot) → length gs ≤ 0
      → StreamReaches limits (length b) (fresh limits text (length l)) (scanning s n xs used) → CallsGive limits (length b) x (flat gs) (scanning s n xs used)
      → Scans limits text h l b gone gs s n xs used → Onward limits text h₁ l₁ b₁ gone x
  unfolding flat
  scan_first {gone} {s = s} {n = n} {used = used} {xs = xs} [] e r there c = scans_on limits text h l b gone s n used xs m entries all r c h₁ l₁ b₁ w
  scan_first (g ∷ gs) e r a c = absurd (omega arith)

  scan_holds : {gone : List ℕ} {x : Stream} → Holds limits text h l b gone x → Onward limits text h₁ l₁ b₁ gone x
  scan_holds (fresh_state e f) = absurd (omega arith)
  scan_holds (scans {gs = gs} r a c) = scan_first gs (none_left limits text h l b none c.waits (λ _. c.lent.records)) r a c
  scan_holds (closes a c) = absurd (omega (arith, c.phase))
  scan_holds (breaks a e c) = absurd (omega (arith, c.phase))

  calls_as : {h' l' r gone : List ℕ} {a : Result Next Refusal} {x : Stream} → Calls limits text b₁ h' l' b₁ r a gone x → Calls limits text b h' l' b₁ r a gone x
  calls_as {h'} {l'} {r} {gone} {a} {x} k =
      record {
        says = subst (λ (n : ℕ). Says (length gone) (call limits n x).answer r a) w.same_bytes k.says;
        holds = subst (λ (n : ℕ). Holds limits text h' l' b₁ (gone ++ text_given (call limits n x).answer) (call limits n x).stream) w.same_bytes k.holds;
      }

  module _ {t h' l' t' : List ℕ} {v : Bool} (g : MayGive h₁ l₁ t h' l' t' v) where
    pub scan_gives : length h₁ ≡ held_words → v ≡ true → Promises limits text h l b h' l' b₁ t' (Ok next.Token)
    scan_gives all₁ e gone x k = calls_as (given_calls limits text h₁ l₁ b₁ g all₁ e gone x (scan_holds k).holds)

    pub scan_last : {r : List ℕ} {a : Result Next Refusal} → v ≡ false → a ≡ last_held h' → r ≡ no_token → Promises limits text h l b h' l' b₁ r a
    scan_last e i j gone x k =
        let o = scan_holds k in
        let z = g.stays e in
        calls_as (last_calls limits text h' l' b₁ (none_given g e) (rw z.0 (o.done (sym g.told ∙ e))) i j (rw (z.0, z.1) o.holds))

-- the parts of a scan
pub scan_told : (limits : Limits) (text h l b h₁ l₁ held h' l' b' : List ℕ) (o v : Result Outcome Refusal) → (h₁ ≡ front_held h) × (l₁ ≡ front_words h l) → Drives limits true text h₁ l₁ b held l' b' o
    → o ≡ v → length l' ≡ length l₁ → length b' ≡ length b → h' ≡ then_held held v → ScansOn limits text h l b h' l' b'
scan_told limits text h l b h₁ l₁ held h' l' b' o v e d i j k t =
    record { outcome = v; held = held; steps = rw (e.0, e.1, i) at d; same_words = j ∙ ap length e.1; same_bytes = k; then = t }

-- no stream is held that was begun with another text or other words
pub ruleset lent_others = (long_not, few_not)
