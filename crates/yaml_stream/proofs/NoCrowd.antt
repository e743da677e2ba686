-- Theorems about specs/NoCrowd, and what rests on them.
use Rattle.std.specs.Prelude.{◌*◌, ◌+◌, ◌≤◌, suc, ℕ, false, true, List, [], ◌∷◌, refl, ltb, length}
use Rattle.std.proofs.Math.Path.{◌≡◌}
use native.Mathlib.Omega.{arith}
use borrow.Author.Tests.{ltb-true}
use Rattle.yaml_text.specs.declared.Mark.{Mark}
use Rattle.yaml_text.specs.Refusal.{Read, got, refused}
use Rattle.yaml_text.specs.Test.{both_true}
use Rattle.yaml_text.specs.All.{all_got}
use Rattle.yaml_lexeme.specs.Token.{Token}
use Rattle.yaml_scan.specs.declared.Limits.{Limits}
use Rattle.yaml_scan.specs.State.{Event, News, State, ends_with, goes_on}
use Rattle.yaml_scan.specs.Scan.{begin, run, scanned, step, stopped}
use Rattle.yaml_scan.specs.Slots.{Slot, flat}
use Rattle.yaml_scan.specs.Runs.{StepsReach, here, then_step}
use Rattle.theorems.specs.Accepted.{Accepts}
use Rattle.yaml_stream.specs.Stream.{Stream, after_news, broken, closing, crowded, fresh, give, most_waiting, possible, ready, scanning, too_many_wait, waits}
use Rattle.yaml_stream.specs.Kept.{puts_append}
use Rattle.yaml_stream.specs.Waits.{waits_length}
use Rattle.yaml_stream.specs.Changes.{behind_by, fresh_decoded, stepped_by}
use Rattle.yaml_stream.proofs.Changes.{give_by}
use Rattle.yaml_stream.specs.Waiting.{StreamReaches, not_false, reaches_by}
use Rattle.yaml_stream.specs.Tight.{Thin, step_thin, thin_flat, thin_waits}
use Rattle.yaml_stream.specs.Orderly.{Orderly}
use Rattle.yaml_stream.specs.KeysNear.{accepted_run, run_rest, stream_start}
use Rattle.yaml_stream.proofs.KeysNear.{key_near, reached_count}

module _ (limits : Limits) (bytes : List ℕ) (ts : List Token) (c : ℕ) (a : Accepts limits bytes ts) (orderly : Orderly c stream_start stream_start ts) where
  -- a state of the run, and what waits
  record OnRun (s : State) (n : ℕ) (xs : List Slot) : Type 0 where
    said : List Event
    reached : StepsReach limits (begin (accepted_run a).text) said s
    counted : n + length xs ≡ s.count
    thin : Thin xs

  -- few wait behind a possible key
  few : {s : State} {n : ℕ} {xs : List Slot} → OnRun s n xs → possible n s.keys ≡ true → length (flat xs) ≤ 3 * suc c
  few {n = n} {xs = xs} h e = omega (arith, thin_flat xs h.thin, key_near c a orderly h.reached n e, h.counted)

  goes : {s t : State} {n : ℕ} {xs : List Slot} {es : List Event} → OnRun s n xs → step limits s ≡ got (goes_on es t) → OnRun t n (waits n xs es)
  goes {s} {n = n} {xs = xs} {es = es} h e =
      let r = then_step h.reached e in
      record {
        said = _;
        reached = r;
        counted = omega (arith, reached_count _ h.reached, reached_count _ r, puts_append h.said es, waits_length n xs es, h.counted);
        thin = thin_waits n xs es (all_got (step_thin limits s) e) h.thin;
      }

  -- no step refuses
  no_refusal : {s : State} {n : ℕ} {xs : List Slot} → OnRun s n xs → (k : ℕ) (m : Mark) → step limits s ≡ refused k m → ⊥
  unfolding run
  no_refusal h k m e =
      let f = run_rest (accepted_run a) h.reached in
      let g : stopped k m ≡ scanned f.0 = rw (e, run) at f.1 in
      let z : ◌≡◌ {A = ℕ} 0 1 = cc in
      omega arith

  abbrev On : Stream → Type 0
  On (scanning s n xs used) = OnRun s n xs
  On (closing xs) = Unit {0}
  On (broken k m) = k ≡ too_many_wait → ⊥

  module _ (room : ℕ) (fits : 3 * suc c ≤ most_waiting) where
    not_crowded : {s : State} {n : ℕ} {xs : List Slot} → OnRun s n xs → crowded s n xs ≡ true → ⊥
    unfolding crowded
    not_crowded {s} {n} {xs} h e =
        let f = both_true (ltb most_waiting (length (flat xs))) (possible n s.keys) e in
        omega (arith, ltb-true most_waiting (length (flat xs)) f.0, few h f.1)

    step_on : (s : State) (n : ℕ) (xs : List Slot) (used : ℕ) → OnRun s n xs → On (after_news room n xs used (step limits s))
    step_on s n xs used h = by_news (step limits s) refl
      where
        by_news : (r : Read News) → step limits s ≡ r → On (after_news room n xs used r)
        by_news (got (goes_on es t)) e = let k = goes h e in behind_by On room t n (waits n xs es) _ (λ z. omega arith) (λ f. absurd (not_crowded k f)) (λ _. k)
        by_news (got (ends_with es)) e = tt
        by_news (refused k m) e = absurd (no_refusal h k m e)

    fresh_on : (words : ℕ) → On (fresh limits bytes words)
    fresh_on words =
        fresh_decoded On limits bytes words (λ z. omega arith) (λ z. omega arith) (accepted_run a).text (accepted_run a).decoded
        (λ _. record { said = []; reached = here; counted = refl; thin = (omega arith, tt) })

    give_on : (x : Stream) → On x → On (give x).stream
    give_on x h =
        give_by On
        (λ s n used b bs t xs k. record { said = k.said; reached = k.reached; counted = k.counted; thin = (omega (arith, k.thin.0), k.thin.1) })
        (λ s n used t xs e k. record { said = k.said; reached = k.reached; counted = omega (arith, k.counted); thin = k.thin.1 })
        (λ b bs t xs k. tt) (λ t xs k. tt) x h

    reaches_on : {y : Stream} (words : ℕ) → StreamReaches limits room (fresh limits bytes words) y → On y
    reaches_on words r =
        reaches_by On limits room (λ x h e. stepped_by On limits room (λ s n xs used i _. step_on s n xs used i) x h e) give_on (fresh_on words) r

    -- whatever words and bytes are lent, the stream of such a text never meets 51
    pub orderly_no_51 : (words : ℕ) (m : Mark) → StreamReaches limits room (fresh limits bytes words) (broken too_many_wait m) → ⊥
    orderly_no_51 words m r = reaches_on words r refl

    -- and before each step at most 3 * (c + 1) tokens wait
    pub orderly_waits : {s : State} {n used : ℕ} {xs : List Slot} (words : ℕ) → StreamReaches limits room (fresh limits bytes words) (scanning s n xs used)
        → ready (scanning s n xs used) ≡ false → length (flat xs) ≤ 3 * suc c
    unfolding ready flat
    orderly_waits {s} {n} {xs = []} words r e = omega arith
    orderly_waits {s} {n} {xs = x ∷ xs} words r e = few (reaches_on words r) (not_false (possible n s.keys) e)
