-- Theorems about specs/Given, and what rests on them.
use Prim.Native.Nat.{◌+◌, ◌<◌, ◌≤◌, suc, zero, ℕ}
use Rattle.std.specs.Prelude.{Bool, false, not, true, ◌≡◌, ltb}
use mathlib.Core.List.{List, [], ◌++◌, ◌∷◌}
use Rattle.std.proofs.Math.Logic.{inl}
use Rattle.std.proofs.Common.{inr, ◌∙◌, sym, le_refl, not-suc-le-zero, arith}
use Rattle.std.proofs.Math.Path.{ap, refl}
use Rattle.std.proofs.Math.ListN.{length}
use borrow.Author.Tests.{ltb-true}
use Rattle.yaml_text.specs.declared.Mark.{Mark}
use Rattle.yaml_text.specs.Test.{both_true, by_test, true_false}
use Rattle.yaml_text.specs.All.{all_both}
use Rattle.yaml_text.specs.PlaceLaws.{left}
use Rattle.yaml_lexeme.specs.Token.{Token, texts}
use Rattle.yaml_scan.specs.declared.Limits.{Limits}
use Rattle.yaml_scan.specs.State.{State}
use Rattle.yaml_scan.specs.Scan.{step}
use Rattle.yaml_scan.specs.Slots.{Slot, flat, slot}
use Rattle.yaml_scan.specs.SlotLaws.{total}
use Rattle.yaml_scan.proofs.Runs.{step_news}
use Rattle.yaml_scan.specs.Budget.{on_news}
use Rattle.yaml_stream.specs.Stream.{Heard, Next, Stream, after_news, behind, brings, broken, budget, call, closing, crowded, ended, first_of, fresh, give, hear, heard, most_waiting, on_answer, possible, ready, refusal, scanning, sought, spent, stepped, token, waits}
use Rattle.yaml_stream.specs.Kept.{From, step_keeps}
use Rattle.yaml_stream.specs.Tale.{Close, at_end, built, in_step, tale, tale_notes, told}
use Rattle.yaml_stream.specs.Sizes.{brings_append, total_append}
use Rattle.yaml_stream.proofs.Seeks.{found_ready}
use Rattle.yaml_stream.specs.Waits.{from_next, waits_append, waits_length, waits_past, waits_total}
use Rattle.yaml_stream.specs.Given.{Own, StillGives, Owes, Answered, CallAnswers, Ends, Hears, fresh_owes, bytes_full, many_wait, whole, by_rule, by_own, finished, so_far}

module _ (limits : Limits) (words room : ℕ) (list : List Token) where
  behind_owes : {us : List Token} {c : Close} (s : State) (n : ℕ) (xs : List Slot) (used : ℕ) → (StillGives limits words room list) s n xs used us c → (Owes limits words room list) us c (behind room s n xs used)
  unfolding behind crowded
  behind_owes s n xs used h =
      by_test (ltb room used)
      (λ e. rw (e, behind) (inr (bytes_full (omega (arith, ltb-true room used e, h.bytes_left)))))
      (λ e. by_test (crowded s n xs)
      (λ f. rw (e, f, behind) (inr (many_wait (omega (arith, ltb-true most_waiting (length (flat xs)) (both_true (ltb most_waiting (length (flat xs))) _ f).0, h.tokens_left)))))
      (λ f. rw (e, f, behind) h))

  turn_owes : (k : ℕ) (s : State) (n : ℕ) (xs : List Slot) (used : ℕ) → left s.place < suc k → From n s.keys → n + length xs ≡ s.count
      → used + brings (tale limits (suc k) s).events ≤ length (texts list) → length (flat xs) + total (tale limits (suc k) s).events ≤ length list
      → (Owes limits words room list) (flat (waits n xs (tale limits (suc k) s).events)) (tale limits (suc k) s).close (after_news room n xs used (step limits s))
  unfolding tale
  turn_owes k s n xs used b h e =
      on_news
      (λ r. let t = in_step r (λ u. tale limits k u) in used + brings t.events ≤ length (texts list) → length (flat xs) + total t.events ≤ length list
      → (Owes limits words room list) (flat (waits n xs t.events)) t.close (after_news room n xs used r))
      (all_both (step_news [] limits s) (step_keeps n limits s (omega arith) h))
      (λ es t i d l. let fs = (tale limits k t).events in behind_owes t n (waits n xs es) (used + brings es) (record {
        steps = k;
        enough = omega (arith, i.0.takes);
        from = i.1.1;
        counted = omega (arith, waits_length n xs es, i.1.2);
        tokens = ap flat (waits_append n xs es fs);
        close = refl;
        bytes_left = omega (arith, brings_append es fs);
        tokens_left = omega (arith, total_append es fs, waits_total n xs es);
      }))
      (λ es _ _ _. (refl, refl)) (λ _ _ _ _. inl refl)

  pub stepped_owes : (us : List Token) (c : Close) (x : Stream) → (Owes limits words room list) us c x → (Owes limits words room list) us c (stepped limits room x)
  unfolding stepped
  stepped_owes us c (scanning s n xs used) h = by_steps h.steps h.enough h.tokens h.close h.bytes_left h.tokens_left
    where
      by_steps : (k : ℕ) → left s.place < k → us ≡ flat (waits n xs (tale limits k s).events) → c ≡ (tale limits k s).close
          → used + brings (tale limits k s).events ≤ length (texts list) → length (flat xs) + total (tale limits k s).events ≤ length list
          → (Owes limits words room list) us c (after_news room n xs used (step limits s))
      by_steps zero b e f d l = absurd (not-suc-le-zero b)
      by_steps (suc k) b e f d l = rw (e, f) (turn_owes k s n xs used b h.from h.counted d l)
  stepped_owes us c (closing xs) h = h
  stepped_owes us c (broken k m) h = h

  pub sought_owes : (us : List Token) (c : Close) (k : ℕ) (x : Stream) → (Owes limits words room list) us c x → (Owes limits words room list) us c (sought limits room k x)
  unfolding sought
  sought_owes us c zero x h = h
  sought_owes us c (suc k) x h =
      by_test (ready x)
      (λ e. rw (e, sought) h)
      (λ e. rw (e, sought) (sought_owes us c k (stepped limits room x) (stepped_owes us c x h)))

not_possible : (b : Bool) → not b ≡ true → b ≡ false
not_possible true e = true_false (sym e)
not_possible false e = refl

module _ (limits : Limits) (words room : ℕ) (list : List Token) where
  -- the first slot's token is no possible key
  first_scanned : {us : List Token} {c : Close} (s : State) (n : ℕ) (bs : List Token) (t : Token) (xs : List Slot) (used : ℕ)
      → StillGives limits words room list s n (slot t bs ∷ xs) used us c → possible n s.keys ≡ false → (CallAnswers limits words room list) us c (first_of (λ k ys. scanning s k ys used) n bs t xs)
  unfolding first_of flat
  first_scanned s n [] t xs used h e =
      let f = from_next n s.keys h.from e in
      let es = (tale limits h.steps s).events in
      let w = waits_past n (slot t []) xs es (tale_notes (suc n) limits h.steps s (omega (arith, h.counted)) f) in (
        flat (waits (suc n) xs es),
        h.tokens ∙ ap flat w,
        record {
          steps = h.steps;
          enough = h.enough;
          from = f;
          counted = omega (arith, h.counted);
          tokens = refl;
          close = h.close;
          bytes_left = h.bytes_left;
          tokens_left = omega (arith, h.tokens_left);
        },
      )
  first_scanned s n (b ∷ bs) t xs used h e =
      let f = from_next n s.keys h.from e in
      let es = (tale limits h.steps s).events in
      let i = tale_notes (suc n) limits h.steps s (omega (arith, h.counted)) f in
      let w = waits_past n (slot t (b ∷ bs)) xs es i in
      let v = waits_past n (slot t bs) xs es i in (
        flat (waits n (slot t bs ∷ xs) es),
        h.tokens ∙ ap flat w ∙ ap (λ (ys : List Slot). b ∷ flat ys) (sym v),
        record {
          steps = h.steps;
          enough = h.enough;
          from = h.from;
          counted = h.counted;
          tokens = refl;
          close = h.close;
          bytes_left = h.bytes_left;
          tokens_left = omega (arith, h.tokens_left);
        },
      )

  first_closing : {us : List Token} {c : Close} (bs : List Token) (t : Token) (xs : List Slot) → us ≡ bs ++ (t ∷ flat xs) → c ≡ at_end
      → (CallAnswers limits words room list) us c (first_of (λ _ ys. closing ys) 0 bs t xs)
  unfolding first_of flat
  first_closing [] t xs e f = (flat xs, e, (refl, f))
  first_closing (b ∷ bs) t xs e f = (bs ++ (t ∷ flat xs), e, (refl, f))

  give_answers : (us : List Token) (c : Close) (x : Stream) → ready x ≡ true → Owes limits words room list us c x → (CallAnswers limits words room list) us c (give x)
  unfolding give ready flat
  give_answers us c (scanning s n [] used) r h = true_false (sym r)
  give_answers us c (scanning s n (x ∷ xs) used) r h =
      let e = not_possible (possible n s.keys) r in
      rw (e, give) (first_scanned s n x.before x.token xs used h e)
  give_answers us c (closing []) r h = h
  give_answers us c (closing (x ∷ xs)) r h = first_closing x.before x.token xs h.0 h.1
  give_answers us c (broken k m) r h = h

  pub call_answers : (us : List Token) (c : Close) (x : Stream) → Owes limits words room list us c x → (CallAnswers limits words room list) us c (call limits room x)
  unfolding call
  call_answers us c x h =
      give_answers us c (sought limits room (budget x) x) (found_ready limits room (budget x) x (le_refl _)) (sought_owes limits words room list us c (budget x) x h)

ends_more : {P : ℕ → Mark → Type 0} {us vs : List Token} {c : Close} {h : Heard} (t : Token) → us ≡ t ∷ vs → Ends P vs c h → Ends P us c (heard (t ∷ h.tokens) h.last)
ends_more t e (whole f) = rw e (whole f)
ends_more t e (by_rule vs f g) = by_rule vs (e ∙ ap (λ (us : List Token). t ∷ us) f) g
ends_more t e (by_own vs f g) = by_own vs (e ∙ ap (λ (us : List Token). t ∷ us) f) g

hears_more : {P : ℕ → Mark → Type 0} {us vs : List Token} {c : Close} {k : ℕ} {h : Heard} (t : Token) → us ≡ t ∷ vs → Hears P vs c k h → Hears P us c (suc k) (heard (t ∷ h.tokens) h.last)
hears_more t e (finished h) = finished (ends_more t e h)
hears_more t e (so_far vs f g) = so_far vs (e ∙ ap (λ (us : List Token). t ∷ us) f) (ap suc g)

module _ (limits : Limits) (words room : ℕ) (list : List Token) where
  hears_answer : (us : List Token) (c : Close) (k : ℕ) (go : Stream → Heard)
      → ((vs : List Token) (y : Stream) → Owes limits words room list vs c y → Hears (Own words room list) vs c k (go y))
      → (a : Next) (x : Stream) → Answered limits words room list us c a x → Hears (Own words room list) us c (suc k) (on_answer a x go)
  hears_answer us c k go h (token t) x a = hears_more t a.1 (h a.0 x a.2)
  hears_answer us c k go h ended x a = rw a.0 (finished (whole a.1))
  hears_answer us c k go h (refusal n m) x (inl e) = finished (by_rule us refl e)
  hears_answer us c k go h (refusal n m) x (inr o) = finished (by_own us refl o)
  hears_answer us c k go h spent x a = absurd a

  pub hear_hears : (us : List Token) (c : Close) (k : ℕ) (x : Stream) → Owes limits words room list us c x → Hears (Own words room list) us c k (hear limits room k x)
  unfolding hear
  hear_hears us c zero x h = so_far us refl refl
  hear_hears us c (suc k) x h =
      let a = call limits room x in
      hears_answer us c k (λ y. hear limits room k y) (λ vs y o. hear_hears vs c k y o) a.answer a.stream (call_answers limits words room list us c x h)

-- from a fresh state, whatever the number of calls
pub stream_hears : (limits : Limits) (bytes : List ℕ) (words room k : ℕ)
    → Hears (Own words room (built limits bytes)) (built limits bytes) (told limits bytes).close k (hear limits room k (fresh limits bytes words))
stream_hears limits bytes words room k =
    hear_hears limits words room (built limits bytes) (built limits bytes) (told limits bytes).close k (fresh limits bytes words) (fresh_owes limits bytes words room)
