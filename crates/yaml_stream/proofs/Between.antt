-- Theorems about specs/Between, and what rests on them.
use Rattle.std.specs.Prelude.{suc, zero, ℕ, false, true, List, [], ◌∷◌, ◌⊎◌, ◌≡◌, refl, ltb, length}
use Rattle.std.proofs.Common.{inl, inr, ◌∙◌, ap, sym, le_refl, arith, ltb-false, ltb-true}
use Rattle.yaml_text.specs.Mark.{origin}
use Rattle.yaml_text.specs.Refusal.{Read, got, refused}
use Rattle.yaml_text.specs.Test.{by_test, true_false}
use Rattle.yaml_text.specs.All.{all_got}
use Rattle.yaml_lexeme.specs.Token.{StreamStart, Token, empty_token}
use Rattle.yaml_scan.specs.declared.Candidate.TheVariants.{Absent}
use Rattle.yaml_scan.specs.declared.Limits.{Limits}
use Rattle.yaml_scan.specs.State.{Event, News, State, ends_with, goes_on}
use Rattle.yaml_scan.specs.Scan.{begin, step}
use Rattle.yaml_scan.specs.Slots.{Slot, slot}
use Rattle.yaml_stream.specs.Stream.{Called, Stream, after_news, behind, broken, budget, call, closing, fresh, give, possible, ready, scanning, sought, stepped, waits}
use Rattle.yaml_stream.specs.Kept.{From}
use Rattle.yaml_stream.specs.Changes.{behind_by, fresh_by}
use Rattle.yaml_stream.proofs.Changes.{give_by}
use Rattle.yaml_stream.specs.Alone.{LastOf}
use Rattle.yaml_stream.proofs.Alone.{step_last}
use Rattle.yaml_stream.specs.Waiting.{Held, StreamKeeps, waits_then}
use Rattle.yaml_stream.proofs.Waiting.{holds_before, reaches_keeps, stepped_keeps}
use Rattle.yaml_stream.specs.Answers.{Comes, here, then_call}
use Rattle.yaml_stream.specs.Levels.{OnLevel}
use Rattle.yaml_stream.proofs.Levels.{new_on, on_absents, on_none}
use Rattle.yaml_stream.proofs.Seeks.{found_ready}
use Rattle.yaml_stream.specs.Between.{BetweenCalls, BetweenIn, from_not, Pauses, between_given, between_part, still_first, comes_reaches}

pub step_pauses : (limits : Limits) (s : State) (n : ℕ) (xs : List Slot) (used : ℕ) → Held limits s n xs → ready (scanning s n xs used) ≡ false → (es : List Event) (t : State)
    → step limits s ≡ got (goes_on es t) → Pauses s n xs (goes_on es t)
step_pauses limits s n xs used h r es t e = by_alone (m.1.alone (holds_before used h r))
  where
    m : LastOf n s (goes_on es t)
    m = all_got (step_last n limits s) e

    later : From m.0 t.keys → (i : ℕ) → OnLevel i (length s.levels) t.keys
    later f i =
        by_test (ltb i m.0)
        (λ b. on_none i (length s.levels) t.keys (from_not i m.0 t.keys f (ltb-true i m.0 b)))
        (λ b. let c = ltb-false i m.0 b in new_on i limits s es t e h.levelled h.falls (omega (arith, m.1.numbered)))

    by_alone : (possible n t.keys ≡ true) ⊎ From m.0 t.keys → Pauses s n xs (goes_on es t)
    by_alone (inl p) = inl p
    by_alone (inr f) = inr (record {
      level = later f;
      others_not = λ i b. from_not i m.0 t.keys f (omega (arith, m.2));
      bare = inr (record { others = waits n xs m.1.front; last = m.1.last; is = waits_then n xs es m.1.front m.1.last m.1.is });
    })

pub give_between : (x : Stream) → BetweenIn x → BetweenIn (give x).stream
give_between x h =
    give_by BetweenIn (λ s n used b bs t xs k. (k.0, between_part k.1)) (λ s n used t xs e k. (k.0, between_given k.1)) (λ b bs t xs k. tt) (λ t xs k. tt) x h

-- within it the first waiting token is a possible key, or it is as between two
abbrev MidIn : Stream → Type 0
MidIn x = (ready x ≡ false) ⊎ BetweenIn x

pauses_mid : (s t : State) (n : ℕ) (xs : List Slot) (es : List Event) (used : ℕ) → Pauses s n xs (goes_on es t) → MidIn (scanning t n (waits n xs es) used)
pauses_mid s t n xs es used (inl p) = inl (still_first t n (waits n xs es) used p)
pauses_mid s t n xs es used (inr b) = inr (length s.levels, b)

behind_mid : (room : ℕ) (s : State) (n : ℕ) (xs : List Slot) (used : ℕ) → MidIn (scanning s n xs used) → MidIn (behind room s n xs used)
behind_mid room s n xs used h = behind_by MidIn room s n xs used (inr tt) (λ _. inr tt) (λ _. h)

stepped_mid : (limits : Limits) (room : ℕ) (x : Stream) → StreamKeeps limits x → ready x ≡ false → MidIn (stepped limits room x)
unfolding stepped
stepped_mid limits room (scanning s n xs used) h r = by_step (step limits s) refl
  where
    by_step : (w : Read News) → step limits s ≡ w → MidIn (after_news room n xs used w)
    by_step (got (goes_on es t)) e = behind_mid room t n (waits n xs es) _ (pauses_mid s t n xs es _ (step_pauses limits s n xs used h r es t e))
    by_step (got (ends_with es)) e = inr tt
    by_step (refused k m) e = inr tt
stepped_mid limits room (closing xs) h r = inr tt
stepped_mid limits room (broken k m) h r = inr tt

sought_mid : (limits : Limits) (room k : ℕ) (x : Stream) → StreamKeeps limits x → MidIn x → MidIn (sought limits room k x)
unfolding sought
sought_mid limits room zero x h m = m
sought_mid limits room (suc k) x h m =
    by_test (ready x)
    (λ e. rw (e, sought) m)
    (λ e. rw (e, sought) (sought_mid limits room k (stepped limits room x) (stepped_keeps limits room x h e) (stepped_mid limits room x h e)))

pub call_between : (limits : Limits) (room : ℕ) (x : Stream) → StreamKeeps limits x → BetweenIn x → BetweenIn (call limits room x).stream
unfolding call
call_between limits room x h b =
    give_between (sought limits room (budget x) x) (by_mid (sought limits room (budget x) x) (found_ready limits room (budget x) x (le_refl _)) (sought_mid limits room (budget x) x h (inr b)))
  where
    by_mid : (y : Stream) → ready y ≡ true → MidIn y → BetweenIn y
    by_mid y e (inl f) = true_false (sym e ∙ f)
    by_mid y e (inr c) = c

-- whatever level is noted for it
pub begin_between : (l : ℕ) (cs : List ℕ) → BetweenCalls l (begin cs) 0 (slot (empty_token StreamStart origin) [] ∷ [])
begin_between l cs =
    record { level = λ i. on_absents i l (Absent ∷ []) tt; others_not = λ i b. absurd (omega arith); bare = inr (record { others = []; last = empty_token StreamStart origin; is = refl }) }

pub fresh_between : (limits : Limits) (bytes : List ℕ) (words : ℕ) → BetweenIn (fresh limits bytes words)
fresh_between limits bytes words = fresh_by BetweenIn limits bytes words tt tt (λ k m. tt) (λ cs _. (0, begin_between 0 cs))

pub comes_between : (limits : Limits) (room : ℕ) {x y : Stream} {ts : List Token} → StreamKeeps limits x → BetweenIn x → Comes limits room x ts y → BetweenIn y
comes_between limits room h b here = b
comes_between limits room h b (then_call {y = y} r e) =
    let k = reaches_keeps limits room h (comes_reaches limits room r) in
    rw (ap (λ (c : Called). c.stream) e) at (call_between limits room y k (comes_between limits room h b r))
