-- Behind a step, where tokens are given one at a time: the candidate of a level stands in its frame, and a level that is not open has none.
use Prim.Native.Nat.{◌+◌, ◌-◌, ◌<◌, ◌≤◌, suc, zero, ℕ}
use mathlib.Core.Bool.{Bool, false, true}
use mathlib.Core.List.{List}
use mathlib.Core.Path.{◌≡◌, ap, refl, sym}
use native.Mathlib.Nat.{not-suc-le-zero}
use native.Mathlib.Omega.{arith}
use lib.Dec.{eqb, ltb}
use borrow.Author.Tests.{eqb-false, eqb-true, ltb-false, ltb-true, ne_eqb}
use Rattle.yaml_text.specs.declared.Mark.{Mark}
use Rattle.yaml_text.specs.Mark.{origin}
use Rattle.yaml_text.specs.Pick.{pick}
use Rattle.yaml_text.specs.Test.{by_pick, by_test}
use Rattle.yaml_scan.specs.declared.Candidate.{Candidate}
use Rattle.yaml_scan.specs.declared.Candidate.TheVariants.{Absent, Possible}
use Rattle.yaml_stream.specs.Stream.{most_waiting, too_many_wait}
use Rattle.yaml_stream.specs.Levels.{level_key}
use Rattle.yaml_stream.specs.Lowest.{names}
use Rattle.stacks.specs.Frame.{frame_keys, key_of, keys_length}
use Rattle.events.specs.declared.Counts.{Counts}
use Rattle.stream_laws.specs.declared.Pending.{Pending}
use Rattle.stream_laws.specs.Driven.{Halt, crowded, go_on, if_enough, one_by_one, pause, refuse, slots_ahead, test_of, then_pending}

pub key_open : (e : List ℕ) (l d : ℕ) → l < d → level_key l (frame_keys e d) ≡ key_of e l
unfolding frame_keys level_key
key_open e l zero h = absurd (not-suc-le-zero h)
key_open e l (suc d) h =
    by_test (eqb l d)
    (λ q. rw (keys_length e d, q, level_key) (ap (λ (k : ℕ). key_of e k) (sym (eqb-true l d q))))
    (λ q. rw (keys_length e d, q, level_key) (key_open e l d (by_other q)))
  where
    by_other : eqb l d ≡ false → l < d
    by_other q = by_test (ltb l d) (λ i. ltb-true l d i) (λ i. absurd (eqb-false l d q (omega (arith, ltb-false l d i))))

pub key_closed : (e : List ℕ) (l d : ℕ) → d ≤ l → level_key l (frame_keys e d) ≡ Absent
unfolding frame_keys level_key
key_closed e l zero h = refl
key_closed e l (suc d) h = let o : l ≡ d → ⊥ = λ i. omega arith in rw (keys_length e d, ne_eqb l d o, level_key) (key_closed e l d (omega arith))

module _ (room base : ℕ) (w : Pending) (level : ℕ) (e : List ℕ) (d : ℕ) (p : Mark) (m : Counts) where
  abbrev says : Halt
  says = one_by_one room base w level (frame_keys e (suc d)) d p m
  -- the next that is pending

-- what is pending then

pub then_least : {base : ℕ} {v : Pending} (level : ℕ) (ks : List Candidate) (flow : ℕ) (m : Counts) → base < m.count → v ≡ then_pending level ks flow m → base ≤ v.number
unfolding then_pending
then_least {base} level ks flow m h e =
    rw e
    (by_pick (λ (v : Pending). base ≤ v.number) (names (m.count - 1) (level_key level ks)) (record { number = m.count - 1; level = level; put_in = m.put_in })
    (record { number = m.count; level = flow; put_in = m.put_in }) (omega arith) (omega arith))

-- the candidate of a level by its number

pub named : (k : ℕ) {required : Bool} {n : ℕ} {m : Mark} {c : Candidate} → c ≡ Possible required n m → eqb k n ≡ names k c
unfolding names
named k e = rw e

pub not_named : (k : ℕ) {c : Candidate} → c ≡ Absent → false ≡ names k c
unfolding names
not_named k e = rw e

-- which level has that number
pub ruleset named_level = (key_open, key_closed, named, not_named)

-- what is pending has a number from that of slot 0 up to the count, and a level that is within the limits

pub record Fits (base : ℕ) (m : Counts) (w : Pending) : Type 0 where
  pub least : base ≤ w.number
  pub within : w.number ≤ m.count
  pub low : w.level ≤ 255
  pub fewer : w.put_in ≤ m.put_in

abbrev pub HaltFits : ℕ → Counts → Halt → Type 0
HaltFits base m (go_on w) = Fits base m w
HaltFits base m (pause w) = Fits base m w
HaltFits base m (refuse k p) = Unit {0}

module _ (base : ℕ) (m : Counts) (more : base < m.count) where
  then_fits : (level : ℕ) (ks : List Candidate) (flow : ℕ) → level ≤ 255 → flow ≤ 255 → Fits base m (then_pending level ks flow m)
  unfolding then_pending
  then_fits level ks flow h k =
      by_pick (Fits base m) (names (m.count - 1) (level_key level ks)) (record { number = m.count - 1; level = level; put_in = m.put_in })
      (record { number = m.count; level = flow; put_in = m.put_in })
      (record { least = omega arith; within = omega arith; low = h; fewer = omega arith })
      (record { least = omega arith; within = omega arith; low = k; fewer = omega arith })

  enough_fits : (w : Pending) → Fits base m w → HaltFits base m (if_enough base w)
  unfolding if_enough
  enough_fits w f = by_pick (HaltFits base m) (ltb (w.number - base) slots_ahead) (go_on w) (pause w) f f

  crowded_fits : (w : Pending) (p : Mark) → Fits base m w → HaltFits base m (crowded w m p)
  unfolding crowded
  crowded_fits w p f =
      by_pick (HaltFits base m) (ltb most_waiting (m.count - w.number + (m.put_in - w.put_in))) (refuse too_many_wait p) (go_on w) tt f

  -- and so has what is pending behind the test
  pub test_fits : (one : Bool) (room : ℕ) (w : Pending) (level : ℕ) (ks : List Candidate) (flow : ℕ) (p : Mark) → Fits base m w → level ≤ 255 → flow ≤ 255
      → HaltFits base m (test_of one room base w level ks flow p m)
  unfolding one_by_one
  test_fits false room w level ks flow p f h k = f
  test_fits true room w level ks flow p f h k =
      by_pick (HaltFits base m) (ltb room m.used) (refuse 5 origin)
      (pick (names w.number (level_key w.level ks)) (crowded w m p) (if_enough base (then_pending level ks flow m))) tt
      (by_pick (HaltFits base m) (names w.number (level_key w.level ks)) (crowded w m p) (if_enough base (then_pending level ks flow m)) (crowded_fits w p f)
      (enough_fits (then_pending level ks flow m) (then_fits level ks flow h k)))

-- what is held then
