-- Theorems about specs/Seeks, and what rests on them.
use Prim.Native.Nat.{◌+◌, ◌<◌, ◌≤◌, suc, zero, ℕ}
use Rattle.std.specs.Prelude.{false, true, List, [], ◌≡◌, ltb}
use Rattle.std.proofs.Common.{◌∙◌, sym, not-suc-le-zero, arith, ltb-false, ltb-true}
use Rattle.std.proofs.Math.Path.{ap, refl}
use Rattle.yaml_text.specs.Test.{by_test, true_false}
use Rattle.yaml_text.specs.PlaceLaws.{left}
use Rattle.yaml_scan.specs.declared.Limits.{Limits}
use Rattle.yaml_scan.specs.State.{State}
use Rattle.yaml_scan.specs.Slots.{Slot}
use Rattle.yaml_scan.specs.Budget.{on_news}
use Rattle.yaml_scan.proofs.Runs.{step_news}
use Rattle.yaml_stream.specs.Stream.{Stream, after_news, behind, brings, broken, budget, call, closing, give, ready, scanning, sought, stepped, waits}
use Rattle.yaml_stream.specs.Changes.{behind_by}
use Rattle.yaml_stream.specs.Seeks.{sought_here, sought_on}

behind_budget : (room : ℕ) (s : State) (n : ℕ) (xs : List Slot) (used : ℕ) → budget (behind room s n xs used) ≤ suc (left s.place)
unfolding budget
behind_budget room s n xs used =
    behind_by (λ x. budget x ≤ suc (left s.place)) room s n xs used (omega arith) (λ _. omega arith) (λ _. omega arith)

-- a step uses up budget
pub stepped_less : (limits : Limits) (room : ℕ) (x : Stream) → ready x ≡ false → budget (stepped limits room x) < budget x
unfolding stepped budget ready
stepped_less limits room (scanning s n xs used) r =
    on_news (λ w. budget (after_news room n xs used w) < suc (left s.place)) (step_news [] limits s)
    (λ es t i. omega (arith, behind_budget room t n (waits n xs es) (used + brings es), i.takes)) (λ _ _. omega arith) (λ _ _. omega arith)
stepped_less limits room (closing xs) r = true_false r
stepped_less limits room (broken k m) r = true_false r

module _ (limits : Limits) (room : ℕ) where
  -- with no budget left nothing is left to scan
  spent_ready : (x : Stream) → budget x ≤ 0 → ready x ≡ true
  unfolding budget ready
  spent_ready (scanning s n xs used) h = absurd (not-suc-le-zero h)
  spent_ready (closing xs) h = refl
  spent_ready (broken k m) h = refl

  -- one more changes nothing
  sought_stable : (k : ℕ) (x : Stream) → budget x ≤ k → sought limits room (suc k) x ≡ sought limits room k x
  sought_stable zero x h = let e = spent_ready x h in (sought_here limits room) 1 x e ∙ sym ((sought_here limits room) 0 x e)
  sought_stable (suc k) x h =
      by_test (ready x)
      (λ e. (sought_here limits room) (suc (suc k)) x e ∙ sym ((sought_here limits room) (suc k) x e))
      (λ e. (sought_on limits room) (suc k) x e ∙ sought_stable k (stepped limits room x) (omega (arith, stepped_less limits room x e)) ∙ sym ((sought_on limits room) k x e))

  -- so the budget is as good as any above it
  pub sought_enough : (k : ℕ) (x : Stream) → budget x ≤ k → sought limits room k x ≡ sought limits room (budget x) x
  sought_enough zero x h = let e = spent_ready x h in (sought_here limits room) 0 x e ∙ sym ((sought_here limits room) (budget x) x e)
  sought_enough (suc k) x h =
      by_test (ltb k (budget x))
      (λ e. let i = ltb-true k (budget x) e in let j : suc k ≡ budget x = omega arith in ap (λ (n : ℕ). sought limits room n x) j)
      (λ e. let i = ltb-false k (budget x) e in sought_stable k x i ∙ sought_enough k x i)

  -- what is found is ready
  pub found_ready : (k : ℕ) (x : Stream) → budget x ≤ k → ready (sought limits room k x) ≡ true
  found_ready zero x h = let e = spent_ready x h in rw ((sought_here limits room) 0 x e) e
  found_ready (suc k) x h =
      by_test (ready x)
      (λ e. rw ((sought_here limits room) (suc k) x e) e)
      (λ e. rw ((sought_on limits room) k x e) (found_ready k (stepped limits room x) (omega (arith, stepped_less limits room x e))))

  pub seek_on : (x : Stream) → ready x ≡ false → sought limits room (budget x) x ≡ sought limits room (budget (stepped limits room x)) (stepped limits room x)
  seek_on x e =
      let y = stepped limits room x in
      sym (sought_enough (suc (budget x)) x (omega arith)) ∙ (sought_on limits room) (budget x) x e ∙ sought_enough (budget x) y (omega (arith, stepped_less limits room x e))

  pub call_on : (x : Stream) → ready x ≡ false → call limits room x ≡ call limits room (stepped limits room x)
  unfolding call
  call_on x e = ap (λ (y : Stream). give y) (seek_on x e)
