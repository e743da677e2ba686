-- Each step of a call uses up budget: so a larger budget changes nothing, a call comes to something ready, and it is the same call with one step made.
use Prim.Native.Nat.{suc, zero, ℕ}
use Rattle.std.specs.Prelude.{false, true, ◌≡◌}
use Rattle.std.proofs.Math.Path.{ap, refl}
use Rattle.yaml_scan.specs.declared.Limits.{Limits}
use Rattle.yaml_stream.specs.Stream.{Stream, budget, call, give, ready, sought, stepped}

module _ (limits : Limits) (room : ℕ) where
  -- what is ready is sought no further
  pub sought_here : (k : ℕ) (x : Stream) → ready x ≡ true → sought limits room k x ≡ x
  unfolding sought
  sought_here zero x e = refl
  sought_here (suc k) x e = rw (e, sought)

  pub sought_on : (k : ℕ) (x : Stream) → ready x ≡ false → sought limits room (suc k) x ≡ sought limits room k (stepped limits room x)
  unfolding sought
  sought_on k x e = rw (e, sought)

  -- a call

  pub call_here : (x : Stream) → ready x ≡ true → call limits room x ≡ give x
  unfolding call
  call_here x e = ap (λ (y : Stream). give y) (sought_here (budget x) x e)
