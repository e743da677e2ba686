-- The arrays have the lengths that are asked; they are told for any length, so that none is computed.
use Prim.Native.Nat.{◌≤◌, ℕ}
use native.Mathlib.Omega.{arith}
use lib.Dec.{lit≤}
use lib.ListN.{length, length-replicate, replicate}
use Rattle.printing.specs.Rooms.{array_length}
use Rattle.restream.proofs.main.Goals as goal

array-fits : (n v k : ℕ) → n ≤ k → length {0} {A = ℕ} (replicate {0} {A = ℕ} n v) ≤ k
array-fits n v k h = omega (arith, length-replicate n v)

pub slice_bounds-restream_input-end : goal.slice_bounds-restream_input-end
slice_bounds-restream_input-end c = array_length 655360 0

pub slice_bounds-restream_input-end-2 : goal.slice_bounds-restream_input-end-2
slice_bounds-restream_input-end-2 c = array_length 52800 7

pub slice_bounds-restream_input-end-3 : goal.slice_bounds-restream_input-end-3
slice_bounds-restream_input-end-3 c = array_length 16128 7

pub restream_input-requires : goal.restream_input-requires
restream_input-requires c = array-fits 16128 7 16128 (lit≤ tt)
