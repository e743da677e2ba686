-- The arrays have the lengths that are asked; they are told for any length, so that none is computed.
use lib.Dec.{lit≤}
use Rattle.printing.specs.Rooms.{array_length}
use Rattle.replay.proofs.Answered.{arrays_hold}
use Rattle.replay.proofs.main.Goals as goal

pub slice_bounds-replay_input-end : goal.slice_bounds-replay_input-end
slice_bounds-replay_input-end c = array_length 1048576 0

pub slice_bounds-replay_input-end-4 : goal.slice_bounds-replay_input-end-4
slice_bounds-replay_input-end-4 c = array_length 1175998 0

pub replay_input-requires : goal.replay_input-requires
replay_input-requires c = arrays_hold 40960 98340 6144 1175998 (lit≤ tt)
