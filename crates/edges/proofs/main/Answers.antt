-- The arrays have the lengths that are asked; they are told for any length, so that none is computed.
use lib.Dec.{lit≤}
use Rattle.printing.specs.Rooms.{array_holds, array_length}
use Rattle.edges.proofs.main.Goals as goal

pub slice_bounds-say_edges-end : goal.slice_bounds-say_edges-end
slice_bounds-say_edges-end c = array_length 1048577 0

pub slice_bounds-say_edges-end-2 : goal.slice_bounds-say_edges-end-2
slice_bounds-say_edges-end-2 c = array_length 1048576 7

pub say_edges-requires : goal.say_edges-requires
say_edges-requires c = array_holds 1048577 0 1048577 (lit≤ tt)
