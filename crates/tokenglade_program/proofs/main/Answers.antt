-- The rooms have the lengths that they are made with; these are told for any length, so that none is computed.
use Rattle.printing.specs.Rooms.{array_length}
use Rattle.tokenglade_program.proofs.main.Goals as goal

pub slice_bounds-tokenglade_command-end : goal.slice_bounds-tokenglade_command-end
slice_bounds-tokenglade_command-end c = array_length 1048577 0

pub slice_bounds-tokenglade_command-end-2 : goal.slice_bounds-tokenglade_command-end-2
slice_bounds-tokenglade_command-end-2 c = array_length 52800 0

pub slice_bounds-tokenglade_command-end-3 : goal.slice_bounds-tokenglade_command-end-3
slice_bounds-tokenglade_command-end-3 c = array_length 1572864 0
