-- What was read is the text that the line begins with, as far as there is room, and the words lent are those that the definition of the line names.
use lib.ListN.{length}
use Rattle.printing.specs.Rooms.{array_length}
use Rattle.replay.proofs.Answered.{line_fits, line_written}
use Rattle.replay.proofs.put_line.Goals as goal

pub returns : goal.returns
returns c =
    let a = c.args in
    let h = c.read_hex-n in
    let e = c.enough_words-room.ensures in
    let p = c.put_vector.ensures in
    record {
      written = line_written a.line.now _ _ a.words.now _ _ _ (length a.bytes.now) (array_length 40960 0) h.ensures e p.written;
      upper_bound = line_fits a.line.now _ _ a.words.now _ _ _ (length a.bytes.now) (array_length 40960 0) h.ensures e _ p.upper_bound;
    }
