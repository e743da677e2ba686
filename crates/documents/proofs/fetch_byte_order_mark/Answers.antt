-- All blocks are left, and the reading goes on three bytes further.
use Rattle.documents.proofs.ByteOrderMark.{bom_goes}
use Rattle.documents.proofs.fetch_byte_order_mark.Goals as goal

pub returns : goal.returns
returns c = rw (c.go_on.ensures, c.skip_bom-e.ensures) (bom_goes c.requires.0 c.requires.1 c.leave_blocks-u.ensures)
