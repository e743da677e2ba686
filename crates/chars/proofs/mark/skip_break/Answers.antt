-- Where no break stands the place stays, and each character of a break is one byte.
use Rattle.chars.specs.Lines.{skip_some}
use Rattle.chars.proofs.mark.skip_break.Goals as goal

pub returns : goal.returns
returns c = rw c.skip_linebreak.ensures (skip_some c.requires c.break_length-n.result c.break_length-n.ensures c.if-n-eq0.false)
