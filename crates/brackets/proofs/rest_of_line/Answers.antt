-- Where neither a blank nor '#' stands, the definition reads nothing.
use Rattle.brackets.proofs.Line.{reaches_here}
use Rattle.brackets.proofs.rest_of_line.Goals as goal

pub returns : goal.returns
returns c = reaches_here c.requires c.byte-c.ensures c.is_blank.ensures c.if-is_blank-c.false
