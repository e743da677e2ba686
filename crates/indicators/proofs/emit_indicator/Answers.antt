-- The token and the place behind it are those of the one character.
use Rattle.indicators.proofs.emit_indicator.Goals as goal

pub returns : goal.returns
returns c = rw (c.moved.ensures, c.one_character-l.ensures)
