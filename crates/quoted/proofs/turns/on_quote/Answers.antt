-- A single quote that stands twice is text; any other closes the scalar.
use mathlib.Core.Path.{◌∙◌, ap}
use Rattle.std.proofs.Common.{Ok}
use Rattle.quoted.proofs.Quotes.{close_turns, pair_turns}
use Rattle.quoted.proofs.turns.on_quote.Goals as goal

pub returns-then-q-byte : goal.returns-then-q-byte
returns-then-q-byte c = pair_turns c.requires.0 c.requires.1 _ c.byte.ensures c.if-q-byte.true c.put.ensures (ap Ok (c.goes.ensures ∙ rw c.skip_n_non_blank.ensures))

pub returns : goal.returns
returns c = close_turns c.requires.0 c.requires.1 _ c.byte.ensures _ c.if-q-byte.false (rw c.skip_blank.ensures)
