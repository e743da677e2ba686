-- The line is looked at first; then what was kept back is written, and the text behind it read.
use mathlib.Core.Path.{refl}
use Rattle.quoted.proofs.Chosen.{fold_turns}
use Rattle.quoted.proofs.turns.on_text.Goals as goal

pub returns : goal.returns
returns c = fold_turns c.requires.1 c.in_ok-check_line.ensures refl c.put_kept-count.ensures c.on_char.ensures
