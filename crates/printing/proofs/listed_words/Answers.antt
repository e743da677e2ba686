-- Each word listed is the record's word at that place, since the record begins at `at`.
use mathlib.Core.Path.{sym}
use Rattle.printing.proofs.Rows.{listed_at}
use Rattle.printing.proofs.listed_words.Goals as goal

pub returns : goal.returns
returns c = let a = c.args in sym (listed_at a.words.now a.at)
