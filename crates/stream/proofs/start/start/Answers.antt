-- The order is the definition's: 1; 2 or 3; 52; then StreamStart.
use mathlib.Core.Path.{◌∙◌, sym}
use lib.ListN.{length}
use Rattle.stream.proofs.Begins.{few_words, no_text, too_long}
use Rattle.stream.proofs.start.start.Goals as goal

pub returns-then-limits-text : goal.returns-then-limits-text
returns-then-limits-text c =
    let s = c.args in
    too_long s.limits s.text.now (length s.words.now) s.held.now c.if-limits-text.true c.outside.ensures c.refused.ensures

pub returns-in-Err : goal.returns-in-Err
returns-in-Err c =
    let s = c.args in
    no_text s.limits s.text.now (length s.words.now) s.held.now c.if-limits-text.false c.in-Err.ensures c.refused-in-Err.ensures

pub returns-then-words-lt-LEAST_RECORDS : goal.returns-then-words-lt-LEAST_RECORDS
returns-then-words-lt-LEAST_RECORDS c =
    let s = c.args in
    few_words s.limits s.text.now (length s.words.now) s.held.now c.if-limits-text.false (sym c.in_default.is ∙ c.check_text.ensures) c.if-words-lt-LEAST_RECORDS.true c.outside-then-words-lt-LEAST_RECORDS.ensures c.refused-then-words-lt-LEAST_RECORDS.ensures
