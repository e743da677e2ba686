-- The place's word is that of Done, of NotDone, or another.
use mathlib.Core.Path.{◌∙◌, sym}
use borrow.Author.Rules.{rules}
use Rattle.job.specs.OwnLaws.{done_in, not_closed_in, not_done_in}
use Rattle.job.proofs.own.reader_in.Goals as goal

pub returns-in-11 : goal.returns-in-11
returns-in-11 c = sym (done_in c.args.state.now c.in-11.is)

pub returns-in-12 : goal.returns-in-12
returns-in-12 c = let e = sym (not_done_in c.args.state.now c.in-12.is) in search rules

pub returns-in_default : goal.returns-in_default
returns-in_default c = c.reading_in.ensures ∙ sym (not_closed_in c.args.state.now (search rules))
