-- The words, each read as the definition reads it.
use Rattle.job.specs.OwnLaws.{reading_from}
use Rattle.job.proofs.own.reading_in.Goals as goal

pub returns : goal.returns
returns c = reading_from c.args.state.now c.form_of.ensures c.field_of.ensures c.place_of.ensures
