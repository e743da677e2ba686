-- The part of the bytes is where the record says that the text stands.
use Rattle.job.specs.Sees.{effect_taken}
use Rattle.job.proofs.effect_of.Goals as goal

pub returns : goal.returns
returns c =
    let s = c.args in
    effect_taken s.place s.met s.token s.bytes.now c.min-from.result c.min.result c.min-from.ensures c.min.ensures c.effect.ensures
