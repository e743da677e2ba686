-- StreamEnd first, then by the place.
use Rattle.std.proofs.Common.{sym}
use Rattle.yaml_lexeme.specs.Record.{laid, number_of}
use Rattle.yaml_job.specs.Job.{effect}
use Rattle.shape.proofs.ShapeKinds.{other_number}
use Rattle.shape.proofs.of_kind.Goals as goal
use Rattle.shape.proofs.of_kind.Goals.{in_default-via-in-StreamEnd+else-not-all_met, in_default-via-in_default}

pub returns-in-StreamEnd : goal.returns-in-StreamEnd
unfolding effect laid number_of
returns-in-StreamEnd c = rw (c.in-StreamEnd.is, sym c.all_met.ensures, c.if-not-all_met.true)

pub returns-in_default : goal.returns-in_default
unfolding effect laid number_of
returns-in_default c =
    elim c.in_default.branch [
      | in_default-via-in-StreamEnd+else-not-all_met w ↦ rw (c.placed.ensures, w.in-StreamEnd.is, sym w.all_met.ensures, w.if-not-all_met.false)
      | in_default-via-in_default w ↦ rw (c.placed.ensures, other_number _ _ w.in_default.not-StreamEnd)
    ]
