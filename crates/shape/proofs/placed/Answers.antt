-- Each arm is the definition's: at the last arm the token is none of those that have their place there.
use Rattle.std.proofs.Common.{◌≡◌}
use Rattle.yaml_lexeme.specs.Record.{laid, number_of}
use Rattle.yaml_job.specs.declared.Form.TheVariants.{Block, Braces}
use Rattle.yaml_job.specs.Job.{placed}
use Rattle.shape.proofs.ShapeKinds.{no_end, other_number}
use Rattle.shape.proofs.placed.Goals as goal

pub returns-in_default : goal.returns-in_default
unfolding placed laid number_of
returns-in_default c = rw (c.in_default.is-0, other_number _ _ c.in_default.not-StreamStart-1)

pub returns-in_default-2 : goal.returns-in_default-2
unfolding placed laid number_of
returns-in_default-2 c = rw (c.in_default.is-0, other_number _ _ c.in_default.not-BlockMappingStart-1, other_number _ _ c.in_default.not-FlowMappingStart-1)

pub returns-in_default-3 : goal.returns-in_default-3
unfolding placed laid number_of
returns-in_default-3 c = let e : c.in_default.field-0-0 ≡ Braces = cc in rw (c.in_default.is-0, c.in_default.is-1, e)

pub returns-in_default-4 : goal.returns-in_default-4
unfolding placed laid number_of
returns-in_default-4 c = let e : c.in_default.field-0-0 ≡ Block = cc in rw (c.in_default.is-0, c.in_default.is-1, e)

pub returns-in_default-5 : goal.returns-in_default-5
unfolding placed laid number_of
returns-in_default-5 c = rw (c.in_default.is-0, other_number _ _ c.in_default.not-Key-1, no_end c.in_default.field-0-0 _ c.in_default.not-BlockEnd-1 c.in_default.not-FlowMappingEnd-1)

pub returns-in_default-6 : goal.returns-in_default-6
unfolding placed laid number_of
returns-in_default-6 c = rw (c.in_default.is-0, other_number _ _ c.in_default.not-Scalar-1)

pub returns-in_default-7 : goal.returns-in_default-7
unfolding placed laid number_of
returns-in_default-7 c = rw (c.in_default.is-0, other_number _ _ c.in_default.not-Value-1)

pub returns-in_default-8 : goal.returns-in_default-8
unfolding placed laid number_of
returns-in_default-8 c = rw (c.in_default.is-0, other_number _ _ c.in_default.not-Scalar-1)

pub returns-in_default-9 : goal.returns-in_default-9
unfolding placed laid number_of
returns-in_default-9 c = rw (c.in_default.is-0, other_number _ _ c.in_default.not-FlowSequenceStart-1)

pub returns-in_default-10 : goal.returns-in_default-10
unfolding placed laid number_of
returns-in_default-10 c = rw (c.in_default.is-0, other_number _ _ c.in_default.not-Scalar-1, other_number _ _ c.in_default.not-FlowSequenceEnd-1)

pub returns-in_default-11 : goal.returns-in_default-11
unfolding placed laid number_of
returns-in_default-11 c = rw (c.in_default.is-0, other_number _ _ c.in_default.not-FlowEntry-1, other_number _ _ c.in_default.not-FlowSequenceEnd-1)

pub returns-in_default-12 : goal.returns-in_default-12
unfolding placed laid number_of
returns-in_default-12 c = rw (c.in_default.is-0, other_number _ _ c.in_default.not-FlowEntry-1, other_number _ _ c.in_default.not-FlowMappingEnd-1)

pub returns-in_default-13 : goal.returns-in_default-13
unfolding placed laid number_of
returns-in_default-13 c = rw (c.in_default.is-0, other_number _ _ c.in_default.not-StreamEnd-1)
