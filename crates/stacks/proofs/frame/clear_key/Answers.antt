-- The first word of a candidate that is gone is 0, and only that one is stored.
use mathlib.Core.Path.{refl}
use native.Mathlib.Omega.{arith}
use Rattle.yaml_scan.specs.declared.Candidate.TheVariants.{Absent}
use Rattle.stacks.specs.Frame.{key_words}
use Rattle.stacks.proofs.Frames.{key_stored}
use Rattle.stacks.proofs.frame.clear_key.Goals as goal

pub returns : goal.returns
unfolding key_words
returns c = key_stored c.args.stacks.now c.args.level Absent c.requires (omega arith) tt refl
