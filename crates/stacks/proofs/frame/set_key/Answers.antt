-- Five words are stored one after the other: those of the candidate.
use Prim.Native.Nat.{◌+◌}
use native.Mathlib.Omega.{arith}
use Rattle.yaml_scan.specs.declared.Candidate.TheVariants.{Possible}
use Rattle.stacks.specs.Stack.{frame_at}
use Rattle.stacks.specs.Bit.{bit}
use Rattle.stacks.specs.Frame.{key_words}
use Rattle.stacks.proofs.Frames.{key_stored, sets_five}
use Rattle.stacks.proofs.frame.set_key.Goals as goal

pub returns : goal.returns
unfolding key_words
returns c =
    let a = c.args in let m = a.m in
    rw c.from.ensures
    (key_stored a.stacks.now a.level (Possible a.required a.number m) c.requires.0 (omega arith) c.requires.1
    (sets_five a.stacks.now (frame_at a.level) (1 + bit a.required) a.number m.index m.line m.col))
