-- One clause of the definition for each return.
use borrow.Author.Rules.{rules}
use native.Mathlib.Omega.{arith}
use Rattle.block_content.proofs.Ends.{flag_number}
use Rattle.block_scalars.proofs.Scalars.{none_clip, none_keep, none_part, none_strip}
use Rattle.block_scalars.proofs.no_content.Goals as goal

pub returns-then-n-eq0 : goal.returns-then-n-eq0
returns-then-n-eq0 c =
    let f = flag_number c.args.part c.from.ensures in
    (rw f.0 (none_part c.args.n c.args.part c.in-Keep.is c.if-n-eq0.true), omega (arith, f.1))

pub returns-in-Strip : goal.returns-in-Strip
returns-in-Strip c = (none_strip c.args.n c.args.part c.in-Strip.is, search rules)

pub returns-in-Clip : goal.returns-in-Clip
returns-in-Clip c = (none_clip c.args.n c.args.part c.in-Clip.is, search rules)

pub returns-else-n-eq0 : goal.returns-else-n-eq0
returns-else-n-eq0 c = (
  none_keep c.args.n c.args.part c.in-Keep.is c.if-n-eq0.false,
  search rules,
)
