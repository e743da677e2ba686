-- One clause of the definition for each return.
use native.Mathlib.Omega.{arith}
use Rattle.block_content.proofs.Ends.{chomped_clip, chomped_keep, chomped_strip, flag_number}
use borrow.Author.Rules.{rules}
use Rattle.block_content.proofs.chomped.Goals as goal

pub returns-in-Strip : goal.returns-in-Strip
returns-in-Strip c = (chomped_strip c.args.last c.args.line c.in-Strip.is, search rules)

pub returns-in-Clip : goal.returns-in-Clip
returns-in-Clip c =
    let f = flag_number c.args.last c.from-extra.ensures in
    (rw (c.own_break.ensures, f.0) (chomped_clip c.args.last c.args.line c.in-Clip.is), omega (arith, c.own_break.ensures, f.1))

pub returns-in-Keep : goal.returns-in-Keep
returns-in-Keep c =
    let f = flag_number c.args.last c.from-extra.ensures in (
      rw (c.own_break-in-Keep.ensures, f.0, c.lines_after.ensures) (chomped_keep c.args.last c.args.line c.in-Keep.is),
      omega (arith, c.own_break-in-Keep.ensures, c.lines_after.ensures, f.1),
    )
