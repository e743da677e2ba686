-- The three tests of the definition, one after the other: no entry, above the column, ends a block.
use Rattle.stacks.proofs.Drops.{drop_top, keep_deep, keep_ending, keep_none}
use Rattle.stacks.proofs.indent.drop_for.Goals as goal
use Rattle.stacks.proofs.indent.drop_for.Goals.{then-from-eq0-via-then-from-eq0, then-from-eq0-via-else-from-eq0+then-edge-from, then-from-eq0-via-else-from-eq0+else-edge-from+then-top_ends}

pub returns-then-from-eq0 : goal.returns-then-from-eq0
returns-then-from-eq0 c =
    let a = c.args in
    elim c.then-from-eq0.branch [
      | then-from-eq0-via-then-from-eq0 w ↦ keep_none a.stacks.now a.edge a.from c.requires.indent w.if-from-eq0.true
      | then-from-eq0-via-else-from-eq0+then-edge-from w ↦ keep_deep a.stacks.now a.edge a.from c.requires.indent w.if-from-eq0.false w.if-edge-from.true
      | then-from-eq0-via-else-from-eq0+else-edge-from+then-top_ends w ↦
          keep_ending a.stacks.now a.edge a.from c.requires.indent w.if-from-eq0.false w.if-edge-from.false w.if-top_ends.ensures
    ]

pub returns : goal.returns
returns c =
    let a = c.args in
    rw c.left_below.ensures (drop_top a.stacks.now a.edge a.from c.requires.indent c.if-from-eq0.false c.if-edge-from.false c.if-top_ends.ensures)
