-- From the back, each record moves to its place with what goes in before it; the records in front of it are not touched, and where no note is left all stands in place.
use Prim.Native.Nat.{◌*◌, ◌<◌, ◌≤◌}
use mathlib.Core.Path.{◌∙◌, ◌≡◌, sym}
use native.Mathlib.Omega.{arith}
use lib.ListN.{length}
use Rattle.yaml_lexeme.specs.Record.{record_words}
use Rattle.sink.specs.Settle.{front, total_records}
use Rattle.sink.proofs.Pass.{LastOfFront, settled_none, total_least, total_none, last_of_front, block_put}
use Rattle.sink.proofs.settle.Goals as goal
use Rattle.sink.proofs.settle.Goals.{Else-j-i}

-- at the loop's body, behind its test
last_at : (c : Else-j-i) → LastOfFront c.loop-i.i c.loop-i.j c.loop-i.words
last_at c =
    let l = c.loop-i in
    let more : l.i < l.j = omega (arith, l.invariant.1, total_least l.i l.words, c.loop-i-test.true, c.if-j-i.false) in
    last_of_front l.i l.j l.words more l.invariant.1 (omega (arith, l.invariant.0, l.auto.words, c.requires.1))

pub load-x-requires : goal.load-x-requires
load-x-requires c = omega (arith, (last_at c).fits)

pub put_block-j-requires : goal.put_block-j-requires
put_block-j-requires c =
    let w = last_at (goal.at.put_block-j-requires c).Else-j-i in
    let l = c.loop-i in
    rw c.load-x.ensures (w.long, w.few, omega (arith, l.invariant.0, l.auto.words, c.requires.1), omega (arith, l.invariant.0, c))

pub loop-i-preserved : goal.loop-i-preserved
loop-i-preserved c =
    let l = c.loop-i in
    let x = c.load-x in
    let p = c.put_block-j in
    let m : l.j * record_words ≤ length l.words = omega (arith, l.invariant.0, l.auto.words, c.requires.1) in
    let d = block_put l.i l.j p.result l.words x.result p.new.words (last_at (goal.at.loop-i-preserved c).Else-j-i) l.invariant.1 m x.ensures p.ensures.0 p.ensures.1 in
    (omega (arith, p.ensures.0, l.invariant.0), d.0, l.invariant.2 ∙ d.1)

pub returns-after-loop-i : goal.returns-after-loop-i
returns-after-loop-i c = let l = c.loop-i in sym (l.invariant.2 ∙ settled_none l.i l.words (total_none l.i l.words c.loop-i-test.false))

pub returns-then-j-i : goal.returns-then-j-i
returns-then-j-i c =
    let l = c.loop-i in
    let e : total_records (front l.i l.words) ≡ l.i = omega (arith, l.invariant.1, c.loop-i-test.true, c.if-j-i.true) in
    sym (l.invariant.2 ∙ settled_none l.i l.words e)
