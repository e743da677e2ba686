-- What is left to write from here on gives the whole content.
use Rattle.block_content.proofs.Contents.{going_done, going_more}
use Rattle.block_content.proofs.read_content.Goals as goal

pub loop-c-preserved : goal.loop-c-preserved
loop-c-preserved c =
    going_more c.loop-c.invariant
    (rw c.opens_content.ensures at c.loop-c-test.true)
    c.content_line-c.auto.out c.content_line-c.ensures.0

pub returns : goal.returns
returns c = going_done c.loop-c.invariant (rw c.opens_content.ensures at c.loop-c-test.false)
