-- The content that was read, and its end.
use Rattle.block_scalars.proofs.Scalars.{content_lexed}
use Rattle.block_scalars.proofs.content_scalar.Goals as goal

pub returns : goal.returns
returns c =
    let a = c.args in
    content_lexed a.k a.b a.g c.scalar.ensures
    c.read_content-c.ensures
    c.chomped.ensures
    (rw (c.max.ensures, c.ends_at.ensures))
    c.put_breaks-n.ensures
