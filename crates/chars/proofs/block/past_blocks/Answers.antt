use Rattle.std.proofs.Common.{◌≡◌, ◌/◌, ◌-◌, arith, drop, length, length-drop, take, take_all}
use Rattle.chars.specs.Each.{blocks_counted}
use Rattle.chars.proofs.block.past_blocks.Goals as goal

pub returns : goal.returns
returns g c =
    let s = c.args.text.now in
    let at = c.args.start in
    let rest : take (length s - at) (drop at s) ≡ drop at s = take_all _ _ (rw length-drop (omega arith)) in
    rw (c.leading.ensures.value, c.as_chunks.ensures.front, rest, length-drop)
    (blocks_counted g.C.ByteClass.test s at ((length s - at) / 16) (omega arith) (omega arith))
