-- The ends, the empty token and the token are stored one behind the other.
use native.Mathlib.Omega.{arith}
use Rattle.sink.proofs.Storing.{event_put, opens_few}
use Rattle.sink.proofs.put_event.Goals as goal

pub put_record-requires : goal.put_record-requires
put_record-requires c = let e = c.args.e in omega (arith, c.put_opening-j.ensures.0, opens_few e.opening e.token.start)

pub returns : goal.returns
returns c =
    let a = c.args in
    event_put a.e a.words.now _ _ _ a.n _ _ c.put_ends-k.ensures.0 c.put_ends-k.ensures.1 c.put_opening-j.ensures.0 c.put_opening-j.ensures.1 c.put_record.ensures
