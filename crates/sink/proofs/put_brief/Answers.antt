-- The ends, the empty token and the token are stored one behind the other, and a brief event has no note.
use mathlib.Core.Path.{sym}
use native.Mathlib.Omega.{arith}
use Rattle.events.specs.Event.{opening_if}
use Rattle.sink.proofs.Storing.{brief_put, opens_few}
use Rattle.sink.proofs.put_brief.Goals as goal

pub put_record-requires : goal.put_record-requires
put_record-requires g c =
    let a = c.args in
    omega (arith, c.put_led-j.ensures.0, opens_few (opening_if a.led c.OPENING.result) a.t.start)

pub returns : goal.returns
returns g c =
    let a = c.args in
    rw (sym c.OPENING.ensures)
    (brief_put a.led c.OPENING.result a.t a.here a.ended a.words.now _ _ _ a.n _ _ c.put_ends-k.ensures.0 c.put_ends-k.ensures.1
    c.put_led-j.ensures.0 c.put_led-j.ensures.1 c.put_record.ensures)
