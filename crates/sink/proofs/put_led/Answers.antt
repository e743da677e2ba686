-- Where the test fails there is no token to store.
use Rattle.events.specs.Event.{opening_if}
use Rattle.sink.specs.StepTokens.{opening_tokens}
use Rattle.sink.proofs.Storing.{opening_none}
use Rattle.sink.proofs.put_led.Goals as goal

pub returns : goal.returns
unfolding opening_tokens
returns c =
    let a = c.args in
    opening_none (opening_if a.led a.o) a.m a.words.now a.n (rw c.if-led.false)
