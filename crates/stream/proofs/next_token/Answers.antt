-- A token is given where one can be.
use Rattle.yaml_scan.specs.Scan.{standard}
use Rattle.stream.proofs.GivesToken.{given_calls}
use Rattle.stream.proofs.next_token.Goals as goal

pub returns-then-gives : goal.returns-then-gives
returns-then-gives c =
    let s = c.args in
    given_calls standard s.text.now s.held.now s.words.now s.bytes.now c.gives.ensures c.told-held c.if-gives.true
