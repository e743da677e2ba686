-- A refusal clears both rooms, whatever the run left there.
use Rattle.scanner.proofs.Filled.{stopped_answer}
use Rattle.scanner.proofs.scan_within.Goals as goal

pub returns-in-Err : goal.returns-in-Err
returns-in-Err c =
    let a = c.args in
    stopped_answer a.limits a.text.now c.in-Err.ensures c.clears.ensures
