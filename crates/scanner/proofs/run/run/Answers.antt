-- StreamStart is stored, and words that are all zero, with the first state and its counts stored, hold what the definition begins with.
use native.Mathlib.Omega.{arith}
use Rattle.std.proofs.lemmas.Result.{err_from_is_err_and}
use Rattle.yaml_text.specs.Utf8.{chars}
use Rattle.yaml_scan.specs.Scan.{scan}
use Rattle.sink.specs.Stored.{no_counts}
use Rattle.scanner.proofs.Start.{Comes, start_runs}
use Rattle.scanner.proofs.run.run.Goals as goal
use Rattle.scanner.proofs.run.run.Goals.{After-all_steps}

came : (c : After-all_steps)
    → let a = c.args in
    let l = c.all_steps.new in
    Comes (scan a.limits (chars a.text.now)) no_counts a.words.now a.bytes.now l.words l.bytes c.all_steps.result
came c =
    let a = c.args in
    let k = c.all_steps in
    let l = k.new in
    let p = c.put_record in
    start_runs a.limits a.text.now c.requires.0 c.requires.1 a.words.now a.bytes.now l.held l.words l.bytes k.result
    c.begin-s.ensures c.store_state.ensures c.store_counts.ensures (rw c.begin-s.ensures at p.ensures) p.auto.words k.ensures

pub store_state-requires : goal.store_state-requires
store_state-requires c = rw c.begin-s.ensures (omega arith, omega arith, omega arith)

pub returns-in_err-o : goal.returns-in_err-o
returns-in_err-o c =
    let p = err_from_is_err_and c.from_residual.result c.from_residual.ensures.1 in
    rw (p.1, p.2) (rw c.in_err-o.was at (came (goal.at.returns-in_err-o c).After-all_steps))

pub unreachable-requires : goal.unreachable-requires
unreachable-requires c = rw (c.in_ok-o.was, c.in-Ready.is) at (came (goal.at.unreachable-requires c).After-all_steps)

pub returns : goal.returns
returns c = rw (c.in_ok-o.was, c.in-Scanned.is) at (came (goal.at.returns c).After-all_steps)
