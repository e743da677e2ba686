-- In the loop what is promised of the tokens still to come is promised of all; a turn is one token of the definition's call.
use Rattle.std.proofs.Common.{arith, refl, ◌+◌, ◌-◌, ◌≡◌}
use Rattle.yaml_scan.specs.Scan.{standard}
use Rattle.yaml_job.specs.Job.{most_asked}
use Rattle.job.specs.AsksLaws.{asks_begin, turn_goes, turn_none, turn_replies}
use Rattle.job.proofs.asks.Goals as goal

pub loop-init : goal.loop-init
loop-init c =
    let s = c.args in
    (refl, asks_begin standard s.text.now s.held.now s.words.now s.bytes.now s.s.place s.s.met s.s.count most_asked (omega arith))

pub returns-in-Replies : goal.returns-in-Replies
returns-in-Replies c =
    let s = c.args in
    let l = c.loop in
    let o = c.ask in
    record {
      promise =
          turn_replies standard s.text.now s.held.now s.words.now s.bytes.now s.s.place s.s.met s.s.count most_asked
          l.held l.words l.bytes l.at.place l.at.met (most_asked - l.counter) l.invariant.1
          o.new.held o.new.words o.new.bytes o.result (omega arith) (rw l.invariant.0 at o.ensures)
          c.in-Replies.r c.in-Replies.is;
      same_length = o.array_long;
    }

pub loop-preserved : goal.loop-preserved
loop-preserved c =
    let s = c.args in
    let l = c.loop in
    let o = c.ask in
    let left : most_asked - (l.counter + 1) ≡ most_asked - l.counter - 1 = omega arith in (
      refl,
      rw left
          (turn_goes standard s.text.now s.held.now s.words.now s.bytes.now s.s.place s.s.met s.s.count most_asked
          l.held l.words l.bytes l.at.place l.at.met (most_asked - l.counter) l.invariant.1
          o.new.held o.new.words o.new.bytes o.result (omega arith) (rw l.invariant.0 at o.ensures)
          c.in-Goes.place c.in-Goes.met
          (omega (arith, o.array_long, l.invariant.1.held)) o.auto.words o.auto.bytes c.in-Goes.is),
    )

pub returns : goal.returns
returns c =
    let s = c.args in
    let l = c.loop in
    record {
      promise =
          turn_none standard s.text.now s.held.now s.words.now s.bytes.now s.s.place s.s.met s.s.count most_asked
          l.held l.words l.bytes l.at.place l.at.met (most_asked - l.counter) l.invariant.1
          c.lost.result (omega (arith, c.loop-test.false)) (rw l.invariant.0 at c.lost.ensures);
      same_length = l.invariant.1.held;
    }
