-- What the answer of the stream comes to is what the definition's call comes to.
use Rattle.job.specs.AsksLaws.{ask_told}
use Rattle.job.proofs.ask.Goals as goal

pub returns : goal.returns
returns c =
    let s = c.args in
    let o = c.next_token-a in
    ask_told s.text.now s.held.now s.words.now s.bytes.now o.new.held o.new.words o.new.bytes o.new.token
    s.s.place s.s.met s.s.count o.result c.by_answer.result o.auto.words o.auto.bytes o.ensures c.by_answer.ensures
