-- More was scanned: a token is given, or what is held says the answer.
use Rattle.stream.proofs.Called.{scan_gives, scan_last}
use Rattle.stream.proofs.go_on.Goals as goal

pub returns-then-gives : goal.returns-then-gives
returns-then-gives c =
    let s = c.args in
    let o = c.scan_on in
    let g = c.gives in
    scan_gives s.limits s.text.now s.held.now s.words.now s.bytes.now o.new.held o.new.words o.new.bytes c.told-held c.requires.0 c.requires.1 c.requires.2 c.requires.3 o.ensures g.ensures o.array_long c.if-gives.true

pub returns : goal.returns
returns c =
    let s = c.args in
    let o = c.scan_on in
    let g = c.gives in
    let a = c.last_answer in
    scan_last s.limits s.text.now s.held.now s.words.now s.bytes.now o.new.held o.new.words o.new.bytes c.told-held c.requires.0 c.requires.1 c.requires.2 c.requires.3 o.ensures g.ensures c.if-gives.false a.ensures.0 a.ensures.1
