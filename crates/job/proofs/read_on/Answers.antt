-- What the stream holds stands in front then, and the reader's words behind it.
use Rattle.std.proofs.Common.{arith, ap, length, length-take-le, sym, take, ◌++◌, ◌∙◌, ◌≡◌}
use Rattle.yaml_scan.specs.Scan.{standard}
use Rattle.driver.specs.Held.{held_words}
use Rattle.job.specs.JobLaws.{read_told}
use Rattle.job.specs.Own.{own_words, reader_words}
use Rattle.job.specs.OwnLaws.{own_length, parts_stored}
use Rattle.job.proofs.read_on.Goals as goal

pub returns : goal.returns
returns c =
    let s = c.args in
    let st = s.state.now in
    let o = c.asks-r in
    let ws = c.copy_from_slice.new.self in
    let parts = rw c.unwrap.ensures at c.split_first_chunk_mut.ensures.cases in
    let lent : c.unwrap.result.0.now ≡ take held_words st = parts.0 in
    let own : ws ≡ reader_words o.result.reader = c.copy_from_slice.ensures.after ∙ c.reader_words.ensures in
    let long : length ws ≡ own_words = ap length own ∙ own_length o.result.reader in
    read_told standard s.text.now st s.words.now s.bytes.now (o.new.held ++ ws)
    o.new.held o.new.words o.new.bytes ws
    s.s.place s.s.met s.s.count o.result c.told-state c.requires
    (o.ensures.same_length ∙ sym (length-take-le held_words st (omega arith))) own
    (parts_stored st o.new.held ws c.told-state o.ensures.same_length long) (rw lent at o.ensures.promise)
