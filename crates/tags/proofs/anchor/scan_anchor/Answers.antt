-- The name is copied, if there is one; a refusal clears the room.
use Rattle.chars.specs.Parts.{Spans}
use Rattle.reading.specs.Answers.{behind_first}
use Rattle.tags.proofs.Anchors.{anchor_none, anchor_some, name}
use Rattle.tags.proofs.anchor.scan_anchor.Goals as goal
use Rattle.tags.proofs.anchor.scan_anchor.Goals.{After-run_of-e}

-- the name behind the indicator
name_read : (c : After-run_of-e) → Spans c.args.text.now (behind_first c.args.start) c.run_of-e.result (name c.args.text.now c.args.start)
name_read c = rw (c.skip_blank.ensures, c.first_at-first.ensures) at c.run_of-e.ensures

pub returns-then-to-eq1 : goal.returns-then-to-eq1
returns-then-to-eq1 c =
    anchor_none _ c.requires (name_read (goal.at.returns-then-to-eq1 c).After-run_of-e) c.if-to-eq1.true c.refuse.ensures c.clear.ensures

pub returns : goal.returns
returns c =
    let name = name_read (goal.at.returns c).After-run_of-e in
    rw (c.new.ensures, c.pick-kind.ensures)
    (anchor_some c.args.alias c.requires name c.if-to-eq1.false c.text_at-name.ensures c.copy.ensures)
