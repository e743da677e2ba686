-- The three answers to a character: itself, the one that its escape is, a refusal.
use Rattle.std.proofs.Common.{refl}
use Rattle.yaml_text.specs.Char.{'%'}
use Rattle.chars.specs.Bytes.{CharAt}
use Rattle.runs.proofs.Writing.{put_escape, put_plain, put_refused}
use Rattle.runs.proofs.put_one.Goals as goal
use Rattle.runs.proofs.put_one.Goals.{Else-c-ne37}

-- the percent sign
sign : (c : Else-c-ne37) → CharAt c.args.text.now c.args.p.at '%' 1
sign c = rw c.if-c-ne37.false at c.requires.1

pub returns-then-c-ne37 : goal.returns-then-c-ne37
returns-then-c-ne37 c =
    let s = c.requires in
    put_plain _ s.0 s.1 s.2 c.if-c-ne37.true c.put.ensures c.skip_blank-place.ensures

pub returns-in_default : goal.returns-in_default
returns-in_default c = put_refused c.args.start c.requires.0 (sign (goal.at.returns-in_default c).Else-c-ne37) (rw c.unwrap_err.ensures at c.percent-r.ensures) refl refl

pub returns : goal.returns
returns c =
    put_escape c.args.start c.requires.0 (sign (goal.at.returns c).Else-c-ne37) c.in-Ok.ensures refl c.put_char-count.ensures.0 c.put_char-count.ensures.1
