-- An ASCII character is told by its byte.
use Rattle.chars.specs.Lines.{twice_bytes}
use Rattle.chars.proofs.mark.twice_more.Goals as goal

pub returns-then-byte-b : goal.returns-then-byte-b
returns-then-byte-b c =
    rw (c.is_blank_or_breakz.ensures, c.look.ensures)
    (rw c.if-byte-b.true at (rw (← c.byte.ensures, ← c.byte-2.ensures) at (twice_bytes c.args.s.now c.args.at c.args.b c.requires.0 c.requires.1 c.requires.2)))

pub returns : goal.returns
returns c = rw c.if-byte-b.false at (rw (← c.byte.ensures, ← c.byte-2.ensures) at (twice_bytes c.args.s.now c.args.at c.args.b c.requires.0 c.requires.1 c.requires.2))
