-- The invariant: what was passed, with the run that is left, is the whole run.
use Rattle.std.proofs.Common.{arith, rules, sym}
use Rattle.chars.specs.Bytes.{CharAt, char_at, not_char}
use Rattle.chars.specs.Places.{small}
use Rattle.runs.proofs.Passing.{passing_end, passing_more, passing_stop}
use Rattle.runs.proofs.run_of.Given as given
use Rattle.runs.proofs.run_of.Goals as goal
use Rattle.runs.proofs.run_of.Goals.{In-Char}

-- the character here
here : (g : given.Over) (c : In-Char g) → CharAt c.args.text.now c.loop-code.p.at c.in-Char.code c.in-Char.len
here g c = char_at _ _ _ _ (sym c.in-Char.ensures)

pub returns-then-not-has : goal.returns-then-not-has
returns-then-not-has g c = passing_stop c.loop-code.invariant (here g (goal.at.returns-then-not-has g c).In-Char) (sym c.if-not-has.ensures)

pub skip_non_blank-p-requires : goal.skip_non_blank-p-requires
skip_non_blank-p-requires g c =
    (small c.loop-code.invariant.stands (search rules), (here g (goal.at.skip_non_blank-p-requires g c).In-Char).few)

pub loop-code-smaller : goal.loop-code-smaller
loop-code-smaller g c = let char = here g (goal.at.loop-code-smaller g c).In-Char in rw c.skip_non_blank-p.ensures (omega (arith, char))

pub loop-code-preserved : goal.loop-code-preserved
loop-code-preserved g c =
    rw c.skip_non_blank-p.ensures (passing_more c.loop-code.invariant (here g (goal.at.loop-code-preserved g c).In-Char) (sym c.if-not-has.ensures))

pub returns : goal.returns
returns g c = passing_end c.loop-code.invariant c.char_at.ensures (not_char c.char_at.result c.in_default.not-Char)
