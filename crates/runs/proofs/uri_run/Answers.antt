-- The invariant: what was written, with the run that is left, is the whole run.
use Rattle.std.proofs.Common.{◌≡◌, true, arith, sym}
use Rattle.chars.specs.Ascii.{ascii_low}
use Rattle.chars.specs.Bytes.{CharAt, ascii_char}
use Rattle.runs.proofs.Writing.{running_more, running_on, running_refused, running_stop}
use Rattle.runs.proofs.uri_run.Given as given
use Rattle.runs.proofs.uri_run.Goals as goal
use Rattle.runs.proofs.uri_run.Goals.{Else-not-has}

-- the character here is of the class, so it is ASCII
inside : (g : given.Over) (c : Else-not-has g) → g.C.Class.test c.byte-c.result ≡ true
inside g c = sym c.if-not-has.ensures

here : (g : given.Over) (c : Else-not-has g) → CharAt c.args.text.now c.loop-start.w.place.at c.byte-c.result 1
here g c = ascii_char _ _ _ c.byte-c.ensures g.met.C.AsciiClass.ascii (inside g c)

pub returns-then-not-has : goal.returns-then-not-has
returns-then-not-has g c = running_stop c.loop-start.invariant g.met.C.AsciiClass.ascii c.byte-c.ensures (sym c.if-not-has.ensures)

pub put_one-r-requires : goal.put_one-r-requires
put_one-r-requires g c =
    let at = (goal.at.put_one-r-requires g c).Else-not-has in
    let i = c.loop-start.invariant in
    (i.stands, here g at, (ascii_low g.met.C.AsciiClass.ascii _ (inside g at)).1, omega (arith, i, c.requires))

pub returns-in_default : goal.returns-in_default
returns-in_default g c =
    let at = (goal.at.returns-in_default g c).Else-not-has in
    running_refused c.loop-start.invariant (here g at) (inside g at) c.put_one-r.ensures c.in_default.is c.clear_from.ensures c.clear_from.auto.out

pub loop-start-smaller : goal.loop-start-smaller
loop-start-smaller g c =
    let at = (goal.at.loop-start-smaller g c).Else-not-has in
    let char = here g at in
    let on = running_on c.loop-start.invariant char (inside g at) c.put_one-r.ensures c.in-Ok.is in
    omega (arith, char)

pub loop-start-preserved : goal.loop-start-preserved
loop-start-preserved g c =
    let at = (goal.at.loop-start-preserved g c).Else-not-has in
    running_more c.loop-start.invariant (here g at) (inside g at) c.put_one-r.ensures c.in-Ok.is
