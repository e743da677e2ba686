-- The name is read first, the directive by it, and then the rest of the line.
use Rattle.std.proofs.Common.{sym}
use Rattle.std.proofs.lemmas.Result.{err_from_is_err_and}
use Rattle.chars.specs.Parts.{Spans}
use Rattle.reading.specs.Answers.{behind_first}
use Rattle.directives.specs.Name.{name_in}
use Rattle.directives.proofs.Lines.{directive_got, directive_none, directive_refused, directive_stopped}
use Rattle.directives.proofs.read_directive.Goals as goal
use Rattle.directives.proofs.read_directive.Goals.{After-run_of-p}

name_read : (c : After-run_of-p) → Spans c.args.text.now (behind_first c.args.start) c.run_of-p.result (name_in c.args.text.now c.args.start)
name_read c = rw (c.skip_blank-name.ensures, c.first_at.ensures) at c.run_of-p.ensures

pub returns-then-p-eq1 : goal.returns-then-p-eq1
returns-then-p-eq1 c =
    rw (c.refuse.ensures, c.skip_blank-name.ensures, c.first_at.ensures)
    (directive_none c.requires (name_read (goal.at.returns-then-p-eq1 c).After-run_of-p) c.if-p-eq1.true)

pub returns-then-not-is_blank_or_breakz : goal.returns-then-not-is_blank_or_breakz
returns-then-not-is_blank_or_breakz c =
    rw (c.refuse-then-not-is_blank_or_breakz.ensures, c.skip_blank-name.ensures, c.first_at.ensures)
    (directive_stopped c.requires (name_read (goal.at.returns-then-not-is_blank_or_breakz c).After-run_of-p) c.if-p-eq1.false c.look.ensures
    (sym c.if-not-is_blank_or_breakz.ensures))

pub returns-in_err-l : goal.returns-in_err-l
returns-in_err-l c =
    let p = err_from_is_err_and c.from_residual.result c.from_residual.ensures.1 in
    rw (p.1, p.2)
    (directive_refused c.requires (name_read (goal.at.returns-in_err-l c).After-run_of-p) c.if-p-eq1.false c.look.ensures
    (sym c.if-not-is_blank_or_breakz.ensures) c.in_err-l.ensures)

pub returns : goal.returns
returns c =
    directive_got c.requires (name_read (goal.at.returns c).After-run_of-p) c.if-p-eq1.false c.look.ensures (sym c.if-not-is_blank_or_breakz.ensures)
    c.in_ok-l.ensures c.line_end.ensures
