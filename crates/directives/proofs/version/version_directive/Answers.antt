-- The first number is read behind the blanks, and the second behind a dot.
use Rattle.std.proofs.lemmas.Result.{err_from_is_err_and}
use Rattle.yaml_text.specs.Char.{dot}
use Rattle.chars.specs.Bytes.{CharAt, eq_char}
use Rattle.directives.proofs.Versions.{major_refused, minor_refused, version_got, version_open}
use Rattle.directives.proofs.version.version_directive.Goals as goal
use Rattle.directives.proofs.version.version_directive.Goals.{Else-byte-ne46}

-- the dot
dotted : (c : Else-byte-ne46) → CharAt c.args.text.now c.in_ok-major.major.place.at dot 1
dotted c = eq_char _ _ _ c.byte.ensures dot tt c.if-byte-ne46.false

pub returns-in_err-major : goal.returns-in_err-major
returns-in_err-major c =
    let p = err_from_is_err_and c.from_residual.result c.from_residual.ensures.1 in
    λ used. rw (p.1, p.2) (major_refused _ c.skip_blanks.ensures used c.in_err-major.ensures)

pub returns-then-byte-ne46 : goal.returns-then-byte-ne46
returns-then-byte-ne46 c = λ used. rw c.refuse.ensures (version_open _ c.skip_blanks.ensures used c.in_ok-major.ensures c.byte.ensures c.if-byte-ne46.true)

pub returns-in_err-minor : goal.returns-in_err-minor
returns-in_err-minor c =
    let p = err_from_is_err_and c.from_residual-in_err-minor.result c.from_residual-in_err-minor.ensures.1 in
    let d = dotted (goal.at.returns-in_err-minor c).Else-byte-ne46 in
    λ used. rw (p.1, p.2) (minor_refused _ c.skip_blanks.ensures used c.in_ok-major.ensures d (rw c.skip_blank.ensures at c.in_err-minor.ensures))

pub returns : goal.returns
returns c =
    let d = dotted (goal.at.returns c).Else-byte-ne46 in
    λ used. rw c.new.ensures (version_got _ c.skip_blanks.ensures used c.in_ok-major.ensures d (rw c.skip_blank.ensures at c.in_ok-minor.ensures))
