-- The blanks and comment are read, or refused as the definition does.
use mathlib.Core.Path.{refl}
use Rattle.std.proofs.lemmas.Result.{err_from_is_err_and}
use Rattle.block_scalars.specs.Scan.{header_of}
use Rattle.gaps.specs.Answers.{reached_refused, reached_to}
use Rattle.block_scalars.proofs.Scans.{after_right, after_wrong, reads_as, reads_refused, ready_on}
use Rattle.block_scalars.proofs.after_header.Goals as goal

pub returns-in_err-e : goal.returns-in_err-e
returns-in_err-e c =
    let a = c.args in
    let p = err_from_is_err_and c.from_residual.result c.from_residual.ensures.1 in
    rw (p.1, p.2) (reads_refused refl (after_wrong a.k (header_of a.text.now a.h) (reached_refused c.in_err-e.ensures refl)))

pub returns : goal.returns
returns c =
    let a = c.args in
    reads_as c.header_end.ensures
    (after_right a.k (header_of a.text.now a.h) (reached_to c.in_ok-e.ensures refl).0)
