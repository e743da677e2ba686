-- The reader answers as the definition's does; then all blocks are left.
use Rattle.std.proofs.Common.{rules}
use Rattle.std.proofs.lemmas.Result.{err_from_is_err_and}
use Rattle.yaml_lexeme.specs.Directive.{scan_directive}
use Rattle.text_tokens.proofs.Read.{read_here}
use Rattle.text_tokens.proofs.Left.{left, left_refused}
use Rattle.text_tokens.proofs.fetch_directive.Goals as goal

pub returns-in_err-l : goal.returns-in_err-l
returns-in_err-l c =
    let a = c.args in
    let k = c.in_err-l.ensures in
    let p = err_from_is_err_and c.from_residual.result c.from_residual.ensures.1 in
    rw (p.1, p.2, k.leaves)
    (left_refused a.bytes.now
    (read_here a.text.now a.s k _ (λ q. scan_directive q) (search rules)))

pub returns : goal.returns
returns c =
    let a = c.args in
    let y = c.requires.0 in
    let k = c.in_ok-l.ensures in
    rw (c.closing.ensures, c.moved-t.ensures, c.with_indents.ensures, c.behind-p.ensures, k.leaves)
    (left a.bytes.now y
    (read_here a.text.now a.s k _ (λ q. scan_directive q) (search rules)) c.leave_blocks-u.ensures)
