-- The reader answers as the definition's does; then the candidate is saved, and ':' may stand behind what was read.
use Rattle.std.proofs.Common.{◌+◌, false, ltb, refl, rules}
use Rattle.std.proofs.lemmas.Result.{err_from_is_err_and}
use Rattle.yaml_lexeme.specs.Quoted.{scan_flow_scalar}
use Rattle.yaml_scan.specs.Fetch.{fetch_flow_scalar}
use Rattle.yaml_scan.specs.State.{adjacent_here}
use Rattle.text_tokens.proofs.Read.{read_here}
use Rattle.text_tokens.proofs.Saved.{flow_tells, going, saved, saved_refused}
use Rattle.text_tokens.proofs.fetch_flow_scalar.Goals as goal

pub returns-in_err-l : goal.returns-in_err-l
returns-in_err-l c =
    let a = c.args in
    let k = c.in_err-l.ensures in
    let p = err_from_is_err_and c.from_residual.result c.from_residual.ensures.1 in
    rw (p.1, p.2, k.leaves)
    (saved_refused a.bytes.now (λ t. fetch_flow_scalar a.single t) (λ l v. adjacent_here (going false l v)) (flow_tells a.text.now a.stacks.now a.n.count a.s a.single)
    (read_here a.text.now a.s k _ (λ q. scan_flow_scalar (ltb 0 a.s.flow_level) a.single a.s.indents.indent q) (search rules)))

pub returns : goal.returns
returns c =
    let a = c.args in
    let y = c.requires.0 in
    let k = c.in_ok-l.ensures in
    rw (c.closing.ensures, c.adjacent_here.ensures, c.moved-t.ensures, c.behind.ensures, k.leaves)
    (saved a.bytes.now (λ t. fetch_flow_scalar a.single t) (λ l v. adjacent_here (going false l v)) (flow_tells a.text.now a.stacks.now a.n.count a.s a.single) y
    (read_here a.text.now a.s k _ (λ q. scan_flow_scalar (ltb 0 a.s.flow_level) a.single a.s.indents.indent q) (search rules))
    c.save_key.ensures a.s.indents false false (λ m. m.index + 1) y.low (λ l. refl))
