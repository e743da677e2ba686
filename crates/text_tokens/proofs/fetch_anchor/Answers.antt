-- The reader answers as the definition's does; then the candidate is saved.
use Rattle.std.proofs.Common.{false, refl, rules}
use Rattle.std.proofs.lemmas.Result.{err_from_is_err_and}
use Rattle.yaml_lexeme.specs.Anchor.{scan_anchor}
use Rattle.yaml_scan.specs.Fetch.{fetch_anchor}
use Rattle.text_tokens.proofs.Read.{read_here}
use Rattle.text_tokens.proofs.Saved.{anchor_tells, going, saved, saved_refused}
use Rattle.text_tokens.proofs.fetch_anchor.Goals as goal

pub returns-in_err-l : goal.returns-in_err-l
returns-in_err-l c =
    let a = c.args in
    let k = c.in_err-l.ensures in
    let p = err_from_is_err_and c.from_residual.result c.from_residual.ensures.1 in
    rw (p.1, p.2, k.leaves)
    (saved_refused a.bytes.now (λ t. fetch_anchor a.alias t) (going false) (anchor_tells a.text.now a.stacks.now a.n.count a.s a.alias)
    (read_here a.text.now a.s k _ (λ q. scan_anchor a.alias q) (search rules)))

pub returns : goal.returns
returns c =
    let a = c.args in
    let y = c.requires.0 in
    let k = c.in_ok-l.ensures in
    rw (c.emit_lexeme.ensures, k.leaves)
    (saved a.bytes.now (λ t. fetch_anchor a.alias t) (going false) (anchor_tells a.text.now a.stacks.now a.n.count a.s a.alias) y
    (read_here a.text.now a.s k _ (λ q. scan_anchor a.alias q) (search rules))
    c.save_key.ensures a.s.indents false false (λ m. a.s.adjacent_value_allowed_at) y.low (λ l. refl))
