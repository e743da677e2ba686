-- The entries that end no block go; the reader answers as the definition's does; then the candidate is saved.
use Rattle.std.proofs.Common.{refl, rules, true}
use Rattle.std.proofs.lemmas.Result.{err_from_is_err_and}
use Rattle.yaml_lexeme.specs.Block.{scan_block_scalar}
use Rattle.yaml_scan.specs.Fetch.{fetch_block_scalar}
use Rattle.stacks.proofs.Entries.{low_below}
use Rattle.text_tokens.proofs.Read.{read_here}
use Rattle.text_tokens.proofs.Saved.{block_goes, block_tells, in_block, saved, saved_refused}
use Rattle.text_tokens.proofs.fetch_block_scalar.Goals as goal

pub returns-in_err-l : goal.returns-in_err-l
returns-in_err-l c =
    let a = c.args in
    let k = c.in_err-l.ensures in
    let p = err_from_is_err_and c.from_residual.result c.from_residual.ensures.1 in
    rw (p.1, p.2, k.leaves)
    (saved_refused a.bytes.now (λ t. fetch_block_scalar a.literal t) (in_block a.stacks.now c.drop_non_ending-i.result) (block_tells a.text.now a.stacks.now a.n.count a.s c.drop_non_ending-i.ensures a.literal)
    (read_here a.text.now a.s k _ (λ q. scan_block_scalar a.literal c.drop_non_ending-i.result.indent q) (search rules)))

pub returns : goal.returns
returns c =
    let a = c.args in
    let y = c.requires.0 in
    let k = c.in_ok-l.ensures in
    rw (c.emit_lexeme.ensures, c.with_indents.ensures, k.leaves)
    (saved a.bytes.now (λ t. fetch_block_scalar a.literal t) (in_block a.stacks.now c.drop_non_ending-i.result) (block_tells a.text.now a.stacks.now a.n.count a.s c.drop_non_ending-i.ensures a.literal) y
    (read_here a.text.now a.s k _ (λ q. scan_block_scalar a.literal c.drop_non_ending-i.result.indent q) (search rules))
    c.save_key.ensures c.drop_non_ending-i.result true true (λ m. a.s.adjacent_value_allowed_at) (low_below y.low c.drop_non_ending-i.ensures.below)
    (block_goes a.text.now a.stacks.now a.n.count a.s c.drop_non_ending-i.ensures y c.save_key.ensures))
