-- The reader answers as the definition's does, and never refuses; then the candidate is saved.
use Rattle.std.proofs.Common.{false, ltb, refl, rules, Ok}
use Rattle.yaml_text.specs.Refusal.{got}
use Rattle.yaml_lexeme.specs.Plain.{scan_plain_scalar}
use Rattle.yaml_scan.specs.Fetch.{fetch_plain_scalar}
use Rattle.text_tokens.proofs.Read.{read_here}
use Rattle.text_tokens.proofs.Saved.{going, plain_tells, saved}
use Rattle.text_tokens.proofs.fetch_plain_scalar.Goals as goal

pub returns : goal.returns
returns c =
    let a = c.args in
    let k = c.read_from-l in
    let y = c.requires.0 in
    rw (c.moved.ensures, c.behind.ensures, k.ensures.leaves)
    (saved a.bytes.now (λ t. fetch_plain_scalar t) (going false) (plain_tells a.text.now a.stacks.now a.n.count a.s) y
    (read_here a.text.now a.s k.ensures (Ok k.result) (λ p. got (scan_plain_scalar (ltb 0 a.s.flow_level) p)) (search rules))
    c.save_key.ensures a.s.indents false false (λ m. a.s.adjacent_value_allowed_at) y.low (λ l. refl))
