-- By the name.
use Rattle.std.proofs.Common.{◌≡◌, false, true}
use Rattle.yaml_text.specs.Class.{same}
use Rattle.yaml_job.specs.declared.Field.TheVariants.{Panel, Sample, Seeds}
use Rattle.yaml_job.specs.Job.{named, spelled}
use Rattle.shape.proofs.Names.{told}
use Rattle.shape.proofs.named.Goals as goal

pub returns-then-eq : goal.returns-then-eq
unfolding named spelled
returns-then-eq c =
    let is-sample : same c.args.text.now (spelled Sample) ≡ true = told _ c.eq.ensures c.as_slice.ensures c.if-eq.true in
    rw (c.meets.ensures, is-sample, named)

pub returns-then-eq-2 : goal.returns-then-eq-2
unfolding named spelled
returns-then-eq-2 c =
    let no-sample : same c.args.text.now (spelled Sample) ≡ false = told _ c.eq.ensures c.as_slice.ensures c.if-eq.false in
    let is-panel : same c.args.text.now (spelled Panel) ≡ true = told _ c.eq-2.ensures c.as_slice-2.ensures c.if-eq-2.true in
    rw (c.meets-then-eq-2.ensures, no-sample, is-panel, named)

pub returns-then-eq-3 : goal.returns-then-eq-3
unfolding named spelled
returns-then-eq-3 c =
    let no-sample : same c.args.text.now (spelled Sample) ≡ false = told _ c.eq.ensures c.as_slice.ensures c.if-eq.false in
    let no-panel : same c.args.text.now (spelled Panel) ≡ false = told _ c.eq-2.ensures c.as_slice-2.ensures c.if-eq-2.false in
    let is-seeds : same c.args.text.now (spelled Seeds) ≡ true = told _ c.eq-3.ensures c.as_slice-3.ensures c.if-eq-3.true in
    rw (c.meets-then-eq-3.ensures, no-sample, no-panel, is-seeds, named)

pub returns : goal.returns
unfolding named spelled
returns c =
    let no-sample : same c.args.text.now (spelled Sample) ≡ false = told _ c.eq.ensures c.as_slice.ensures c.if-eq.false in
    let no-panel : same c.args.text.now (spelled Panel) ≡ false = told _ c.eq-2.ensures c.as_slice-2.ensures c.if-eq-2.false in
    let no-seeds : same c.args.text.now (spelled Seeds) ≡ false = told _ c.eq-3.ensures c.as_slice-3.ensures c.if-eq-3.false in
    rw (no-sample, no-panel, no-seeds, named)
