-- The handle is copied and the prefix read behind it.
use Rattle.std.proofs.Common.{◌≡◌, refl}
use Rattle.std.proofs.lemmas.Result.{err_from_is_err_and}
use Rattle.yaml_text.specs.Mark.{Run}
use Rattle.yaml_text.specs.Refusal.{got}
use Rattle.yaml_lexeme.specs.Directive.{tag_handle}
use Rattle.chars.specs.Parts.{Spans}
use Rattle.chars.specs.View.{view}
use Rattle.directives.proofs.Spans.{span_front, span_long}
use Rattle.directives.proofs.Prefix.{handle_told, tag_got, tag_refused}
use Rattle.directives.proofs.tag.tag_directive.Goals as goal
use Rattle.directives.proofs.tag.tag_directive.Goals.{In_ok-e}

read : (c : In_ok-e) → let q = c.skip_blanks-q.result in
    (h : Run) × (tag_handle c.args.start (view c.args.text.now q) ≡ got h) × Spans c.args.text.now q c.in_ok-e.e h
read c = handle_told c.in_ok-e.ensures refl

pub returns-in_err-e : goal.returns-in_err-e
returns-in_err-e c =
    let p = err_from_is_err_and c.from_residual.result c.from_residual.ensures.1 in
    rw (p.1, p.2) (tag_refused _ c.skip_blanks-q.ensures c.in_err-e.ensures)

pub returns : goal.returns
returns c =
    let t = read (goal.at.returns c).In_ok-e in
    tag_got _ c.skip_blanks-q.ensures t.1 t.2 (rw (span_long t.2) (span_front t.2 c.copy.ensures)) c.read_prefix.ensures
