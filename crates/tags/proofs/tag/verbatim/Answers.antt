-- x is written from the front.
use Rattle.std.proofs.lemmas.Result.{err_from_is_err_and}
use Rattle.yaml_text.specs.Char.{'>'}
use Rattle.chars.specs.Bytes.{eq_char}
use Rattle.tags.proofs.Parts.{verbatim_closed, verbatim_open, verbatim_refused}
use Rattle.tags.proofs.tag.verbatim.Goals as goal

pub returns-in_err-x : goal.returns-in_err-x
returns-in_err-x c =
    let p = err_from_is_err_and c.from_residual.result c.from_residual.ensures.1 in
    rw (p.1, p.2)
    (verbatim_refused c.requires.0 c.requires.1 (rw (c.skip_n_non_blank.ensures, c.first_at-first.ensures) at c.in_err-x.ensures.writes))

pub returns-then-byte-ne62 : goal.returns-then-byte-ne62
returns-then-byte-ne62 c =
    rw c.refuse.ensures
    (verbatim_open c.requires.0 c.requires.1 (rw (c.skip_n_non_blank.ensures, c.first_at-first.ensures) at c.in_ok-x.ensures.writes)
    c.byte.ensures c.if-byte-ne62.true)

pub returns : goal.returns
returns c =
    let b = c.byte in
    verbatim_closed c.requires.0 c.requires.1 (rw (c.skip_n_non_blank.ensures, c.first_at-first.ensures) at c.in_ok-x.ensures.writes)
    (eq_char _ _ b.result b.ensures '>' tt c.if-byte-ne62.false) c.skip_blank-place.ensures
