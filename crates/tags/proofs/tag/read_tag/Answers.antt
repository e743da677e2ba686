-- Both texts are read and the tag's end is looked at.
use Rattle.std.proofs.Common.{refl, sym}
use Rattle.std.proofs.lemmas.Result.{err_from_is_err_and}
use Rattle.chars.specs.Bytes.{eq_char}
use Rattle.tags.proofs.Tags.{tag_ended, tag_open, tag_refused}
use Rattle.tags.proofs.tag.read_tag.Goals as goal

pub tag_texts-requires : goal.tag_texts-requires
tag_texts-requires c = let p = c.requires in record { stands = p.0.given.stands; first = eq_char _ 0 _ refl 33 tt p.1 }

pub returns-in_err-t : goal.returns-in_err-t
returns-in_err-t c =
    let p = err_from_is_err_and c.from_residual.result c.from_residual.ensures.1 in
    rw (p.1, p.2) (tag_refused _ c.requires.0 c.in_err-t.ensures)

pub returns-then-not-ends_tag : goal.returns-then-not-ends_tag
returns-then-not-ends_tag c = rw c.refuse.ensures (tag_open _ c.requires.0 c.in_ok-t.ensures c.look.ensures (sym c.if-not-ends_tag.ensures))

pub returns : goal.returns
returns c =
    rw c.new.ensures
    (tag_ended _ c.requires.0 c.in_ok-t.ensures c.look.ensures (sym c.if-not-ends_tag.ensures)
    c.texts_at.ensures.0 refl c.texts_at.ensures.1)
