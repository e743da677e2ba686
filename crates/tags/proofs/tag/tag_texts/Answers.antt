-- The byte behind the mark and the one behind the word tell the form.
use Rattle.std.proofs.Common.{◌∙◌, sym}
use Rattle.tags.specs.Texts.{NameAt}
use Rattle.tags.proofs.Tags.{tag_handled, tag_primary, tag_verbatim}
use Rattle.tags.proofs.tag.tag_texts.Goals as goal
use Rattle.tags.proofs.tag.tag_texts.Goals.{After-run_of-p}

name_read : (c : After-run_of-p) → NameAt c.args.text.now c.args.start c.run_of-p.result
name_read c = record { tagged = c.requires; name = rw (c.skip_blank.ensures, c.first_at-first.ensures) at c.run_of-p.ensures }

pub returns-then-byte-eq60 : goal.returns-then-byte-eq60
returns-then-byte-eq60 c = rw (tag_verbatim c.requires (sym c.byte.ensures ∙ c.if-byte-eq60.true)) c.verbatim.ensures

pub returns-then-byte-eq33 : goal.returns-then-byte-eq33
returns-then-byte-eq33 c =
    let name = name_read (goal.at.returns-then-byte-eq33 c).After-run_of-p in
    rw (tag_handled c.requires c.byte.ensures c.if-byte-eq60.false name c.byte-2.ensures c.if-byte-eq33.true) c.handled.ensures

pub returns : goal.returns
returns c =
    let name = name_read (goal.at.returns c).After-run_of-p in
    rw (tag_primary c.requires c.byte.ensures c.if-byte-eq60.false name c.byte-2.ensures c.if-byte-eq33.false) c.primary.ensures
