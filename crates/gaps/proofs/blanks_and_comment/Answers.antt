-- What follows the blanks is told by the byte there.
use mathlib.Core.Path.{◌∙◌, ◌≡◌, ap, refl, sym}
use lib.ListN.{drop}
use borrow.Author.Tests.{eq-eqb, ne_eqb}
use Rattle.yaml_text.specs.Char.{'#'}
use Rattle.yaml_text.specs.Class.{is_blank, peek}
use Rattle.yaml_text.specs.Mark as definition
use Rattle.yaml_text.specs.Refusal.{refused}
use Rattle.yaml_text.specs.Utf8.{chars}
use Rattle.yaml_lexeme.specs.Gap.{blanks_and_comment, to_break}
use Rattle.chars.specs.Places.{moves_then}
use Rattle.gaps.specs.Answers.{reaches_refused, reaches_to}
use Rattle.gaps.proofs.Laws.{comment_none, comment_some, comment_wrong, look_at}
use Rattle.chars.specs.Ascii.{blank_ascii}
use Rattle.chars.specs.Bytes.{ascii_at}
use Rattle.gaps.proofs.blanks_and_comment.Goals as goal

pub returns-then-byte-ne35 : goal.returns-then-byte-ne35
unfolding blanks_and_comment
returns-then-byte-ne35 c =
    reaches_to refl c.skip_blanks-p.ensures
    (comment_none _ _ (look_at '#' c.skip_blanks-p.ensures c.byte-2.ensures tt ∙ ne_eqb _ '#' c.if-byte-ne35.true))

pub returns-then-blank : goal.returns-then-blank
unfolding blanks_and_comment
returns-then-blank c =
    let blank : is_blank (peek (chars (drop c.args.start.at c.args.text.now)) 0) ≡ c.is_blank-blank.result = ascii_at c.args.text.now c.args.start.at _ c.byte.ensures blank_ascii
    ∙ sym c.is_blank-blank.ensures in
    let w = c.skip_blanks-p.ensures in
    reaches_to refl (moves_then (λ q. to_break q.mark q.rest) w c.to_break.ensures)
    (comment_some _ _ (blank ∙ c.if-blank.true) (look_at '#' w c.byte-2.ensures tt ∙ eq-eqb _ '#' c.if-byte-ne35.false))

pub returns : goal.returns
unfolding blanks_and_comment
returns c =
    let blank : is_blank (peek (chars (drop c.args.start.at c.args.text.now)) 0) ≡ c.is_blank-blank.result = ascii_at c.args.text.now c.args.start.at _ c.byte.ensures blank_ascii
    ∙ sym c.is_blank-blank.ensures in
    let w = c.skip_blanks-p.ensures in
    reaches_refused c.refuse.ensures
    (comment_wrong _ _ (blank ∙ c.if-blank.false) (look_at '#' w c.byte-2.ensures tt ∙ eq-eqb _ '#' c.if-byte-ne35.false)
    ∙ ap (λ (q : definition.Place). refused 44 q.mark) (sym w.same))
