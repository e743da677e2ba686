-- The first character is text whatever it is, and `text_end` tells the rest.
use mathlib.Core.Path.{◌∙◌, ◌≡◌, ap}
use Rattle.std.proofs.Common.{Ok}
use Rattle.yaml_text.specs.Class.{peek}
use Rattle.yaml_text.specs.Mark.{along}
use Rattle.yaml_text.specs.Utf8.{chars}
use Rattle.chars.specs.declared.mark.Place.{Place}
use Rattle.chars.specs.Bytes.{CharAt}
use Rattle.chars.specs.Places.{small}
use Rattle.chars.specs.View.{past}
use Rattle.reading.specs.Reading.{first_at}
use Rattle.plain.proofs.First.{first_char, first_stands, plain_got}
use borrow.Author.Rules.{rules}
use Rattle.plain.proofs.scan_plain_scalar.Goals as goal

pub skip_non_blank-requires : goal.skip_non_blank-requires
skip_non_blank-requires c =
    let first : CharAt c.args.text.now 0 (peek (chars c.args.text.now) 0) c.lead_len-len.result = first_char _ c.requires.1 _ _ c.byte.ensures c.lead_len-len.ensures in
    (rw c.first_at-first.ensures (small c.requires.0.stands (search rules)), (first).few)

pub text_end-e-requires : goal.text_end-e-requires
text_end-e-requires c =
    let first : CharAt c.args.text.now 0 (peek (chars c.args.text.now) 0) c.lead_len-len.result = first_char _ c.requires.1 _ _ c.byte.ensures c.lead_len-len.ensures in
    let second : let m = c.args.start in c.skip_non_blank.result ≡ past (first_at m) c.lead_len-len.result (along m) = c.skip_non_blank.ensures ∙ ap (λ (p : Place). past p c.lead_len-len.result (along p.mark)) c.first_at-first.ensures in
    rw (second) (first_stands c.args.flow c.requires.0 (first))

pub returns : goal.returns
returns c =
    let first : CharAt c.args.text.now 0 (peek (chars c.args.text.now) 0) c.lead_len-len.result = first_char _ c.requires.1 _ _ c.byte.ensures c.lead_len-len.ensures in
    let second : let m = c.args.start in c.skip_non_blank.result ≡ past (first_at m) c.lead_len-len.result (along m) = c.skip_non_blank.ensures ∙ ap (λ (p : Place). past p c.lead_len-len.result (along p.mark)) c.first_at-first.ensures in
    plain_got _ c.requires.0 (first) (rw (second) at c.text_end-e.ensures) c.copy.ensures (ap Ok (c.new.ensures ∙ rw c.text_at.ensures))
