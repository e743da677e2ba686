-- The byte there tells whether it is a quote, a backslash or text that stands for itself.
use mathlib.Core.Path.{◌∙◌, ap, sym}
use Rattle.std.proofs.Common.{Ok}
use Rattle.quoted.proofs.Chosen.{backslash_there, quote_there, text_plain}
use Rattle.quoted.proofs.Quotes.{run_turns}
use Rattle.quoted.proofs.turns.on_char.Goals as goal

pub on_quote-requires : goal.on_quote-requires
on_quote-requires c = (c.requires.0, quote_there c.args.q.single c.byte-c.ensures (c.if-c-quote_char.true ∙ c.quote_char.ensures))

pub on_backslash-requires : goal.on_backslash-requires
on_backslash-requires c = let b = backslash_there _ c.byte-c.ensures c.if-c-q.true in (c.requires.0, b.0, b.1)

pub returns : goal.returns
returns c =
    let q = c.args.q in
    run_turns c.requires.0 c.requires.1
    (text_plain q.single c.requires.1 c.byte-c.ensures (λ x. c.if-c-quote_char.false (x ∙ sym c.quote_char.ensures)) c.if-c-q.false)
    c.text_end-e.ensures c.copy.ensures (ap Ok c.goes.ensures)
