-- An escaped break, an escape that is written, or one that is refused.
use mathlib.Core.Path.{◌∙◌, ap, refl}
use native.Mathlib.Omega.{arith}
use Rattle.std.proofs.Common.{Ok}
use Rattle.chars.specs.Lines.{break_few}
use Rattle.chars.specs.Places.{small, stands_along}
use Rattle.quoted.proofs.Backslash.{joined_turns, one_turns, refused_turns}
use borrow.Author.Rules.{rules}
use Rattle.quoted.proofs.turns.on_backslash.Goals as goal

pub skip_linebreak-requires : goal.skip_linebreak-requires
skip_linebreak-requires c = (rw c.skip_blank-e.ensures (small (stands_along c.requires.0.stands 1 1 (omega arith) c.requires.1.within) (search rules)), rw c.break_length-k.ensures (break_few _))

pub returns-then-k-gt0 : goal.returns-then-k-gt0
returns-then-k-gt0 c =
    joined_turns _ c.requires.0 c.requires.1 c.requires.2 _ c.break_length-k.ensures c.if-k-gt0.true
    (ap Ok (c.goes.ensures ∙ rw (c.skip_linebreak.ensures, c.skip_blank-e.ensures)))

pub returns-in_default : goal.returns-in_default
returns-in_default c =
    refused_turns _ c.requires.0 c.requires.1 c.requires.2 (rw c.break_length-k.ensures at c.if-k-gt0.false) _ (rw c.unwrap_err.ensures at c.escape-r.ensures) refl

pub returns : goal.returns
returns c =
    one_turns _ c.requires.0 c.requires.1 c.requires.2 (rw c.break_length-k.ensures at c.if-k-gt0.false) c.in-Ok.ensures c.put_char-m.ensures.0 c.put_char-m.ensures.1
    (ap Ok c.goes-2.ensures)
