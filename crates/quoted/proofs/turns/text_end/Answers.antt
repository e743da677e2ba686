-- What is left of the run from a character on gives the whole run.
use mathlib.Core.Path.{◌∙◌, ap, refl, sym}
use native.Mathlib.Omega.{arith}
use Rattle.chars.specs.declared.mark.Place.{Place}
use Rattle.chars.specs.Bytes.{CharAt, char_at}
use Rattle.chars.specs.Places.{small}
use Rattle.quoted.proofs.Spanned.{no_chars, span_end, span_inner, span_more, span_ordinary, span_stop}
use borrow.Author.Rules.{rules}
use Rattle.quoted.proofs.turns.text_end.Goals as goal
use Rattle.quoted.proofs.turns.text_end.Goals.{In-Char}

-- the character there
char : (c : In-Char) → CharAt c.args.text.now c.loop-p.p.at c.in-Char.code c.in-Char.len
char c = char_at _ _ _ _ (sym c.char_at-d.ensures ∙ c.in-Char.is)

pub loop-p-preserved-then-is_ordinary : goal.loop-p-preserved-then-is_ordinary
loop-p-preserved-then-is_ordinary c =
    let a = c.args in
    rw c.skip_blank-p.ensures (span_ordinary a.spaces a.single c.loop-p.invariant _ c.byte-b.ensures (sym c.is_ordinary.ensures ∙ c.if-is_ordinary.true))

pub loop-p-smaller-then-is_ordinary : goal.loop-p-smaller-then-is_ordinary
loop-p-smaller-then-is_ordinary c = omega (arith, (loop-p-preserved-then-is_ordinary c).walks.stands.within, ap (λ (p : Place). p.at) c.skip_blank-p.ensures)

pub loop-p-preserved-then-is_inner : goal.loop-p-preserved-then-is_inner
loop-p-preserved-then-is_inner c =
    let a = c.args in
    rw c.skip_blank-p-then-is_inner.ensures (span_inner a.spaces a.single c.loop-p.invariant _ c.byte-b.ensures _ refl (sym c.is_inner.ensures ∙ c.if-is_inner.true))

pub loop-p-smaller-then-is_inner : goal.loop-p-smaller-then-is_inner
loop-p-smaller-then-is_inner c = omega (arith, (loop-p-preserved-then-is_inner c).walks.stands.within, ap (λ (p : Place). p.at) c.skip_blank-p-then-is_inner.ensures)

pub returns-in_default : goal.returns-in_default
returns-in_default c =
    let a = c.args in
    span_end a.spaces a.single c.loop-p.invariant (no_chars a.text.now c.loop-p.p.at _ c.char_at-d.ensures c.in_default.not-Char)

pub returns-then-is_special : goal.returns-then-is_special
returns-then-is_special c =
    let k = char (goal.at.returns-then-is_special c).In-Char in
    let a = c.args in
    span_stop a.spaces a.single c.loop-p.invariant _ c.byte-b.ensures _ refl k (sym c.is_special.ensures ∙ c.if-is_special.true)
    (sym c.is_inner.ensures ∙ c.if-is_inner.false)

pub skip_non_blank-p-requires : goal.skip_non_blank-p-requires
skip_non_blank-p-requires c =
    let k = char (goal.at.skip_non_blank-p-requires c).In-Char in
    (small c.loop-p.invariant.walks.stands (search rules), k.few)

pub loop-p-preserved : goal.loop-p-preserved
loop-p-preserved c =
    let k = char (goal.at.loop-p-preserved c).In-Char in
    let a = c.args in
    rw c.skip_non_blank-p.ensures (span_more a.spaces a.single c.loop-p.invariant k (sym c.is_special.ensures ∙ c.if-is_special.false))

pub loop-p-smaller : goal.loop-p-smaller
loop-p-smaller c =
    let k = char (goal.at.loop-p-smaller c).In-Char in
    omega (arith, (loop-p-preserved c).walks.stands.within, k.some, ap (λ (p : Place). p.at) c.skip_non_blank-p.ensures)
