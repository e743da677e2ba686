-- The line from here on is what is left of the line.
use Prim.Native.Nat.{◌≤◌, ℕ}
use mathlib.Core.List.{List}
use mathlib.Core.Path.{◌∙◌, ◌≡◌, ap, sym}
use native.Mathlib.Omega.{arith}
use lib.ListN.{drop}
use Rattle.yaml_text.specs.Mark.{Run}
use Rattle.yaml_text.specs.Utf8.{chars}
use Rattle.chars.specs.declared.mark.Place.{Place}
use Rattle.chars.specs.Bytes.{CharAt, char_at, none_told, not_char}
use Rattle.chars.specs.Places.{small}
use Rattle.chars.specs.Reach.{reach_one}
use Rattle.gaps.specs.Line.{line, low_run}
use Rattle.gaps.specs.Span.{Spanning, spans_along, spans_done}
use Rattle.gaps.proofs.Laws.{end_done, line_done, line_turn, low_spans, to_end}
use borrow.Author.Rules.{rules}
use Rattle.gaps.proofs.run_to_break.Goals as goal
use Rattle.gaps.proofs.run_to_break.Goals.{After-leading, After-skip_n_non_blank-q, In-Char}

-- the line from a place on
abbrev line-from : List ℕ → Place → Run
line-from text p = line p.mark (chars (drop p.at text))

-- the characters of one byte there
counted : (c : After-leading) → let p = c.loop-code.p in c.leading.result ≡ low_run (drop p.at c.args.text.now)
counted c = c.leading.ensures.value ∙ ap low_run (to_end c.args.text.now c.loop-code.p.at)

-- behind them
spanned : (c : After-skip_n_non_blank-q) → let q = c.skip_n_non_blank-q.result in
    Spanning c.args.text.now c.args.start q (line-from c.args.text.now c.args.start) (line-from c.args.text.now q)
spanned c = low_spans (c.leading.ensures.value ∙ ap low_run (to_end c.args.text.now c.loop-code.p.at)) c.loop-code.invariant c.skip_n_non_blank-q.ensures

-- the character there
char : (c : In-Char) → CharAt c.args.text.now c.skip_n_non_blank-q.result.at c.in-Char.code c.in-Char.len
char c = char_at _ _ _ _ (sym c.char_at-d.ensures ∙ c.in-Char.is)

pub returns-in_default : goal.returns-in_default
returns-in_default c =
    spans_done (spanned (goal.at.returns-in_default c).After-skip_n_non_blank-q)
    (end_done _ _ (none_told c.args.text.now c.skip_n_non_blank-q.result.at c.char_at-d.ensures (not_char c.char_at-d.result c.in_default.not-Char)))

pub returns-then-is_break : goal.returns-then-is_break
returns-then-is_break c =
    let at = goal.at.returns-then-is_break c in
    spans_done (spanned at.After-skip_n_non_blank-q) (line_done _ (char at.In-Char) (sym c.is_break.ensures ∙ c.if-is_break.true))

pub skip_non_blank-p-requires : goal.skip_non_blank-p-requires
skip_non_blank-p-requires c =
    let at = goal.at.skip_non_blank-p-requires c in
    (small (spanned at.After-skip_n_non_blank-q).walks.stands (search rules), (char at.In-Char).few)

pub loop-code-smaller : goal.loop-code-smaller
loop-code-smaller c =
    let onward : c.loop-code.p.at ≤ c.skip_n_non_blank-q.result.at = rw c.skip_n_non_blank-q.ensures (omega arith) in
    rw c.skip_non_blank-p.ensures (omega (arith, char (goal.at.loop-code-smaller c).In-Char, onward))

pub loop-code-preserved : goal.loop-code-preserved
loop-code-preserved c =
    let at = goal.at.loop-code-preserved c in
    let k = char at.In-Char in
    rw c.skip_non_blank-p.ensures
    (spans_along (spanned at.After-skip_n_non_blank-q) _ 1 (reach_one k) (line_turn _ k (sym c.is_break.ensures ∙ c.if-is_break.false)))
