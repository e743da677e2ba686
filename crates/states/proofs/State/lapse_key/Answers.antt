-- Each way out is one case of the definition: in flow, no candidate, a fresh one, a stale one that is required or not.
use mathlib.Core.Path.{◌∙◌, sym}
use Rattle.states.proofs.Keys.{lapses_flow, lapses_fresh, lapses_none, lapses_refused, lapses_stale}
use Rattle.states.proofs.State.lapse_key.Goals as goal

pub returns-then-self-gt0 : goal.returns-then-self-gt0
returns-then-self-gt0 c = let a = c.args in lapses_flow a.stacks.now a.self c.if-self-gt0.true

pub returns-in_default : goal.returns-in_default
returns-in_default c = lapses_none c.args.stacks.now c.args.self c.if-self-gt0.false (sym c.key.ensures ∙ c.in_default.is)

pub returns-then-not-is_stale : goal.returns-then-not-is_stale
returns-then-not-is_stale c = lapses_fresh c.args.stacks.now c.args.self c.if-self-gt0.false _ _ _ (sym c.key.ensures ∙ c.in-Possible.is) (sym c.is_stale.ensures ∙ c.if-not-is_stale.true)

pub returns-then-required : goal.returns-then-required
returns-then-required c = rw c.refuse.ensures (lapses_refused c.args.stacks.now c.args.self c.if-self-gt0.false _ _ _ (sym c.key.ensures ∙ c.in-Possible.is) (sym c.is_stale.ensures ∙ c.if-not-is_stale.false) c.if-required.true)

pub returns : goal.returns
returns c = lapses_stale c.args.stacks.now c.args.self c.if-self-gt0.false _ _ _ (sym c.key.ensures ∙ c.in-Possible.is) (sym c.is_stale.ensures ∙ c.if-not-is_stale.false) c.if-required.false c.remove_key.ensures
