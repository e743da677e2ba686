-- The definition asks for the candidate as the code does.
use mathlib.Core.Path.{◌∙◌, sym}
use Rattle.states.specs.State.{key_mark}
use Rattle.indicators.proofs.Value.{value_absent, value_possible}
use Rattle.indicators.proofs.fetch_value.Goals as goal

pub value_without-requires : goal.value_without-requires
value_without-requires c = let p = c.requires in (p.0, p.1, sym c.key-k.ensures ∙ c.in-Absent.is)

pub value_with-requires : goal.value_with-requires
unfolding key_mark
value_with-requires c = let p = c.requires in (p.0, p.1, rw (sym c.key-k.ensures ∙ c.in-Possible.is))

pub returns-in-Absent : goal.returns-in-Absent
returns-in-Absent c = λ n. value_absent (sym c.key-k.ensures ∙ c.in-Absent.is) (c.value_without.ensures n)

pub returns-in-Possible : goal.returns-in-Possible
returns-in-Possible c = λ n. value_possible (sym c.key-k.ensures ∙ c.in-Possible.is) (c.value_with.ensures n)
