-- None, one or two empty records end before slot j.
use mathlib.Core.Path.{◌≡◌}
use native.Mathlib.Omega.{arith}
use Rattle.records.specs.Noted.{noted_number}
use Rattle.sink.specs.Settle.{extra}
use Rattle.sink.proofs.Pass.{goes_none, goes_one, goes_two, put_none, put_one, put_two}
use Rattle.sink.proofs.block.put_before.Goals as goal
use Rattle.sink.proofs.block.put_before.Goals.{In-Some-first, In_default-first}

-- where there is no second kind, and where there is one
one : (c : In_default-first) → extra (noted_number c.args.n) ≡ 1
one c = (goes_one _ c.in-Some.is c.first-2.ensures c.args.n c.first.ensures c.rest.ensures c.in_default-first.is).0

two : (c : In-Some-first) → extra (noted_number c.args.n) ≡ 2
two c = (goes_two _ c.in-Some.is c.first-2.ensures c.args.n _ c.first.ensures c.rest.ensures c.in-Some-first.is).0

pub returns-in_default : goal.returns-in_default
returns-in_default c = let a = c.args in put_none a.n a.j a.x a.words.now (goes_none a.n c.first.ensures c.in_default.is)

pub overflow_sub-j : goal.overflow_sub-j
overflow_sub-j c = omega (arith, one (goal.at.overflow_sub-j c).In_default-first)

pub put_empty-requires : goal.put_empty-requires
put_empty-requires c = omega (arith, one (goal.at.put_empty-requires c).In_default-first)

pub overflow_sub-result : goal.overflow_sub-result
overflow_sub-result c = omega (arith, one (goal.at.overflow_sub-result c).In_default-first)

pub returns-in_default-first : goal.returns-in_default-first
returns-in_default-first c =
    let a = c.args in
    put_one a.n a.j _ a.x a.words.now _
    (goes_one _ c.in-Some.is c.first-2.ensures a.n c.first.ensures c.rest.ensures c.in_default-first.is)
    c.put_empty.ensures

pub overflow_sub-j-2 : goal.overflow_sub-j-2
overflow_sub-j-2 c = omega (arith, two (goal.at.overflow_sub-j-2 c).In-Some-first)

pub put_empty-requires-2 : goal.put_empty-requires-2
put_empty-requires-2 c = omega (arith, two (goal.at.put_empty-requires-2 c).In-Some-first)

pub overflow_sub-j-3 : goal.overflow_sub-j-3
overflow_sub-j-3 c = omega (arith, two (goal.at.overflow_sub-j-3 c).In-Some-first)

pub put_empty-requires-3 : goal.put_empty-requires-3
put_empty-requires-3 c = omega (arith, two (goal.at.put_empty-requires-3 c).In-Some-first, c.put_empty-2.auto.words, c.requires)

pub overflow_sub-result-2 : goal.overflow_sub-result-2
overflow_sub-result-2 c = omega (arith, two (goal.at.overflow_sub-result-2 c).In-Some-first)

pub returns : goal.returns
returns c =
    let a = c.args in
    let w = two (goal.at.returns c).In-Some-first in
    put_two a.n a.j _ _ a.x a.words.now _ _ (omega arith)
    (goes_two _ c.in-Some.is c.first-2.ensures a.n _ c.first.ensures c.rest.ensures c.in-Some-first.is)
    c.put_empty-2.ensures c.put_empty-3.ensures
