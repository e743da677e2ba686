-- The phase that is held says whether this is the first call, and whether more has to be scanned.
use mathlib.Core.Path.{◌∙◌, ◌≡◌, ap, sym}
use native.Mathlib.Omega.{arith}
use Rattle.driver.specs.Held.{phase_at, word}
use Rattle.stream.specs.Phase.{fresh_number, phase_of, scanning_number}
use Rattle.stream.proofs.Called.{begun_calls, last_calls}
use Rattle.stream.proofs.next_scanned.Goals as goal

pub returns-in-Fresh : goal.returns-in-Fresh
returns-in-Fresh c =
    let s = c.args in
    let o = c.start in
    λ gone x k. begun_calls s.limits s.text.now s.held.now s.words.now s.bytes.now o.new.held o.new.token o.result c.told-held c.requires.0 (fresh_number _ (sym c.from.ensures ∙ c.in-Fresh.is)) o.ensures k

pub go_on-requires : goal.go_on-requires
go_on-requires c = (c.requires.0, c.requires.1, scanning_number _ (sym c.from.ensures ∙ c.in-Scanning.is), c.requires.2)

pub returns-in_default : goal.returns-in_default
returns-in_default c =
    let s = c.args in
    let a = c.last_answer in
    λ gone x k. last_calls s.limits s.text.now s.held.now s.words.now s.bytes.now c.requires.2
    (let f : word s.held.now phase_at ≡ 0 → ⊥ = λ e. c.in_default.not-Fresh (c.from.ensures ∙ ap phase_of e) in
    let g : word s.held.now phase_at ≡ 1 → ⊥ = λ e. c.in_default.not-Scanning (c.from.ensures ∙ ap phase_of e) in
    omega (arith, f, g))
    a.ensures.0 a.ensures.1 k
