-- What the steps come to is told, and held.
use mathlib.Core.Path.{◌∙◌, ap, refl}
use Rattle.std.specs.Prelude.{Ok, Err}
use Rattle.driver.specs.declared.Outcome.TheVariants.{Ready, Scanned}
use Rattle.stream.proofs.Called.{scan_told}
use Rattle.stream.proofs.scan_on.Goals as goal

pub returns-in-Ok-Scanned : goal.returns-in-Ok-Scanned
returns-in-Ok-Scanned c =
    let s = c.args in
    let t = c.to_front in
    let d = c.all_steps-o in
    let k = rw c.in-Ok-Scanned.is at c.in-Ok-Scanned.field-0-is in
    scan_told s.limits s.text.now s.held.now s.words.now s.bytes.now t.new.held t.new.words d.new.held c.close.new.held d.new.words d.new.bytes d.result (Ok (Scanned c.in-Ok-Scanned.m)) t.ensures d.ensures (c.in-Ok-Scanned.is ∙ ap Ok k) d.auto.words d.auto.bytes c.close.ensures

pub returns-in-Ok-Ready : goal.returns-in-Ok-Ready
returns-in-Ok-Ready c =
    let s = c.args in
    let t = c.to_front in
    let d = c.all_steps-o in
    let k = rw c.in-Ok-Ready.is at c.in-Ok-Ready.field-0-is in
    scan_told s.limits s.text.now s.held.now s.words.now s.bytes.now t.new.held t.new.words d.new.held d.new.held d.new.words d.new.bytes d.result (Ok Ready) t.ensures d.ensures (c.in-Ok-Ready.is ∙ ap Ok k) d.auto.words d.auto.bytes refl

pub returns-in-Err : goal.returns-in-Err
returns-in-Err c =
    let s = c.args in
    let t = c.to_front in
    let d = c.all_steps-o in
    scan_told s.limits s.text.now s.held.now s.words.now s.bytes.now t.new.held t.new.words d.new.held c.hold_refusal.new.held d.new.words d.new.bytes d.result (Err c.in-Err.f) t.ensures d.ensures c.in-Err.is d.auto.words d.auto.bytes c.hold_refusal.ensures
