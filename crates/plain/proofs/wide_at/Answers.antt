-- A character is as long as its lead byte tells.
use Prim.Native.Nat.{◌<◌, ℕ}
use mathlib.Core.Path.{◌∙◌, ◌≡◌, ap}
use native.Mathlib.Omega.{arith}
use lib.ListN.{get_or, length}
use Rattle.yaml_text.specs.Utf8.{len_of, three, two}
use Rattle.utf8.proofs.Laws.{case2, case3}
use Rattle.chars.specs.Bytes.{byte_within}
use Rattle.plain.proofs.wide_at.Goals as goal
use Rattle.plain.proofs.wide_at.Goals.{After-lead_len}

inside : (c : After-lead_len) → c.args.at < length c.args.text.now
inside c = let a = c.args in byte_within a.text.now a.at a.b c.requires.1 (omega (arith, c.requires.2))

led : (c : After-lead_len) → c.lead_len.result ≡ len_of (get_or c.args.text.now c.args.at 0)
led c = c.lead_len.ensures ∙ ap len_of c.requires.1

pub returns-in-2 : goal.returns-in-2
returns-in-2 c =
    let lead = (goal.at.returns-in-2 c).After-lead_len in
    case2 c.args.text.now c.args.at (inside lead) _ (led lead) c.in-2.is _ _ c.byte.ensures
    (c.two_bytes.ensures ∙ ap (λ (b : ℕ). two b c.byte.result) c.requires.1)

pub returns-in-3 : goal.returns-in-3
returns-in-3 c =
    let lead = (goal.at.returns-in-3 c).After-lead_len in
    case3 c.args.text.now c.args.at (inside lead) _ (led lead) c.in-3.is _ _ _ c.byte-in-3.ensures
    c.byte-in-3-2.ensures (c.three_bytes.ensures ∙ ap (λ (b : ℕ). three b c.byte-in-3.result c.byte-in-3-2.result) c.requires.1)
