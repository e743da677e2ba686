use Rattle.std.proofs.Common.{◌≤◌, length}
use Rattle.showing.proofs.line.skip_chars.Given as goal

abbrev pub invariant-loop : goal.invariant-loop
invariant-loop l = (l.from ≤ l.at) × (l.at ≤ length l.s)
