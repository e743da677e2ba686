use Rattle.directives.proofs.Versions.{Counting}
use Rattle.directives.proofs.version.version_digits.Given as goal

abbrev pub invariant-loop-digits : goal.invariant-loop-digits
invariant-loop-digits l = Counting l.text l.start l.initial.place l.place l.value l._digits
