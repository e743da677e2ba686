-- One name that opens this crate's definition: a statement that computes says `unfolding all_open stream_open`.
use Rattle.std.specs.Prelude.{ℕ}
use Rattle.yaml_stream.specs.Stream.{begun, behind, brings, budget, call, crowded, first_of, fresh, give, hear, possible, ready, sought, stepped, waits}

unfoldable pub stream_open : ℕ
unfolding begun behind brings budget call crowded first_of fresh give hear possible ready sought stepped waits
stream_open = 0
